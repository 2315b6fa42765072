use Rattle.text.specs.SqueezeLaws.{none_ensures}
use Rattle.text.proofs.squeeze.Squeeze.none.Goals as goal

pub returns : goal.returns
returns c = none_ensures
