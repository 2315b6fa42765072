use Rattle.diagram.specs.MaskLaws.{bits_at}
use mathlib.Core.Path.{sym}
use Rattle.diagram.proofs.mask.has.Goals as goal

pub returns : goal.returns
returns c = sym (bits_at _ _)
