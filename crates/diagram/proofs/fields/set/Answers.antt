use Rattle.diagram.specs.FieldsLaws.{put_bytes}
use Rattle.diagram.proofs.fields.set.Goals as goal

pub returns : goal.returns
returns c = put_bytes c.args.s.now c.args.f c.args.i c.requires.1 c.to_le_bytes.ensures
