use Rattle.diagram.specs.Fields.{field}
use native.Mathlib.Omega.{arith}
use Rattle.diagram.proofs.fields.get.Goals as goal

pub returns : goal.returns
unfolding field
returns c = omega arith
