use Rattle.std.proofs.Common.{◌-◌}
use Rattle.diagram.specs.Tensor.{index_count}
use Rattle.diagram.proofs.diagram.Diagram.+part.Given as goal

abbrev pub decreases-part : goal.decreases-part
decreases-part l = index_count - l.k
