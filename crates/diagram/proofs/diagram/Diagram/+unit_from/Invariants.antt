use Rattle.std.proofs.Common.{◌-◌}
use Rattle.diagram.proofs.diagram.Diagram.+unit_from.Given as goal

abbrev pub decreases-unit_from : goal.decreases-unit_from
decreases-unit_from l = l.n - l.q
