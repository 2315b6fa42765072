use Rattle.fill.specs.Fill.{FillInvariant}
use Rattle.fill.proofs.row.Given as goal

abbrev pub invariant-loop-b : goal.invariant-loop-b
invariant-loop-b l = FillInvariant l.d
