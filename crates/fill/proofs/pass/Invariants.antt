use Rattle.fill.specs.Fill.{FillInvariant}
use Rattle.fill.proofs.pass.Given as goal

abbrev pub invariant-loop-a : goal.invariant-loop-a
invariant-loop-a l = FillInvariant l.d
