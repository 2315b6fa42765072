use Rattle.diagram.specs.Mask.{DoubledLoop}
use Rattle.diagram.proofs.mask.doubled.Given as goal

abbrev pub invariant-loop : goal.invariant-loop
invariant-loop l = DoubledLoop l.counter l.r
