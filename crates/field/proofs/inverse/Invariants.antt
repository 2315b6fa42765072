use Rattle.field.specs.Field.{DescentLoop}
use Rattle.field.proofs.inverse.Given as goal

abbrev pub invariant-loop-d : goal.invariant-loop-d
invariant-loop-d l = DescentLoop l.a l.d.factor l.d.rest

abbrev pub decreases-loop-d : goal.decreases-loop-d
decreases-loop-d l = l.d.rest
