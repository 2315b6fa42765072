use Rattle.diagram.specs.Fields.{Cleared}
use Rattle.diagram.proofs.fields.clear.Given as goal

abbrev pub invariant-loop-i : goal.invariant-loop-i
invariant-loop-i l = Cleared l.initial.s l.s l.f l.i
