use Rattle.diagram.specs.Mark.{RootsLoop}
use Rattle.diagram.proofs.mark.roots.Given as goal

abbrev pub invariant-loop-r : goal.invariant-loop-r
invariant-loop-r l = RootsLoop l.count l.r-items l.initial.s l.s l.r-index
