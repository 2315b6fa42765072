use Rattle.diagram.specs.Mark.{SpreadLoop}
use Rattle.diagram.specs.Node.{node_at}
use Rattle.diagram.specs.Fields.{field}
use Prim.Native.Nat.{◌-◌}
use Rattle.diagram.proofs.mark.spread.Given as goal

abbrev pub invariant-loop-n : goal.invariant-loop-n
invariant-loop-n l = SpreadLoop (λ j. field l.initial.s 5 (j - 1)) (node_at l.initial.s) l.count l.s l.n
