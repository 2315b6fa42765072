use Rattle.diagram.specs.Compact.{CompactLoop}
use Rattle.diagram.specs.Node.{node_at}
use Rattle.diagram.specs.Fields.{field}
use Prim.Native.Nat.{◌-◌}
use Rattle.diagram.proofs.compact.compact.Given as goal

abbrev pub invariant-loop-m : goal.invariant-loop-m
invariant-loop-m l = CompactLoop (λ n. field l.initial.s 5 (n - 1)) (node_at l.initial.s) l.count l.s l.m l.k
