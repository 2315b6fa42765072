use Prim.Native.Nat.{◌≤◌}
use Rattle.diagram.proofs.collect.fewer.Given as goal

abbrev pub invariant-loop-b : goal.invariant-loop-b
invariant-loop-b l = (1 ≤ l.buckets → 1 ≤ l.b) × (l.b ≤ l.buckets)

abbrev pub decreases-loop-b : goal.decreases-loop-b
decreases-loop-b l = l.b
