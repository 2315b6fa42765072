use Prim.Native.Nat.{◌+◌, ◌-◌}
use native.Mathlib.Omega.{arith}
use mathlib.Core.Path.{◌≡◌}
use Rattle.diagram.proofs.mark.spread.Goals as goal

pub loop-n-preserved : goal.loop-n-preserved
loop-n-preserved c =
    let here : c.loop-n.n - 1 + 1 ≡ c.loop-n.n = omega arith in
    (rw here at c.mark_children.ensures).on _ _ c.requires.1 c.loop-n.invariant
