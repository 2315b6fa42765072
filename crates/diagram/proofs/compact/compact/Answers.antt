use Rattle.diagram.specs.CompactLaws.{compact_start, ahead_children, compact_below}
use lib.ListN.{length}
use native.Mathlib.Omega.{arith}
use Prim.Native.Nat.{◌*◌, ◌≤◌}
use mathlib.Core.Path.{◌≡◌}
use Rattle.diagram.proofs.compact.compact.Goals as goal

pub loop-m-init : goal.loop-m-init
loop-m-init c = compact_start _ _

pub compact_step-k-requires : goal.compact_step-k-requires
compact_step-k-requires c =
    let long : 16 * c.args.count ≤ length c.loop-m.s = omega (arith, c.requires.0) in (
      c.loop-m-test.true,
      (
        long,
        (
          c.requires.1.0,
          (
            compact_below c.loop-m.invariant,
            ahead_children _ _ _ _ _ _ long c.requires.1.1 c.loop-m.invariant c.loop-m-test.true,
          ),
        ),
      ),
    )

pub returns : goal.returns
returns c =
    let done : c.loop-m.m ≡ c.args.count = omega (arith, c.loop-m.invariant.within) in
    let end = rw done at c.loop-m.invariant in
    record { counted = end.counted; moved = end.moved; numbers = end.numbers }
