use mathlib.Core.Path.{refl}
use native.Mathlib.Omega.{arith}
use Rattle.field.specs.FieldLaws.{remainder_below, quotient_bounds, descent_low, descent_high}
use Rattle.field.proofs.descend.Goals as goal

pub overflow_sub-high : goal.overflow_sub-high
overflow_sub-high c = omega (arith, remainder_below _ c.requires.1.0)

pub overflow_sub-q : goal.overflow_sub-q
overflow_sub-q c = let pre = c.requires in omega (arith, quotient_bounds _ pre.1.0 pre.1.1)

pub mul-factor-requires : goal.mul-factor-requires
mul-factor-requires c =
    let pre = c.requires in
    (pre.0, omega (arith, quotient_bounds _ pre.1.0 pre.1.1))

pub returns-then-low-high : goal.returns-then-low-high
returns-then-low-high c =
    let pre = c.requires in
    descent_low pre.1.0 pre.1.1 refl refl c.mul-factor.ensures

pub overflow_add-q : goal.overflow_add-q
overflow_add-q c = let pre = c.requires in omega (arith, quotient_bounds _ pre.1.0 pre.1.1)

pub mul-factor-requires-2 : goal.mul-factor-requires-2
mul-factor-requires-2 c =
    let pre = c.requires in
    (pre.0, omega (arith, quotient_bounds _ pre.1.0 pre.1.1))

pub returns : goal.returns
returns c =
    let pre = c.requires in
    descent_high pre.1.0 pre.1.1 refl refl refl c.mul-factor-2.ensures
