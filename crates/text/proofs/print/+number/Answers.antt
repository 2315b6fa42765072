-- The digits but the last are put by the call on n / 10, which is less than n; then the last one.
use native.Mathlib.Omega.{arith}
use Rattle.text.specs.PrintLaws.{digit_room, digit_put, digits_room, last_room, last_put}
use Rattle.text.proofs.print.+number.Goals as goal

pub bounds-out-at : goal.bounds-out-at
bounds-out-at t c = digit_room _ _ _ c.if-n-lt10.true c.requires

pub returns-then-n-lt10 : goal.returns-then-n-lt10
returns-then-n-lt10 t c = rw c.digit_byte.ensures (digit_put _ _ _ c.if-n-lt10.true c.requires)

pub number-e-requires : goal.number-e-requires
number-e-requires t c = (
  omega (arith, c.decreases),
  omega (arith, digits_room _ _ _ c.if-n-lt10.false c.ranges.n.fits c.requires),
)

pub bounds-out-e : goal.bounds-out-e
bounds-out-e t c = (last_room c.if-n-lt10.false c.ranges.n.fits c.requires c.number-e.ensures).0

pub overflow_add-result-2 : goal.overflow_add-result-2
overflow_add-result-2 t c =
    omega (
      arith,
      last_room c.if-n-lt10.false c.ranges.n.fits c.requires c.number-e.ensures,
      c.well_formed,
    )

pub returns : goal.returns
returns t c =
    rw c.digit_byte-2.ensures (last_put c.if-n-lt10.false c.ranges.n.fits c.requires
    c.number-e.ensures)
