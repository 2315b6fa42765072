-- Up to eight digits make a number below 10^8, so nothing wraps.
use Rattle.std.proofs.Common.{sym, ◌∙◌}
use Rattle.text.specs.NumberLaws.{read_digits_loop_next}
use Rattle.text.specs.NumberLaws.{read_digits_loop_none, read_digits_loop_end}
use Rattle.text.proofs.number.read_digits.Goals as goal

pub returns-then-not-is_ascii_digit : goal.returns-then-not-is_ascii_digit
returns-then-not-is_ascii_digit c = read_digits_loop_none c.loop-x.invariant c.loop-x-test.true
    (sym c.is_ascii_digit.ensures.value ∙ c.if-not-is_ascii_digit.true)

pub loop-x-preserved : goal.loop-x-preserved
loop-x-preserved c = rw c.from.ensures (read_digits_loop_next c.loop-x.invariant c.loop-x-test.true
    (sym c.is_ascii_digit.ensures.value ∙ c.if-not-is_ascii_digit.false))

pub returns : goal.returns
returns c = read_digits_loop_end c.loop-x.invariant c.loop-x-test.false
