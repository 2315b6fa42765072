use mathlib.Core.Path.{◌∙◌}
use native.Mathlib.Omega.{arith}
use Rattle.text.specs.CallLaws.{lowered_odd, lowered_even}
use Rattle.text.proofs.call.check_lowered.Goals as goal

pub returns-then-odd : goal.returns-then-odd
returns-then-odd c = lowered_odd _ _ (omega (arith, c.if-odd.true))

pub returns : goal.returns
returns c = c.check_range.ensures ∙ lowered_even _ _ (λ q. omega (arith, q, c.if-odd.false))
