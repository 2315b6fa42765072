use Rattle.std.specs.Prelude.{◌≡◌, Err}
use borrow.Author.Rules.{rules}
use Rattle.text.specs.RespondLaws.{empty_drop, responds_drop}
use Rattle.text.specs.declared.call.Refusal.TheVariants.{Empty}
use Rattle.text.proofs.engine.Engine.drop_register.Goals as goal

pub returns-in_err-operand-clause-responds : goal.returns-in_err-operand-clause-responds
returns-in_err-operand-clause-responds c =
    let empty : c.from_residual.result ≡ Err Empty = search rules in
    rw empty (record { on = λ s. record { on = λ k p. empty_drop p c.in_err-operand.ensures.1 } })

pub returns-clause-responds : goal.returns-clause-responds
returns-clause-responds c = record {
  on = λ s. record { on = λ k p. responds_drop p c.in_ok-operand.ensures c.clear.ensures };
}
