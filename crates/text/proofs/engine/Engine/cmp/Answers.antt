use Rattle.std.specs.Prelude.{◌≡◌, Err}
use borrow.Author.Rules.{rules}
use Rattle.text.specs.RespondLaws.{empty_cmp, empty_cmp_2, operand_small, responds_cmp}
use Rattle.text.specs.declared.call.Refusal.TheVariants.{Empty}
use Rattle.text.proofs.engine.Engine.cmp.Goals as goal

pub returns-in_err-x : goal.returns-in_err-x
returns-in_err-x c =
    let empty : c.from_residual.result ≡ Err Empty = search rules in
    rw empty (record { on = λ s. record { on = λ k p. empty_cmp p c.in_err-x.ensures.1 } })

pub returns-in_err-y : goal.returns-in_err-y
returns-in_err-y c =
    let empty : c.from_residual-in_err-y.result ≡ Err Empty = search rules in
    rw empty (record { on = λ s. record { on = λ k p. empty_cmp_2 p c.in_ok-x.ensures c.in_err-y.ensures.1 } })

pub compare-requires : goal.compare-requires
compare-requires c =
    (operand_small c.requires.0 c.in_ok-x.ensures, operand_small c.requires.0 c.in_ok-y.ensures)

pub returns : goal.returns
returns c = record {
  on = λ s. record { on = λ k p. responds_cmp p c.in_ok-x.ensures c.in_ok-y.ensures c.compare.ensures };
}
