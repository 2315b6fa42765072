-- As `at`, goal by goal, by the laws of its own call.
use Rattle.std.specs.Prelude.{◌≡◌, Err}
use borrow.Author.Rules.{rules}
use Rattle.text.specs.RespondLaws.{empty_on, operand_valid, responds_on}
use Rattle.text.specs.declared.call.Refusal.TheVariants.{Empty}
use Rattle.text.proofs.engine.Engine.on.Goals as goal

pub returns-in_err-x : goal.returns-in_err-x
returns-in_err-x c =
    let empty : c.from_residual.result ≡ Err Empty = search rules in
    rw empty (record { on = λ k p. empty_on p c.in_err-x.ensures.1 })

pub support-m-requires : goal.support-m-requires
support-m-requires c = (c.requires.0, operand_valid c.requires.1.0 c.in_ok-x.ensures)

pub returns : goal.returns
returns c = record {
  on = λ k p. responds_on p c.in_ok-x.ensures c.support-m.ensures.0 c.support-m.ensures.1;
}
