use Rattle.std.specs.Prelude.{◌≡◌, Err}
use borrow.Author.Rules.{rules}
use Rattle.text.specs.RespondLaws.{empty_at, operand_valid, responds_at}
use Rattle.text.specs.declared.call.Refusal.TheVariants.{Empty}
use Rattle.text.proofs.engine.Engine.at.Goals as goal

pub returns-in_err-x : goal.returns-in_err-x
returns-in_err-x c =
    let empty : c.from_residual.result ≡ Err Empty = search rules in
    rw empty (record { on = λ k p. empty_at p c.in_err-x.ensures.1 })

pub value-w-requires : goal.value-w-requires
value-w-requires c = (c.requires.0, operand_valid c.requires.1.0 c.in_ok-x.ensures)

pub returns : goal.returns
returns c = record { on = λ k p. responds_at p c.in_ok-x.ensures c.value-w.ensures }
