-- As `respond_add`, goal by goal, by the laws of its own call.
use Rattle.std.specs.Prelude.{◌≡◌, Err}
use borrow.Author.Rules.{rules}
use Rattle.text.specs.RespondLaws.{empty_cont, empty_cont_2, operand_valid, responds_cont}
use Rattle.text.specs.declared.call.Refusal.TheVariants.{Empty}
use Rattle.text.proofs.engine.Engine.respond_cont.Goals as goal

pub returns-in_err-x-clause-responds : goal.returns-in_err-x-clause-responds
returns-in_err-x-clause-responds c =
    let empty : c.from_residual.result ≡ Err Empty = search rules in
    rw empty (empty_cont c.requires.0 c.in_err-x.ensures.1)

pub returns-in_err-y-clause-responds : goal.returns-in_err-y-clause-responds
returns-in_err-y-clause-responds c =
    let empty : c.from_residual-in_err-y.result ≡ Err Empty = search rules in
    rw empty (empty_cont_2 c.requires.0 c.in_ok-x.ensures c.in_err-y.ensures.1)

pub cont-requires : goal.cont-requires
cont-requires c =
    let valid = c.requires.0.registers in (
      search rules,
      (search rules, (operand_valid valid c.in_ok-x.ensures, (operand_valid valid c.in_ok-y.ensures, search rules))),
    )

pub returns-clause-responds : goal.returns-clause-responds
returns-clause-responds c = responds_cont c.in_ok-x.ensures c.in_ok-y.ensures c.cont.ensures.sets
