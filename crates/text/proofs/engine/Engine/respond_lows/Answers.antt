-- As `respond_low`, goal by goal, by the laws of its own call.
use Rattle.std.specs.Prelude.{◌≡◌, Err}
use borrow.Author.Rules.{rules}
use Rattle.text.specs.RespondLaws.{empty_lows, operand_valid, responds_lows}
use Rattle.text.specs.declared.call.Refusal.TheVariants.{Empty}
use Rattle.text.proofs.engine.Engine.respond_lows.Goals as goal

pub returns-in_err-x-clause-responds : goal.returns-in_err-x-clause-responds
returns-in_err-x-clause-responds c =
    let empty : c.from_residual.result ≡ Err Empty = search rules in
    rw empty (empty_lows c.requires.0 c.in_err-x.ensures.1)

pub lows-requires : goal.lows-requires
lows-requires c = (
  search rules,
  (
    search rules,
    (operand_valid c.requires.0.registers c.in_ok-x.ensures, (search rules, search rules)),
  ),
)

pub returns-clause-responds : goal.returns-clause-responds
returns-clause-responds c = responds_lows c.in_ok-x.ensures c.lows.ensures.sets
