use Rattle.std.specs.Prelude.{refl}
use borrow.Author.Rules.{rules}
use Rattle.std.proofs.lemmas.Result.{err_from_is_err_and}
use Rattle.text.specs.RespondLaws.{operand_valid}
use Rattle.text.specs.PerformLaws.{performs_empty, performs_gate_refused, performs_gate}
use Rattle.text.proofs.engine.Engine.perform_gate.Goals as goal

pub returns-in_err-x-clause-performs : goal.returns-in_err-x-clause-performs
returns-in_err-x-clause-performs c =
    let p = err_from_is_err_and c.from_residual.result c.from_residual.ensures.1 in
    rw p.1 (performs_empty _ c.requires.0 c.requires.1.0 c.in_err-x.ensures.1)

pub apply-requires : goal.apply-requires
apply-requires c =
    (search rules, (search rules, (operand_valid c.requires.0.registers c.in_ok-x.ensures, search rules)))

pub returns-in_err-apply-clause-performs : goal.returns-in_err-apply-clause-performs
returns-in_err-apply-clause-performs c =
    let p = err_from_is_err_and c.from_residual-in_err-apply.result c.from_residual-in_err-apply.ensures.1 in
    let pre = c.requires in
    rw p.1
    (performs_gate_refused _ pre.0 pre.1.0 pre.1.1 c.in_ok-x.ensures c.in_err-apply.ensures.sets refl)

pub returns-clause-performs : goal.returns-clause-performs
returns-clause-performs c =
    let pre = c.requires in
    performs_gate _ pre.0 pre.1.0 pre.1.1 c.in_ok-x.ensures c.in_ok-apply.ensures.sets refl
    c.drop_collect.ensures.drops
