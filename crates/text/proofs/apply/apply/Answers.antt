use Rattle.std.proofs.lemmas.Result.{err_from_is_err_and}
use borrow.Author.Rules.{rules}
use Rattle.text.specs.ApplyLaws.{apply_rising, apply_full, apply_ready, apply_refines}
use Rattle.text.proofs.apply.apply.Goals as goal

pub returns-in_err-a-clause-does : goal.returns-in_err-a-clause-does
returns-in_err-a-clause-does c =
    let p = err_from_is_err_and c.from_residual.result c.from_residual.ensures.1 in
    rw p.1
    (apply_full c.requires.0 c.requires.1 c.in_err-a.ensures.cache.same_words c.of-qubits.ensures
    c.in_err-a.ensures.does)

pub contract_rename-requires : goal.contract_rename-requires
contract_rename-requires c =
    let a = c.in_ok-a.ensures in (
      apply_ready c.requires.0 c.requires.1 a.cache.same_words c.of-qubits.ensures a.does,
      (search rules, search (rules, apply_rising)),
    )

pub returns-clause-does : goal.returns-clause-does
returns-clause-does c =
    let a = c.in_ok-a.ensures in
    apply_refines c.requires.0 c.requires.1 a.cache.same_words c.of-qubits.ensures a.does _ _ _
    c.contract_rename.result c.contract_rename.ensures.does
