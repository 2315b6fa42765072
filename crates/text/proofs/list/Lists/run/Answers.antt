use Rattle.std.specs.Prelude.{refl}
use Rattle.std.proofs.lemmas.Result.{err_from_is_err_and}
use Rattle.text.specs.ListLaws.{list_ensures, list_refused}
use Rattle.text.proofs.list.Lists.run.Goals as goal

pub returns-in_err-open-clause-runs : goal.returns-in_err-open-clause-runs
returns-in_err-open-clause-runs c =
    let p = err_from_is_err_and c.from_residual.result c.from_residual.ensures.1 in
    let o = c.in_err-open.ensures in
    rw p.1 (list_refused c.requires.1.0 o.text.engine.loans.long o.opens refl)

pub returns-clause-runs : goal.returns-clause-runs
returns-clause-runs c =
    let o = c.in_ok-open.ensures in
    list_ensures o.text.engine.loans.long o.opens
    (rw (o.text.same_text, o.text.same_qubits) at c.gates.ensures.runs)
