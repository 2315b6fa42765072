use Rattle.std.proofs.lemmas.Result.{err_from_is_err_and}
use Rattle.session.specs.OutcomeLaws.{finish_complete, finish_unwritten}
use Rattle.session.proofs.answer.Session.finish.Goals as goal

pub returns-in_err-last-clause-finishes : goal.returns-in_err-last-clause-finishes
returns-in_err-last-clause-finishes g c =
    let p = err_from_is_err_and c.from_residual-in_err-last.result c.from_residual-in_err-last.ensures.1 in
    rw (p.1, p.2) (finish_unwritten c.in_ok-received.was c.in_err-last.ensures.ends)

pub returns-clause-finishes : goal.returns-clause-finishes
returns-clause-finishes g c = finish_complete c.in_ok-received.was c.in_ok-last.ensures.ends
