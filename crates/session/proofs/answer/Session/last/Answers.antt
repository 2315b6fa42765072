use Rattle.std.proofs.lemmas.Result.{err_from_is_err_and}
use Rattle.std.proofs.Common.{rules}
use Rattle.session.specs.FeedLaws.{last_stays, last_line, last_none}
use Rattle.session.proofs.answer.Session.last.Goals as goal

pub returns-then-self-gt0-clause-ends : goal.returns-then-self-gt0-clause-ends
returns-then-self-gt0-clause-ends g c =
    let a = c.answer.ensures in
    last_line c.may_run.ensures c.in_ok-may_run.was (search rules) (search rules) c.requires a.answers a.writes

pub returns-clause-ends : goal.returns-clause-ends
returns-clause-ends g c = last_none c.may_run.ensures c.in_ok-may_run.was (search rules)

pub returns-in_err-may_run-clause-ends : goal.returns-in_err-may_run-clause-ends
returns-in_err-may_run-clause-ends g c =
    let p = err_from_is_err_and c.from_residual.result c.from_residual.ensures.1 in
    rw p.1 (last_stays c.may_run.ensures c.in_err-may_run.was)
