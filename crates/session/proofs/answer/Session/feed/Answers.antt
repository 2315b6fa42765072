use Rattle.std.proofs.lemmas.Result.{err_from_is_err_and}
use Rattle.std.proofs.Common.{rules}
use Rattle.session.specs.FeedLaws.{feed_stays, feed_step, feed_lost}
use Rattle.session.proofs.answer.Session.feed.Goals as goal

pub loop-b-preserved : goal.loop-b-preserved
loop-b-preserved g c =
    (feed_step _ (search rules) c.loop-b.invariant.0 c.in_ok-step.was c.step.ensures.takes, search rules)

pub returns-in_err-step-clause-feeds : goal.returns-in_err-step-clause-feeds
returns-in_err-step-clause-feeds g c =
    let p = err_from_is_err_and c.from_residual-in_err-step.result c.from_residual-in_err-step.ensures.1 in
    rw p.1 (feed_lost _ (search rules) c.loop-b.invariant.0 c.in_err-step.was c.step.ensures.takes)

pub returns-in_err-may_run-clause-feeds : goal.returns-in_err-may_run-clause-feeds
returns-in_err-may_run-clause-feeds g c =
    let p = err_from_is_err_and c.from_residual.result c.from_residual.ensures.1 in
    rw p.1 (feed_stays c.may_run.ensures c.in_err-may_run.was c.requires)
