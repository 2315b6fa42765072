use Rattle.std.specs.Prelude.{Ok}
use Rattle.std.proofs.lemmas.Result.{err_from_is_err_and}
use Rattle.std.proofs.Common.{rules}
use Rattle.session.specs.InputLaws.{receive_start, receive_step, receive_end, receive_failed}
use Rattle.session.specs.InputLaws.{taken_none, taken_then}
use Rattle.session.proofs.answer.Session.receive.Goals as goal

pub loop-init : goal.loop-init
loop-init g c = (receive_start c.requires, (search rules, taken_none c.requires))

pub returns-in_err-read-clause-receives : goal.returns-in_err-read-clause-receives
returns-in_err-read-clause-receives g c =
    let p = err_from_is_err_and c.from_residual.result c.from_residual.ensures.1 in
    rw (p.1, p.2) (receive_failed c.loop.invariant.0 _ c.in_err-read.ensures.reads)

pub returns-then-branch-eq0-clause-receives : goal.returns-then-branch-eq0-clause-receives
returns-then-branch-eq0-clause-receives g c =
    receive_end c.loop.invariant.0 c.if-branch-eq0.true c.in_ok-read.ensures.reads

pub returns-in_err-read-clause-takes : goal.returns-in_err-read-clause-takes
returns-in_err-read-clause-takes g c =
    let p = err_from_is_err_and c.from_residual.result c.from_residual.ensures.1 in
    rw (p.1, p.2) (taken_then _ c.loop.invariant.1.1 c.in_err-read.ensures.takes)

pub returns-then-branch-eq0-clause-takes : goal.returns-then-branch-eq0-clause-takes
returns-then-branch-eq0-clause-takes g c = taken_then _ c.loop.invariant.1.1 c.in_ok-read.ensures.takes

pub loop-preserved : goal.loop-preserved
loop-preserved g c =
    let read = c.in_ok-read.ensures in (
      receive_step c.loop.invariant.0 _ c.if-branch-eq0.false read.reads,
      (search rules, taken_then (Ok tt) c.loop.invariant.1.1 read.takes),
    )
