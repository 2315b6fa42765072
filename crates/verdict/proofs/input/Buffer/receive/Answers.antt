use Rattle.std.specs.Prelude.{Ok}
use Rattle.std.proofs.Common.{rules, refl}
use Rattle.verdict.specs.InputLaws.{reads_start, reads_more, reads_end, reads_failed, reads_none}
use Rattle.verdict.specs.InputLaws.{taken_start, taken_read}
use Rattle.verdict.proofs.input.Buffer.receive.Goals as goal

pub loop-init : goal.loop-init
loop-init g c = (search rules, (reads_start refl refl, taken_start refl))

pub returns-in_err-read-clause-reads : goal.returns-in_err-read-clause-reads
returns-in_err-read-clause-reads g c =
    reads_failed _ c.from_residual.ensures.0 c.loop.invariant.1.0 c.in_err-read.ensures.reads

pub returns-in_err-read-clause-takes : goal.returns-in_err-read-clause-takes
returns-in_err-read-clause-takes g c = taken_read c.loop.invariant.1.1 c.in_err-read.ensures.takes

pub returns-then-branch-eq0-clause-reads : goal.returns-then-branch-eq0-clause-reads
returns-then-branch-eq0-clause-reads g c =
    reads_end c.if-branch-eq0.true c.loop.invariant.1.0 c.in_ok-read.ensures.reads

pub returns-then-branch-eq0-clause-takes : goal.returns-then-branch-eq0-clause-takes
returns-then-branch-eq0-clause-takes g c = taken_read c.loop.invariant.1.1 c.in_ok-read.ensures.takes

pub loop-preserved : goal.loop-preserved
loop-preserved g c =
    let read = c.in_ok-read.ensures in (
      search rules,
      (
        reads_more _ c.if-branch-eq0.false c.loop.invariant.1.0 read.loans read.reads,
        taken_read {r = Ok _} c.loop.invariant.1.1 read.takes,
      ),
    )

pub returns-clause-reads : goal.returns-clause-reads
returns-clause-reads g c = reads_none c.loop.invariant.1.0
