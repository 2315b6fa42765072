use Rattle.std.proofs.Common.{rules}
use Rattle.verdict.specs.VerdictLaws.{run_judged, run_cut, run_whole}
use Rattle.verdict.proofs.run.Goals as goal

pub returns-in_err-receive-clause-judges : goal.returns-in_err-receive-clause-judges
returns-in_err-receive-clause-judges g c = run_cut (search rules) c.in_err-receive.ensures.reads

pub returns-clause-judges : goal.returns-clause-judges
returns-clause-judges g c = run_judged c.in_ok-receive.ensures.reads c.judge.ensures

pub returns-clause-whole : goal.returns-clause-whole
returns-clause-whole g c =
    run_whole c.in_ok-receive.ensures.takes c.in_ok-receive.ensures.ended c.judge.ensures
