use Rattle.verdict.specs.VerdictLaws.{run_within}
use Rattle.verdict.proofs.lend.Goals as goal

pub show-requires : goal.show-requires
show-requires c = run_within _ c.run-outcome.ensures.judges
