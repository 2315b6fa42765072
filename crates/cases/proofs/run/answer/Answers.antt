use Rattle.std.proofs.Common.{rules}
use Rattle.text.specs.JudgeLaws.{verdict_within}
use Rattle.cases.proofs.run.answer.Goals as goal

pub slice_bounds-out-end : goal.slice_bounds-out-end
slice_bounds-out-end c = search (rules, verdict_within)

pub slice_bounds-write_all-end : goal.slice_bounds-write_all-end
slice_bounds-write_all-end c = search (rules, verdict_within)
