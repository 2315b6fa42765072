use Rattle.std.proofs.Common.{rules}
use Rattle.text.specs.AgreesLaws.{session_within}
use Rattle.script.proofs.run.answer.Goals as goal

pub slice_bounds-write_all-end : goal.slice_bounds-write_all-end
slice_bounds-write_all-end c = search (rules, session_within)

pub slice_bounds-write_all-end-2 : goal.slice_bounds-write_all-end-2
slice_bounds-write_all-end-2 c = search (rules, session_within)
