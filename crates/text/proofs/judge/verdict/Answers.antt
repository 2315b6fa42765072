use borrow.Author.Rules.{rules}
use Rattle.text.specs.JudgeLaws.{verdict_no_room, verdict_ensures}
use Rattle.text.proofs.judge.verdict.Goals as goal

pub returns-then-out-lt-VERDICT_ROOM : goal.returns-then-out-lt-VERDICT_ROOM
returns-then-out-lt-VERDICT_ROOM c = search (rules, verdict_no_room)

pub returns : goal.returns
returns c = search (rules, verdict_ensures)
