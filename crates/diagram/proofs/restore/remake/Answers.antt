use Rattle.diagram.specs.Restore.{built, no_room}
use borrow.Author.Rules.{rules}
use Rattle.diagram.proofs.restore.remake.Goals as goal

pub returns-then-store-ge16 : goal.returns-then-store-ge16
returns-then-store-ge16 c = search (rules, built)

pub returns-else-store-ge16 : goal.returns-else-store-ge16
returns-else-store-ge16 c = search (rules, no_room)
