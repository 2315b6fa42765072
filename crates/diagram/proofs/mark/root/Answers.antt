use borrow.Author.Rules.{rules}
use Rattle.diagram.specs.MarkLaws.{root_empty, root_filled}
use Rattle.diagram.proofs.mark.root.Goals as goal

pub returns-in-Some : goal.returns-in-Some
returns-in-Some c = search (rules, root_filled)

pub returns-in_default : goal.returns-in_default
returns-in_default c = search (rules, root_empty)
