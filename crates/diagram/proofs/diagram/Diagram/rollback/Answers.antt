-- The table is made anew for the old count, where the store holds a record at all.
use Rattle.diagram.specs.RestoreLaws.{rollback_ensures}
use borrow.Author.Rules.{rules}
use Rattle.diagram.proofs.diagram.Diagram.rollback.Goals as goal

pub returns-clause-rollback : goal.returns-clause-rollback
returns-clause-rollback c = search (rules, rollback_ensures)
