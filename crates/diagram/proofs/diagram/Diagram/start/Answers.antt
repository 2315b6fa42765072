use Rattle.diagram.specs.RestoreLaws.{start_ensures}
use borrow.Author.Rules.{rules}
use Rattle.diagram.proofs.diagram.Diagram.start.Goals as goal

pub returns-clause-start : goal.returns-clause-start
returns-clause-start c = search (rules, start_ensures)
