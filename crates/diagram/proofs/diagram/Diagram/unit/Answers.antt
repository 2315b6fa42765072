use Rattle.diagram.specs.UnitLaws.{unit_whole}
use borrow.Author.Rules.{rules}
use Rattle.diagram.proofs.diagram.Diagram.unit.Goals as goal

pub returns-clause-does : goal.returns-clause-does
returns-clause-does c = search (rules, unit_whole)
