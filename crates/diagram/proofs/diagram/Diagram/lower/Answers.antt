use borrow.Author.Rules.{rules}
use Rattle.diagram.specs.LowerLaws.{lower_as_set, lower_refines}
use Rattle.diagram.proofs.diagram.Diagram.lower.Goals as goal

pub lows-requires : goal.lows-requires
lows-requires c = (search rules, search (rules, lower_as_set))

pub returns-clause-does : goal.returns-clause-does
returns-clause-does c = search (rules, lower_refines)
