use Rattle.diagram.specs.ContractLaws.{combine_sum, combine_join}
use borrow.Author.Rules.{rules}
use Rattle.diagram.proofs.diagram.Diagram.combine.Goals as goal

pub returns-then-has-clause-does : goal.returns-then-has-clause-does
returns-then-has-clause-does c = search (rules, combine_sum)

pub returns-clause-does : goal.returns-clause-does
returns-clause-does c = search (rules, combine_join)
