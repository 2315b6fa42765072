use Rattle.diagram.specs.ContractLaws.{factored_by}
use borrow.Author.Rules.{rules}
use Rattle.diagram.proofs.contract.factored.Goals as goal

pub returns : goal.returns
returns c = search (rules, factored_by)
