use Rattle.diagram.specs.LowerLaws.{clash_is}
use borrow.Author.Rules.{rules}
use Rattle.diagram.proofs.lower.clash.Goals as goal

pub returns : goal.returns
returns c = search (rules, clash_is)
