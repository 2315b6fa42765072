use Rattle.diagram.specs.Node.{decode}
use Rattle.diagram.specs.NodeLaws.{read_by}
use borrow.Author.Rules.{rules}
use Rattle.diagram.proofs.node.read.Goals as goal

pub returns : goal.returns
unfolding decode
returns c = (search (rules, read_by), search rules)
