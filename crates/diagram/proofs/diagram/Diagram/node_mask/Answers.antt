use Rattle.diagram.specs.JoinLaws.{node_mask_ensures}
use borrow.Author.Rules.{rules}
use Rattle.diagram.proofs.diagram.Diagram.node_mask.Goals as goal

pub returns : goal.returns
returns c = search (rules, node_mask_ensures)
