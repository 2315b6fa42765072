use Rattle.diagram.specs.EdgeLaws.{level_of_constant, level_of_node, level_inside}
use borrow.Author.Rules.{rules}
use Rattle.diagram.proofs.edge.top.Goals as goal

pub returns-then-a-eq0 : goal.returns-then-a-eq0
returns-then-a-eq0 c = search (rules, level_of_constant)

pub returns : goal.returns
returns c = search (rules, level_of_node, level_inside)
