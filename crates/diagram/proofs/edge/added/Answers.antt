use Rattle.diagram.specs.EdgeLaws.{edge_sum_none}
use borrow.Author.Rules.{rules}
use Rattle.diagram.proofs.edge.added.Goals as goal

pub returns-then-weight-eq0 : goal.returns-then-weight-eq0
returns-then-weight-eq0 c = search (rules, edge_sum_none)
