-- Sum in the store (document 01, sum): the edges that are split.
use Rattle.std.specs.Prelude.{◌≡◌, ◌≢◌}
use Rattle.diagram.specs.declared.node.Edge.{Edge}

-- edges to different nodes, the first with its weight taken out
pub record SumReduced (a b : Edge) : Type 0 where
  pub left : a.weight ≡ 1
  pub right : b.weight ≢ 0
  pub nodes : a.node ≢ b.node
