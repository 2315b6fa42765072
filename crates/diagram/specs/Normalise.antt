-- The normal form of a node, from the edges to be joined ("Dividing by the low weight when it is 0" is the blunder to
-- avoid).
use Rattle.std.specs.Prelude.{◌≡◌, ◌≢◌, ◌⊎◌, ℕ, ◌<◌}
use Rattle.field.specs.Weight.{modulus, to_weight, times_w}
use Rattle.diagram.specs.Tensor.{masks}
use Rattle.diagram.specs.Node.{NodeFits}
use Rattle.diagram.specs.declared.node.Node.{Node}
use Rattle.diagram.specs.declared.node.Edge.{Edge}

-- edges and a mask within their ranges, the edges not both zero
pub record NormaliseRequires (k : ℕ) (l h : Edge) (mask : ℕ) : Type 0 where
  pub index : k < 256
  pub low_small : l.weight < modulus
  pub high_small : h.weight < modulus
  pub low_node : l.node < 65536
  pub high_node : h.node < 65536
  pub mask_small : mask < masks
  pub either : l.weight ≡ 0 → h.weight ≢ 0

-- w times the node x, which has the mask, is l and h joined at k, and x's first weight that is not 0 is 1
pub record NormaliseEnsures (k : ℕ) (l h : Edge) (mask w : ℕ) (x : Node) : Type 0 where
  pub fits : NodeFits x
  pub index : x.index ≡ k
  pub low_node : x.low.node ≡ l.node
  pub high_node : x.high.node ≡ h.node
  pub same_mask : x.mask ≡ mask
  pub nonzero : w ≢ 0
  pub small : w < modulus
  pub low_small : x.low.weight < modulus
  pub high_small : x.high.weight < modulus
  pub low_weight : times_w (to_weight w) (to_weight x.low.weight) ≡ to_weight l.weight
  pub high_weight : times_w (to_weight w) (to_weight x.high.weight) ≡ to_weight h.weight
  pub leading : (x.low.weight ≡ 1) ⊎ ((x.low.weight ≡ 0) × (x.high.weight ≡ 1))
