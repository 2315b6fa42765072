-- What nodes mean (document 01, "Nodes"): the tensor of a node and of an edge, and the tensors of a list of nodes.
use Rattle.std.specs.Prelude.{◌≡◌, List, [], ◌∷◌, ◌++◌, ℕ, ◌≤◌, ◌<◌, get_or}
use Rattle.field.specs.Weight.{modulus, to_weight, 1w}
use Rattle.diagram.specs.Tensor.{Tensor, constant, scale, joined}
use Rattle.diagram.specs.Tally.{Set}
use Rattle.diagram.specs.declared.node.Node.{Node}
use Rattle.diagram.specs.declared.node.Edge.{Edge}

-- "Node 0 is the constant 1." The tensor of node n, where ts are those of nodes 1, 2, ..
unfoldable pub tensor_at : {d : ℕ} → Set d → ℕ → Tensor d
tensor_at {d} ts n = get_or (constant d 1w ∷ ts) n (constant d 1w)

-- "A register holds a weight and a node number", as do a node's low and high: the edge's tensor is "weight times the
-- tensor of that edge's node"
unfoldable pub edge_in : {d : ℕ} → Set d → Edge → Tensor d
edge_in ts e = scale (to_weight e.weight) (tensor_at ts e.node)

-- "At 0 and 1 of its index a node's tensor is the low and high weight times the tensor of that edge's node"
unfoldable pub node_tensor : {d : ℕ} → Set d → Node → Tensor d
node_tensor ts x = joined x.index (edge_in ts x.low) (edge_in ts x.high)

-- ts, and then the tensors of nodes xs, each from those before it: a node's children have smaller numbers
unfoldable pub append_tensors : {d : ℕ} → Set d → List Node → Set d
append_tensors ts [] = ts
append_tensors ts (x ∷ xs) = append_tensors (ts ++ (node_tensor ts x ∷ [])) xs

unfoldable pub tensors : (d : ℕ) → List Node → Set d
tensors d xs = append_tensors [] xs

-- "Zero is weight 0 at node 0."
abbrev pub nought : Edge
nought = record { weight = 0; node = 0 }

-- an edge to one of nodes 0 .. m; zero stands at node 0
pub record Valid (m : ℕ) (e : Edge) : Type 0 where
  pub small : e.weight < modulus
  pub within : e.node ≤ m
  pub zero : e.weight ≡ 0 → e.node ≡ 0

-- node n of a list; in the place of node 0 a node whose index is d, which no node has
unfoldable pub no_node : ℕ → Node
no_node d = record { index = d; low = nought; high = nought; mask = 0 }

unfoldable pub node_in : ℕ → List Node → ℕ → Node
node_in d xs n = get_or (no_node d ∷ xs) n (no_node d)

-- the index of an edge's node; d for a constant
unfoldable pub level : ℕ → List Node → Edge → ℕ
level d xs e = (node_in d xs e.node).index
