-- What a store's bytes mean, when they are sound, and what each operation on a store promises.
use Rattle.std.specs.Prelude.{◌≡◌, List, ℕ, ◌<◌, length, Result, MatchResult}
use Rattle.diagram.specs.Tensor.{indices, Tensor}
use Rattle.diagram.specs.Tally.{Set, Step}
use Rattle.diagram.specs.Sets.{PrefixOf}
use Rattle.diagram.specs.Node.{capacity, node_at, listed}
use Rattle.diagram.specs.Make.{StateSound}
use Rattle.diagram.specs.Meaning.{edge_in, tensors, level, Valid}
use Rattle.diagram.specs.Canonical.{Canonical}
use Rattle.diagram.specs.declared.node.Node.{Node}
use Rattle.diagram.specs.declared.node.Edge as edges
use Rattle.diagram.specs.declared.make.State.{State}
use Rattle.diagram.specs.declared.diagram.Full.{Full}

-- "Nodes are numbered from 1": the nodes that the store holds, in order
unfoldable pub nodes_of : List ℕ → State → List Node
nodes_of s st = listed (node_at s) st.count

-- "The tensors of the nodes from 1 up", in order
unfoldable pub set_of : List ℕ → State → Set indices
set_of s st = tensors indices (nodes_of s st)

-- the tensor of an edge: the weight times its node's tensor
unfoldable pub tensor_of : List ℕ → State → edges.Edge → Tensor indices
tensor_of s st e = edge_in (set_of s st) e

-- the index of an edge's node; 24 for a constant
unfoldable pub level_of : List ℕ → State → edges.Edge → ℕ
level_of s st e = level indices (nodes_of s st) e

-- the store holds as many nodes as the state says, with their unique table, and they are canonical
pub record Sound (s : List ℕ) (st : State) : Type 0 where
  pub stored : StateSound s st
  pub nodes : Canonical indices (nodes_of s st)

-- The step f was done: it answers the tensor of e, and the set that it leaves is that of the nodes. The old nodes are
-- where they were.
pub record RefinesEdge (s s' : List ℕ) (st st' : State) (f : Step indices) (e : edges.Edge) : Type 0 where
  pub long : length s' ≡ length s
  pub sound : Sound s' st'
  pub epoch : st'.epoch ≡ st.epoch
  pub grown : PrefixOf (nodes_of s st) (nodes_of s' st')
  pub valid : Valid st'.count e
  pub is : f (set_of s st) ≡ (tensor_of s' st' e, set_of s' st')

-- "A call whose set would exceed the capacity": the step f was given up, the old nodes are where they were
pub record RefinesFull (s s' : List ℕ) (st : State) (f : Step indices) : Type 0 where
  pub long : length s' ≡ length s
  pub kept : nodes_of s' st ≡ nodes_of s st
  pub full : capacity s < length (f (set_of s st)).1

-- what a function that does the step f promises of its result
abbrev pub Refines : List ℕ → List ℕ → State → State → Step indices → Result edges.Edge Full → Type 0
Refines s s' st st' f r = MatchResult r (λ e. RefinesEdge s s' st st' f e) (λ _. RefinesFull s s' st f)
