-- Edges: multiples and sums of them, and cofactors ("T0 and T1 are T with its index k fixed to 0 and to 1").
use Rattle.std.specs.Prelude.{◌≡◌, ◌≢◌, Bool, true, false, List, ℕ, ◌<◌, ◌≤◌}
use Rattle.field.specs.Weight.{modulus, to_weight, times_w, plus_w}
use Rattle.diagram.specs.Tensor.{fix, index_count}
use Rattle.diagram.specs.Meaning.{Valid}
use Rattle.diagram.specs.Store.{tensor_of, level_of}
use Rattle.diagram.specs.declared.node.Edge.{Edge}
use Rattle.diagram.specs.declared.node.Node.{Node}
use Rattle.diagram.specs.declared.make.State.{State}

-- r is w times e
pub record IsMultiple (w : ℕ) (e r : Edge) : Type 0 where
  pub node : r.node ≡ e.node
  pub small : r.weight < modulus
  pub weight : to_weight r.weight ≡ times_w (to_weight w) (to_weight e.weight)

-- r is a and b added, at a's node
pub record IsSum (a b r : Edge) : Type 0 where
  pub small : r.weight < modulus
  pub weight : to_weight r.weight ≡ plus_w (to_weight a.weight) (to_weight b.weight)
  pub none : r.weight ≡ 0 → r.node ≡ 0
  pub node : r.weight ≢ 0 → r.node ≡ a.node

-- an index that is not above the edge's level
pub record CofactorRequires (s : List ℕ) (st : State) (a : Edge) (k : ℕ) : Type 0 where
  pub valid : Valid st.count a
  pub inside : k < index_count
  pub level : k ≤ level_of s st a

-- r is a with the index k fixed to b
pub record IsCofactor (s : List ℕ) (st : State) (a : Edge) (k : ℕ) (b : Bool) (r : Edge) : Type 0 where
  pub valid : Valid st.count r
  pub is : tensor_of s st r ≡ fix k b (tensor_of s st a)
  pub above : k < level_of s st r

-- the edge of a node for an index's value
unfoldable pub child : Bool → Node → Edge
child false x = x.low
child true x = x.high
