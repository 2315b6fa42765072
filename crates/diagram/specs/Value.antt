-- Reading a value: the index of the edge's node is fixed as the assignment says, until a constant is left.
use Rattle.std.specs.Prelude.{◌≡◌, List, ℕ}
use Rattle.diagram.specs.Tensor.{value}
use Rattle.diagram.specs.Meaning.{Valid}
use Rattle.diagram.specs.Store.{tensor_of}
use Rattle.diagram.specs.declared.node.Edge.{Edge}
use Rattle.diagram.specs.declared.make.State.{State}

-- the walk from a has come to e, with the same value
pub record ValueLoop (s : List ℕ) (st : State) (a : Edge) (v : ℕ) (e : Edge) : Type 0 where
  pub valid : Valid st.count e
  pub is : value (tensor_of s st e) v ≡ value (tensor_of s st a) v
