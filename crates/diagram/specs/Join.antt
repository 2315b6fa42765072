-- Joining two edges of a store (document 01, join).
use Rattle.std.specs.Prelude.{◌≡◌, List, ℕ, suc, ◌<◌, ◌^◌}
use Rattle.std.specs.Int.Bits.{bit_or}
use Rattle.diagram.specs.Top.{FreeBelow}
use Rattle.diagram.specs.Meaning.{Valid}
use Rattle.diagram.specs.Store.{tensor_of}
use Rattle.diagram.specs.Support.{support_mask}
use Rattle.diagram.specs.Tensor.{index_count, masks}
use Rattle.diagram.specs.declared.node.Edge.{Edge}
use Rattle.diagram.specs.declared.make.State.{State}

-- l and h are edges of the store, and do not depend on the indices up to k
pub record JoinRequires (s : List ℕ) (st : State) (k : ℕ) (l h : Edge) : Type 0 where
  pub inside : k < index_count
  pub low : Valid st.count l
  pub high : Valid st.count h
  pub from_low : FreeBelow (suc k) (tensor_of s st l)
  pub from_high : FreeBelow (suc k) (tensor_of s st h)

-- r is the mask of a node at k with the parts l and h: k, and what they depend on
pub record NodeMaskEnsures (s : List ℕ) (st : State) (k : ℕ) (l h : Edge) (r : ℕ) : Type 0 where
  pub is : r ≡ bit_or (2 ^ k) (bit_or (support_mask (tensor_of s st l)) (support_mask (tensor_of s st h)))
  pub small : r < masks
