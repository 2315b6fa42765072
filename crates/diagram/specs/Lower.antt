-- Lowering in the store (document 01, low; document 02, request Two): what it asks, and its parts, in the order of the
-- code.
use Rattle.std.specs.Prelude.{◌≡◌, ◌≢◌, false, List, ℕ, ◌-◌, ◌≤◌, ◌<◌}
use Rattle.diagram.specs.Tensor.{Bits, bits, indices, masks}
use Rattle.diagram.specs.Tally.{Binary}
use Rattle.diagram.specs.Lows.{lows, clash}
use Rattle.diagram.specs.Top.{Free}
use Rattle.diagram.specs.Store.{tensor_of}
use Rattle.diagram.specs.declared.node.Edge.{Edge}
use Rattle.diagram.specs.declared.make.State.{State}

-- "index k is renamed k-1", "k 1 to 23", in a tensor that does not depend on k - 1 (refusal 7)
pub record LowerRequires (s : List ℕ) (st : State) (a : Edge) (k : ℕ) : Type 0 where
  pub first : 1 ≤ k
  pub last : k ≤ 23
  pub free : Free (k - 1) (tensor_of s st a)

-- "Mask bit 0 set, or a mask above 16777215, is 4. A clash is 7": none of these
pub record LowsRequires (s : List ℕ) (st : State) (a : Edge) (m : ℕ) : Type 0 where
  pub small : m < masks
  pub zero : bits m 0 ≡ false
  pub no_clash : clash (bits m) (tensor_of s st a) ≡ false

-- an edge of weight 1 to a node
pub record LowsReduced (s : List ℕ) (st : State) (a : Edge) (m : ℕ) : Type 0 where
  pub one : a.weight ≡ 1
  pub requires : LowsRequires s st a m
  pub node : a.node ≢ 0

-- the step for two tensors that are the same
abbrev pub lows_first : Bits → Binary indices
lows_first m X Y = lows m X
