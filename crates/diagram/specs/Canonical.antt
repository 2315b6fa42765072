-- When a list of nodes is canonical: each node in normal form, and no two nodes with one tensor.
use Rattle.std.specs.Prelude.{◌≡◌, false, List, ℕ, suc, ◌-◌, ◌≤◌, ◌<◌, length}
use Rattle.field.specs.Weight.{1w}
use Rattle.diagram.specs.Tensor.{same, first}
use Rattle.diagram.specs.Top.{FreeBelow}
use Rattle.diagram.specs.Support.{support_mask}
use Rattle.diagram.specs.Tally.{Set}
use Rattle.diagram.specs.Meaning.{tensor_at, edge_in, node_tensor, tensors, node_in, Valid}
use Rattle.diagram.specs.declared.node.Node.{Node}

-- x is in normal form, its children among nodes 0 .. m: they do not depend on the indices up to its own, "it is
-- normal", and its mask is its tensor's
pub record NormalNode {d : ℕ} (ts : Set d) (m : ℕ) (x : Node) : Type 0 where
  pub index : x.index < d
  pub low : Valid m x.low
  pub high : Valid m x.high
  pub from_low : FreeBelow (suc x.index) (edge_in ts x.low)
  pub from_high : FreeBelow (suc x.index) (edge_in ts x.high)
  -- "not constant and its first nonzero value is 1"
  pub differ : same (edge_in ts x.low) (edge_in ts x.high) ≡ false
  pub one : first (node_tensor ts x) ≡ 1w
  -- "Each node's record now carries the mask of the indices on which its tensor depends"
  pub mask : x.mask ≡ support_mask (node_tensor ts x)

-- each node has its children before it; node n's tensor is the one that its fields say; equal tensors are at equal
-- numbers
pub record Canonical (d : ℕ) (xs : List Node) : Type 0 where
  pub each : (n : ℕ) → 1 ≤ n → n ≤ length xs → NormalNode (tensors d xs) (n - 1) (node_in d xs n)
  pub meaning : (n : ℕ) → 1 ≤ n → n ≤ length xs
      → tensor_at (tensors d xs) n ≡ node_tensor (tensors d xs) (node_in d xs n)
  pub unique : (n m : ℕ) → n ≤ length xs → m ≤ length xs → tensor_at (tensors d xs) n ≡ tensor_at (tensors d xs) m
      → n ≡ m
