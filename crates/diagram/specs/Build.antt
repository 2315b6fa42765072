-- Building a gate (document 01, `gate`: "build of the gate"): the tensor with its first indices fixed, index by index.
use Rattle.std.specs.Prelude.{◌≡◌, ◌≢◌, false, List, ℕ, zero, suc, ◌/◌, ◌%◌, ◌^◌, ◌≤◌, ◌<◌, Result}
use Rattle.diagram.specs.Tensor.{indices, Tensor, bits, fix, Bits, index_count}
use Rattle.diagram.specs.Tally.{Step, join}
use Rattle.diagram.specs.Gate.{gate_tensor}
use Rattle.diagram.specs.Entry.{uses_index}
use Rattle.diagram.specs.Store.{Sound, Refines, tensor_of}
use Rattle.diagram.specs.Join.{JoinRequires}
use Rattle.diagram.specs.declared.gate.Gate.{Gate}
use Rattle.diagram.specs.declared.node.Edge.{Edge}
use Rattle.diagram.specs.declared.make.State.{State}
use Rattle.diagram.specs.declared.diagram.Full.{Full}

-- from k on and below r no index is a middle or fresh index of p or q
pub record NoneOwned (p q k r : ℕ) : Type 0 where
  pub from : k ≤ r
  pub inside : r ≤ index_count
  pub others : (j : ℕ) → k ≤ j → j < r → j % 3 ≢ 0 → (j / 3 ≢ p) × (j / 3 ≢ q)

-- the gate uses no index from k on that is below r
pub record NoneUsed (g : Gate) (k r : ℕ) : Type 0 where
  pub from : k ≤ r
  pub inside : r ≤ index_count
  pub unused : (j : ℕ) → k ≤ j → j < r → uses_index g j ≡ false

unfoldable pub fix_below : {d : ℕ} → ℕ → Bits → Tensor d → Tensor d
fix_below zero f T = T
fix_below (suc k) f T = fix k (f k) (fix_below k f T)

-- the gate's tensor with its indices below k fixed as the bits of v
unfoldable pub gate_part : Gate → ℕ → ℕ → Tensor indices
gate_part g k v = fix_below k (bits v) (gate_tensor indices g)

-- v has bits below k alone
pub record BitsBelow (k v : ℕ) : Type 0 where
  pub inside : k ≤ index_count
  pub below : v < 2 ^ k

-- what is left of the step f is the join of l and h at k
pub record JoinRemains (s s₂ : List ℕ) (st u : State) (k : ℕ) (l h : Edge) (f : Step indices) : Type 0 where
  pub sound : Sound s₂ u
  pub joinable : JoinRequires s₂ u k l h
  pub does : (s₃ : List ℕ) (w : State) (r : Result Edge Full)
      → Refines s₂ s₃ u w (join k (tensor_of s₂ u l) (tensor_of s₂ u h)) r
      → Refines s s₃ st w f r
