-- On which indices a tensor depends, and the top as the lowest of them.
use Rattle.std.specs.Prelude.{◌≡◌, true, false, ℕ, zero, suc, ◌≤◌, ◌<◌}
use Rattle.std.proofs.Math.Option.{Option, none, some}
use Rattle.diagram.specs.Tensor.{Tensor, weight, split, fix}

-- T does not depend on the indices below k
abbrev pub FreeBelow : {d : ℕ} → ℕ → Tensor d → Type 0
FreeBelow zero T = Unit {0}
FreeBelow (suc k) (weight w) = Unit {0}
FreeBelow (suc k) (split l h) = (l ≡ h) × FreeBelow k l

abbrev pub TopAtLeast : ℕ → Option ℕ → Type 0
TopAtLeast k none = Unit {0}
TopAtLeast k (some j) = k ≤ j

abbrev pub TopWithin : ℕ → Option ℕ → Type 0
TopWithin d none = Unit {0}
TopWithin d (some j) = j < d

-- k is the lower top
pub record IsLowerTop {d : ℕ} (A B : Tensor d) (k : ℕ) : Type 0 where
  pub left : FreeBelow k A
  pub right : FreeBelow k B
  pub inside : k < d
  pub least : (j : ℕ) → FreeBelow j A → FreeBelow j B → j ≤ k

-- T does not depend on k
pub record Free {d : ℕ} (k : ℕ) (T : Tensor d) : Type 0 where
  pub is : fix k false T ≡ fix k true T
