-- Indices renamed, each to an index that a function gives; and a set that is free to go down.
use Rattle.std.specs.Prelude.{◌≡◌, true, ℕ, ◌-◌, ◌<◌}
use Rattle.diagram.specs.Tensor.{Tensor, Bits, at, depends}
use Rattle.diagram.specs.Tabulate.{tabulate}

-- index k is renamed p k: at an assignment f, the value that T has where index k has what f gives p k
unfoldable pub renamed : {d : ℕ} → (ℕ → ℕ) → Tensor d → Tensor d
renamed {d} p T = tabulate d (λ f. at T (λ k. f (p k)))

-- p takes the indices below d to indices below d
abbrev pub Inside : ℕ → (ℕ → ℕ) → Type 0
Inside d p = (k : ℕ) → k < d → p k < d

-- the indices above k on which T depends go above where k goes
abbrev pub KeepsAbove : {d : ℕ} → (ℕ → ℕ) → ℕ → Tensor d → Type 0
KeepsAbove {d} p k T = (j : ℕ) → k < j → j < d → depends j T ≡ true → p k < p j

-- each index of m is free to go: T does not depend on the one before it, or that is in m too
pub record AllFreeToGo {d : ℕ} (m : Bits) (T : Tensor d) : Type 0 where
  pub is : (k : ℕ) → k < d → m k ≡ true → depends (k - 1) T ≡ true → m (k - 1) ≡ true
