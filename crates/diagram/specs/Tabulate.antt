-- The tensor of a function of the assignment.
use Rattle.std.specs.Prelude.{◌≡◌, Bool, true, false, ℕ, zero, suc, ◌<◌}
use Rattle.field.specs.Weight.{Weight}
use Rattle.diagram.specs.Tensor.{Tensor, weight, split, Bits}

-- the value b of index 0, then those of f
abbrev pub cons : Bool → Bits → Bits
cons b f zero = b
cons b f (suc k) = f k

-- the tensor over d indices that has the weight f g at each assignment g to them
unfoldable pub tabulate : (d : ℕ) → (Bits → Weight) → Tensor d
tabulate zero f = weight (f (λ k. false))
tabulate (suc d) f = split (tabulate d (λ g. f (cons false g))) (tabulate d (λ g. f (cons true g)))

-- f looks at the indices below d alone
abbrev pub Sees : ℕ → (Bits → Weight) → Type 0
Sees d f = (g h : Bits) → ((k : ℕ) → k < d → g k ≡ h k) → f g ≡ f h
