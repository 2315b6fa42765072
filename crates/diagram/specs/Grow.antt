-- Growing the number of indices by m, with constants below: a tensor over d + m indices that depends on the first d
-- alone.
use Rattle.std.specs.Prelude.{◌≡◌, false, [], ◌∷◌, ℕ, zero, suc, ◌≤◌}
use Rattle.diagram.specs.Tensor.{Tensor, weight, split, constant, Bits}
use Rattle.diagram.specs.Tally.{Set, Step}

-- d + m, by recursion on d
abbrev pub deeper : ℕ → ℕ → ℕ
deeper zero m = m
deeper (suc d) m = suc (deeper d m)

unfoldable pub grow : {d : ℕ} (m : ℕ) → Tensor d → Tensor (deeper d m)
grow m (weight w) = constant m w
grow m (split l h) = split (grow m l) (grow m h)

unfoldable pub grow_all : {d : ℕ} (m : ℕ) → Set d → Set (deeper d m)
grow_all m [] = []
grow_all m (x ∷ s) = grow m x ∷ grow_all m s

-- g does above what f does below
pub record StepGrows {d : ℕ} (m : ℕ) (f : Step d) (g : Step (deeper d m)) : Type 0 where
  pub is : (s : Set d) → g (grow_all m s) ≡ (grow m (f s).0, grow_all m (f s).1)

-- S has indices below d alone
abbrev pub MembersBelow : ℕ → Bits → Type 0
MembersBelow d S = (j : ℕ) → d ≤ j → S j ≡ false
