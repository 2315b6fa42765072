-- The bits of a number as a set of indices.
use Rattle.std.specs.Prelude.{◌≡◌, ℕ, ◌^◌, ◌≤◌, ◌<◌}
use Rattle.field.specs.Field.{Represents}
use Rattle.diagram.specs.Tensor.{bits, without, power2, members_from}

-- r is 2 to the power i
abbrev pub DoubledLoop : ℕ → ℕ → Type 0
DoubledLoop i r = Represents r (power2 i)

-- r has the members of m from k on
pub record MaskFrom (m k r : ℕ) : Type 0 where
  pub is : bits r ≡ members_from k (bits m)
  pub most : r ≤ m
  pub none : m < 2 ^ k → r ≡ 0

-- r is m without k
pub record MaskWithout (m k r : ℕ) : Type 0 where
  pub is : bits r ≡ without k (bits m)
  pub most : r ≤ m
