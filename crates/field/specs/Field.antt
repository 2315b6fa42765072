-- What the functions of the field promise: which weight a number represents.
use Rattle.std.specs.Prelude.{◌≡◌, ℕ, ◌≤◌, ◌<◌}
use Rattle.field.specs.Weight.{modulus, Weight, to_weight, times_w, inverse_w}

-- the number r represents the weight w
pub record Represents (r : ℕ) (w : Weight) : Type 0 where
  pub small : r < modulus
  pub is : to_weight r ≡ w

-- one step towards an inverse: f' times the inverse of w' is f times the inverse of w, and w' is less than w
pub record DescentStep (f w f' w' : ℕ) : Type 0 where
  pub small : f' < modulus
  pub some : 1 ≤ w'
  pub less : w' < w
  pub is : times_w (to_weight f') (inverse_w (to_weight w')) ≡ times_w (to_weight f) (inverse_w (to_weight w))

-- used by the proofs alone

-- the bounds of the modulus divided by a number from 2 to 65536
pub record QuotientBounds (q : ℕ) : Type 0 where
  pub some : 1 ≤ q
  pub most : q ≤ 32768

-- the invariant of the loop to the inverse of a: f times the inverse of w is the inverse of a
pub record DescentLoop (a f w : ℕ) : Type 0 where
  pub small : f < modulus
  pub some : 1 ≤ w
  pub within : w < modulus
  pub is : times_w (to_weight f) (inverse_w (to_weight w)) ≡ inverse_w (to_weight a)
