-- The field (document 01, "The field"): weights, their arithmetic and the constants.
use Rattle.std.specs.Prelude.{◌≡◌, Bool, false, ℕ, zero, suc, ◌+◌, ◌*◌, ◌-◌, ◌%◌, ◌<◌, eqb}
use Rattle.std.proofs.Math.Bridge.{le_by_compare, IsLe}
use Rattle.std.proofs.Common.{mod-lt}

-- "the prime 65537" (that it is prime: PrimeLaws)
abbrev pub modulus : ℕ
modulus = 65537

-- "Weights are the whole numbers 0 to 65536"
pub record Weight : Type 0 where
  pub number : ℕ
  pub small : number < modulus

pub small_mod : (n : ℕ) → n % modulus < modulus
unfolding IsLe
small_mod n = mod-lt n (le_by_compare 1 modulus tt)

-- the weight of a whole number: its remainder
unfoldable pub to_weight : ℕ → Weight
to_weight n = record { number = n % modulus; small = small_mod n }

unfoldable pub 0w : Weight
0w = to_weight 0

unfoldable pub 1w : Weight
1w = to_weight 1

-- ".. added and multiplied modulo the prime 65537"
unfoldable pub plus_w : Weight → Weight → Weight
plus_w a b = to_weight (a.number + b.number)

unfoldable pub times_w : Weight → Weight → Weight
times_w a b = to_weight (a.number * b.number)

-- the weight that gives 0 with a: what document 01 writes with a minus sign
unfoldable pub negate_w : Weight → Weight
negate_w a = to_weight (modulus - a.number)

-- are two weights the same?
unfoldable pub same_w : Weight → Weight → Bool
same_w a b = eqb a.number b.number

-- a weight that is not 0 (a record, so that the weight is seen from the type)
pub record Nonzero (a : Weight) : Type 0 where
  pub is : same_w a 0w ≡ false

-- w to the power 2^n - 1, by squaring
unfoldable pub ones_power : ℕ → Weight → Weight
ones_power zero w = 1w
ones_power (suc n) w = times_w w (ones_power n (times_w w w))

-- "A nonzero weight has one inverse": the power 65535. That it is an inverse, and the only one: InverseLaws.
-- For 0, which has no inverse, it is 0.
unfoldable pub inverse_w : Weight → Weight
inverse_w w = ones_power 16 w

-- "The eighth root is 16, i is 256, root two is 61457, and its inverse h is 63497."
unfoldable pub eighth_root : Weight
eighth_root = to_weight 16

unfoldable pub imaginary_unit : Weight
imaginary_unit = to_weight 256

unfoldable pub root_two : Weight
root_two = to_weight 61457

unfoldable pub inverse_root_two : Weight
inverse_root_two = to_weight 63497
