-- Weights are at most 65536, so their product is at most 2^32.
use native.Mathlib.Omega.{arith}
use native.Mathlib.Nat.{mul-le-mul, le-pred_of_lt}
use Rattle.field.specs.FieldLaws.{represents_product}
use Rattle.field.proofs.mul.Goals as goal

pub overflow_mul-a : goal.overflow_mul-a
overflow_mul-a c = omega (arith, mul-le-mul (le-pred_of_lt c.requires.0) (le-pred_of_lt c.requires.1))

pub reduce-requires : goal.reduce-requires
reduce-requires c = omega (arith, mul-le-mul (le-pred_of_lt c.requires.0) (le-pred_of_lt c.requires.1))

pub returns : goal.returns
returns c = represents_product _ _ _ c.reduce.ensures
