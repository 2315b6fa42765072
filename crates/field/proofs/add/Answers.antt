-- The sum, once reduced, is the remainder.
use native.Mathlib.Omega.{arith}
use Rattle.field.specs.FieldLaws.{represents_sum}
use Rattle.field.proofs.add.Goals as goal

pub returns-then-s-lt-MODULUS : goal.returns-then-s-lt-MODULUS
returns-then-s-lt-MODULUS c = represents_sum _ _ _ (omega arith)

pub returns-else-s-lt-MODULUS : goal.returns-else-s-lt-MODULUS
returns-else-s-lt-MODULUS c = represents_sum _ _ _ (omega arith)
