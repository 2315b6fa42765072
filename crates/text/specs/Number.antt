-- Numbers (document 01, "Session calls"), and how the code reads them.
use Rattle.std.specs.Prelude.{Bool, ◌&&◌, cond, false, not, [], ◌∷◌, ◌≡◌, ℕ, ◌+◌, ◌*◌, ◌-◌, ◌^◌, ◌<◌, leb, eqb}
use Rattle.std.specs.Prelude.{length, drop, Option, Some, None}
use Rattle.text.specs.Text.{Bytes}

-- "Decimal digits throughout."
unfoldable pub is_digit : ℕ → Bool
is_digit x = leb 48 x && leb x 57

-- the number that v and the digits after it make, if they are digits
unfoldable pub digits_from : ℕ → Bytes → Option ℕ
digits_from v [] = Some v
digits_from v (x ∷ s) = cond (is_digit x) (digits_from (10 * v + (x - 48)) s) None

-- a leading zero is needless where anything stands after it
unfoldable pub needless : Bytes → Bool
needless [] = false
needless (x ∷ []) = false
needless (x ∷ y ∷ s) = eqb x 48

-- "Numbers have 1 to 8 digits and no needless leading zero." Here 1 to `most` digits.
unfoldable pub number_of : ℕ → Bytes → Option ℕ
number_of most s = cond (leb 1 (length s) && leb (length s) most && not (needless s)) (digits_from 0 s) None

-- `read_digits` has read i digits, which make v
pub record ReadDigitsLoop (s : Bytes) (v i : ℕ) : Type 0 where
  pub small : v < 10 ^ i
  pub same : digits_from v (drop i s) ≡ digits_from 0 s
