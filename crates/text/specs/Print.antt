-- Bytes and numbers put at a place of the output.
use Rattle.std.specs.Prelude.{cond, [], ◌∷◌, ◌++◌, ◌≡◌, ℕ, zero, suc, ◌+◌, ◌/◌, ◌%◌, ltb, length, take, drop}
use Rattle.text.specs.Text.{Bytes}

-- the digits of n, at most k of them
unfoldable pub digits : ℕ → ℕ → Bytes
digits zero n = []
digits (suc k) n = cond (ltb n 10) ((48 + n) ∷ []) (digits k (n / 10) ++ ((48 + n % 10) ∷ []))

-- "Decimal digits throughout." A number of 64 bits has at most 20 of them.
unfoldable pub decimal : ℕ → Bytes
decimal n = digits 20 n

-- l with the bytes of a text from `at` on, and all other bytes as they were
unfoldable pub written : Bytes → ℕ → Bytes → Bytes
written l at text = take at l ++ text ++ drop (at + length text) l

-- s is put at a place of l, and e is the place after it
pub record WriteEnsures (l : Bytes) (at : ℕ) (s l' : Bytes) (e : ℕ) : Type 0 where
  pub exact : l' ≡ written l at s
  pub after : e ≡ at + length s
