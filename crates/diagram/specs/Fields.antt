-- The store's bytes as records of 16 bytes ("Node n fills the store's bytes 16(n-1) to 16n-1"), each eight fields of
-- two bytes, low byte first. Every write to the store is a `put_field` of one field, so what stays as it is is said
-- once, in FieldsLaws: `put_field_same`, `put_field_other` (another record) and `put_field_beside` (another field, of
-- any record).
use Rattle.std.specs.Prelude.{List, ℕ, ◌+◌, ◌*◌, ◌/◌, ◌%◌, ◌≤◌, ◌<◌, length, get_or, set}
use Rattle.std.specs.Prelude.{◌≡◌, ◌≢◌}

-- field f of record i, records counted from 0
unfoldable pub field : List ℕ → ℕ → ℕ → ℕ
field s f i = get_or s (16 * i + 2 * f) 0 + 256 * get_or s (16 * i + 2 * f + 1) 0

-- the store with field f of record i set to v
unfoldable pub put_field : List ℕ → ℕ → ℕ → ℕ → List ℕ
put_field s f i v = set (set s (16 * i + 2 * f) (v % 256)) (16 * i + 2 * f + 1) (v / 256)

-- field f of record i is in the store
pub record FieldWithin (s : List ℕ) (f i : ℕ) : Type 0 where
  pub column : f < 8
  pub row : 16 * i + 16 ≤ length s

-- s' is s with field f of the first n records 0, and nothing else changed in it
pub record Cleared (s s' : List ℕ) (f n : ℕ) : Type 0 where
  pub long : length s' ≡ length s
  pub others : (g : ℕ) → g < 8 → g ≢ f → field s' g ≡ field s g
  pub none : (i : ℕ) → i < n → field s' f i ≡ 0
  pub after : (i : ℕ) → n ≤ i → field s' f i ≡ field s f i
