-- A line of any length, cut to what its reading depends on, so that a small buffer holds it.
use Rattle.std.specs.Prelude.{cond, [], ◌∷◌, ◌++◌, List, ◌≡◌, ◌≢◌, ℕ, suc, ◌+◌, ◌*◌, ◌≤◌, zero, eqb, ltb, take, length}
use Rattle.std.specs.Prelude.{get_or}
use Rattle.text.specs.Text.{Bytes, tab}
use Rattle.text.specs.declared.squeeze.Squeeze.{Squeeze}

-- What is kept of the rest of a line, after `tabs` tabs and `width` bytes of the present field were kept. The tab after
-- the sixth field is left out, and the field counts as full from there on: so all that follows is left out too.
unfoldable pub squeezed_from : ℕ → ℕ → Bytes → Bytes
squeezed_from tabs width [] = []
squeezed_from tabs width (x ∷ s) =
    cond (eqb x tab)
    (cond (ltb tabs 5) (x ∷ squeezed_from (suc tabs) 0 s) (squeezed_from tabs 9 s))
    (cond (ltb width 9) (x ∷ squeezed_from tabs (suc width) s) (squeezed_from tabs width s))

-- The first 9 bytes of each of a line's first 6 fields, which is all that its reading depends on: words have at most 7
-- bytes, gates' names 2, numbers 8 digits, and a line of more than 5 fields is malformed.
unfoldable pub squeezed : Bytes → Bytes
squeezed s = squeezed_from 0 0 s

-- Each field kept has at most 9 bytes, and a tab before the next: at most 59 in all.
pub record SqueezeFits (s : Squeeze) : Type 0 where
  pub tabs : s.tabs ≤ 5
  pub width : s.width ≤ 9
  pub short : s.length ≤ 10 * s.tabs + s.width

-- The line's bytes `seen` are squeezed into the front of a buffer.
pub record SqueezeInvariant (seen line : Bytes) (s : Squeeze) : Type 0 where
  pub fits : SqueezeFits s
  pub kept : take s.length line ≡ squeezed seen
  -- the counters say what is kept of any bytes after them
  pub next : (rest : Bytes) → squeezed (seen ++ rest) ≡ squeezed seen ++ squeezed_from s.tabs s.width rest

-- nothing is seen, whatever the buffer holds
pub record NoneEnsures (s : Squeeze) : Type 0 where
  pub fits : SqueezeFits s
  pub start : (line : Bytes) → SqueezeInvariant [] line s

-- one byte more: it is put after those kept, or the buffer stays as it is
pub record PushEnsures (line : Bytes) (s : Squeeze) (b : ℕ) (line' : Bytes) (r : Squeeze) : Type 0 where
  pub fits : SqueezeFits r
  pub room : length line' ≡ length line
  pub alone : (i : ℕ) → i ≢ s.length → get_or line' i 0 ≡ get_or line i 0
  pub on : (seen : Bytes) → SqueezeInvariant seen line s → SqueezeInvariant (seen ++ (b ∷ [])) line' r

-- the first n fields, cut
abbrev pub trimmed : ℕ → List Bytes → List Bytes
trimmed n [] = []
trimmed zero (f ∷ fs) = []
trimmed (suc n) (f ∷ fs) = take 9 f ∷ trimmed n fs
