-- Texts (document 01, "Session calls"): lines and fields. A text is a list of bytes.
use Rattle.std.specs.Prelude.{List, [], ◌∷◌, Bool, cond, ℕ, eqb, Option, Some, None}
use Rattle.std.specs.Str.{bytes_eq}
use Prim.Native.Char.{code}
use Prim.Native.String.{String, [] as empty, ◌∷◌ as ◌then◌}

abbrev pub Bytes : Type 0
Bytes = List ℕ

-- the bytes of a text in quotes, which is ASCII
abbrev pub bytes : String → Bytes
bytes empty = []
bytes (c then s) = code c ∷ bytes s

abbrev pub LF : ℕ
LF = 10

abbrev pub tab : ℕ
tab = 9

-- do two texts have the same bytes?
abbrev pub same_bytes : Bytes → Bytes → Bool
same_bytes = bytes_eq

-- what follows from what was read, or `wrong` where nothing was
abbrev pub known : {A B : Type 0} → A → Option B → (B → A) → A
known wrong None next = wrong
known wrong (Some x) next = next x

-- one byte more at the front of the first part
unfoldable pub onto : ℕ → List Bytes → List Bytes
onto x [] = (x ∷ []) ∷ []
onto x (p ∷ ps) = (x ∷ p) ∷ ps

-- the parts between the bytes b of a text; the empty text has the parts `none`
unfoldable pub parts : ℕ → List Bytes → Bytes → List Bytes
parts b none [] = none
parts b none (x ∷ s) = cond (eqb x b) ([] ∷ parts b none s) (onto x (parts b none s))

-- "A text is split at LF; a last part without LF counts unless empty."
unfoldable pub lines : Bytes → List Bytes
lines s = parts LF [] s

-- "Fields are parted by one tab." So a line has one field more than tabs, and fields may be empty.
unfoldable pub fields : Bytes → List Bytes
fields s = parts tab ([] ∷ []) s
