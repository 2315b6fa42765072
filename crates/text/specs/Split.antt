-- The parts of a text as the code finds them.
use Rattle.std.specs.Prelude.{cond, [], ◌∷◌, ◌++◌, List, ◌≡◌, ℕ, ◌-◌, suc, ◌+◌, ◌≤◌, ◌<◌, take, drop, length, eqb}
use Rattle.text.specs.Text.{Bytes, fields, tab, LF, same_bytes}

-- the part of a text from a to e, `&s[a..e]`
abbrev pub part : Bytes → ℕ → ℕ → Bytes
part s a e = take (e - a) (drop a s)

-- how many bytes stand before the first b
unfoldable pub count_before : ℕ → Bytes → ℕ
count_before b [] = 0
count_before b (x ∷ s) = cond (eqb x b) 0 (suc (count_before b s))

-- the place of the first b from a on, or the text's end
unfoldable pub end_from : ℕ → Bytes → ℕ → ℕ
end_from b s a = a + count_before b (drop a s)

-- the part that begins at a ends at e
pub record Ends (b : ℕ) (s : Bytes) (a e : ℕ) : Type 0 where
  pub place : e ≡ end_from b s a
  pub from : a ≤ e
  pub within : e ≤ length s

-- the fields after the tab that begins a text
unfoldable pub after_tab : Bytes → List Bytes
after_tab [] = []
after_tab (x ∷ s) = fields s

-- the fields after the one that ends at e
unfoldable pub fields_after : Bytes → ℕ → List Bytes
fields_after s e = after_tab (drop e s)

-- the field after the tab at e, which ends at f
pub record FieldAfter (s : Bytes) (e : ℕ) (field : Bytes) (f : ℕ) : Type 0 where
  pub inside : e < length s
  pub ends : Ends tab s (e + 1) f
  pub is : field ≡ part s (e + 1) f

-- "a last part without LF counts": a line without its LF, which the last may lack
unfoldable pub line_of : Bytes → Bytes
line_of part = cond (same_bytes (drop (length part - 1) part) (LF ∷ [])) (take (length part - 1) part) part

-- the text has no b
abbrev pub Without : ℕ → Bytes → Type 0
Without b s = count_before b s ≡ length s

-- "A text is split at LF": the first line, and what comes after its LF
pub record FirstLine (s line rest : Bytes) : Type 0 where
  pub is : s ≡ line ++ (LF ∷ rest)
  pub plain : Without LF line
