-- Answers (document 01, "Session calls"; document 02, `on`): what is printed.
use Rattle.std.specs.Prelude.{List, [], ◌∷◌, ◌++◌, ◌≡◌, ◌+◌, ◌≤◌, ℕ, length, Result, Ok, Err}
use Rattle.text.specs.Text.{Bytes, LF, tab, bytes}
use Rattle.text.specs.Limits.{last_weight, last_mask, answer_room}
use Rattle.text.specs.Call.{refusal_number}
use Rattle.text.specs.Print.{decimal, written}
use Rattle.text.specs.declared.answer.Answer.{Answer}
use Rattle.text.specs.declared.answer.Answer.TheVariants.{Done, Value, Compared, Mask}
use Rattle.text.specs.declared.call.Refusal.{Refusal}
use Rattle.diagram.specs.declared.compare.Comparison.TheVariants.{Same, Factor, Differ}

-- "An answer's fields are parted by one tab, and it ends in LF."
unfoldable pub line_of_fields : List Bytes → Bytes
line_of_fields [] = LF ∷ []
line_of_fields (f ∷ []) = f ++ (LF ∷ [])
line_of_fields (f ∷ g ∷ fs) = f ++ (tab ∷ line_of_fields (g ∷ fs))

unfoldable pub printed : Result Answer Refusal → Bytes
-- "An accepted call that sets or frees answers `ok` and the node count, a refused one `no` and its number."
printed (Ok (Done n)) = line_of_fields (bytes "ok" ∷ decimal n ∷ [])
printed (Err r) = line_of_fields (bytes "no" ∷ decimal (refusal_number r) ∷ [])
-- "answers `v` and the value at assignment v"
printed (Ok (Value w)) = line_of_fields (bytes "v" ∷ decimal w ∷ [])
-- "answers `same`; or `factor` and f ..; else `differ`"
printed (Ok (Compared Same)) = line_of_fields (bytes "same" ∷ [])
printed (Ok (Compared (Factor f))) = line_of_fields (bytes "factor" ∷ decimal f ∷ [])
printed (Ok (Compared Differ)) = line_of_fields (bytes "differ" ∷ [])
-- "A new call `on a` answers `m` and the register's mask"
printed (Ok (Mask m)) = line_of_fields (bytes "m" ∷ decimal m ∷ [])

-- The numbers of an answer are weights or a node count, so at most 65536; or a mask, at most 16777215.
abbrev pub SmallAnswer : Result Answer Refusal → Type 0
SmallAnswer (Ok (Done n)) = n ≤ last_weight
SmallAnswer (Err r) = Unit
SmallAnswer (Ok (Value w)) = w ≤ last_weight
SmallAnswer (Ok (Compared Same)) = Unit
SmallAnswer (Ok (Compared (Factor f))) = f ≤ last_weight
SmallAnswer (Ok (Compared Differ)) = Unit
SmallAnswer (Ok (Mask m)) = m ≤ last_mask

-- an answer is written at a place of l, and r is the place after it: at most 16 bytes
pub record AnswerWritten (l : Bytes) (at : ℕ) (a : Result Answer Refusal) (l' : Bytes) (r : ℕ) : Type 0 where
  pub exact : l' ≡ written l at (printed a)
  pub after : r ≡ at + length (printed a)
  pub short : length (printed a) ≤ answer_room

-- A word with its tab, and a number: a line.
abbrev pub labelled_line : Bytes → ℕ → Bytes
labelled_line word n = word ++ decimal n ++ (LF ∷ [])
