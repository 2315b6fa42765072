-- Laws of Answer: an answer has at most 16 bytes.
use Rattle.std.specs.Prelude.{[], ◌∷◌, ◌++◌, ℕ, ◌+◌, ◌≤◌, ◌<◌, length, Result, Ok, Err}
use Rattle.std.proofs.Common.{arith}
use Rattle.std.proofs.Math.ListN.{length-append}
use Rattle.text.specs.Text.{Bytes, LF, bytes}
use Rattle.text.specs.Limits.{answer_room, last_weight, last_mask}
use Rattle.text.specs.Call.{refusal_number}
use Rattle.text.specs.Print.{WriteEnsures, decimal}
use Rattle.text.specs.Answer.{labelled_line, line_of_fields, printed, SmallAnswer, AnswerWritten}
use Rattle.text.specs.PrintLaws.{wrote_then, decimal_length, wrote_room}
use Rattle.text.specs.declared.call.Refusal.{Refusal}
use Rattle.text.specs.declared.answer.Answer.{Answer}
use Rattle.text.specs.declared.answer.Answer.TheVariants.{Done, Value, Compared, Mask}
use Rattle.diagram.specs.declared.compare.Comparison.TheVariants.{Same, Factor, Differ}
use Rattle.text.specs.declared.call.Refusal.TheVariants as refusal

module _ (word : Bytes) (n : ℕ) (short : length word < 8) (small : n ≤ last_mask) where
  -- it has at most 16 bytes, its LF among them
  size : length (word ++ decimal n) + 1 ≤ answer_room
  size = omega (arith, length-append word (decimal n), decimal_length n 8 (omega arith) (omega arith))

  pub labelled_short : length (labelled_line word n) ≤ answer_room
  labelled_short = omega (arith, length-append (word ++ decimal n) (LF ∷ []), size)

  pub labelled_label : (at m : ℕ) → at + answer_room ≤ m → at + length word + length (decimal n) ≤ m
  labelled_label at m h = omega (arith, length-append word (decimal n), size)

  pub labelled_room : {l l1 : Bytes} {at e : ℕ} → at + answer_room ≤ length l → WriteEnsures l at (word ++ decimal n) l1
      e
      → e + 1 ≤ length l1
  labelled_room h w = wrote_room 1 (omega (arith, size)) w

  pub labelled_wrote : {l l1 l2 : Bytes} {at e r : ℕ} → at + answer_room ≤ length l → WriteEnsures
      l at (word ++ decimal n) l1 e
      → WriteEnsures l1 e (LF ∷ []) l2 r
      → WriteEnsures l at (labelled_line word n) l2 r
  labelled_wrote h w v = wrote_then w v (omega (arith, size))

pub weight_small : {n : ℕ} → n ≤ last_weight → n ≤ last_mask
weight_small p = omega arith

refusal_small : (r : Refusal) → refusal_number r ≤ last_mask
refusal_small refusal.Malformed = omega arith
refusal_small refusal.Register = omega arith
refusal_small refusal.Empty = omega arith
refusal_small refusal.Range = omega arith
refusal_small refusal.Name = omega arith
refusal_small refusal.Equal = omega arith
refusal_small refusal.Depends = omega arith
refusal_small refusal.Full = omega arith

pub printed_short : (a : Result Answer Refusal) → SmallAnswer a → length (printed a) ≤ answer_room
unfolding printed line_of_fields
printed_short (Ok (Done n)) h = labelled_short (bytes "ok\t") n (omega arith) (weight_small h)
printed_short (Err r) h = labelled_short (bytes "no\t") (refusal_number r) (omega arith) (refusal_small r)
printed_short (Ok (Value w)) h = labelled_short (bytes "v\t") w (omega arith) (weight_small h)
printed_short (Ok (Compared Same)) h = omega arith
printed_short (Ok (Compared (Factor f))) h = labelled_short (bytes "factor\t") f (omega arith) (weight_small h)
printed_short (Ok (Compared Differ)) h = omega arith
printed_short (Ok (Mask m)) h = labelled_short (bytes "m\t") m (omega arith) h

pub answer_written : {l : Bytes} {at : ℕ} (a : Result Answer Refusal) {l' : Bytes} {e : ℕ} → SmallAnswer a
    → WriteEnsures l at (printed a) l' e
    → AnswerWritten l at a l' e
answer_written a s w = record { exact = w.exact; after = w.after; short = printed_short a s }
