-- Laws of Ruling: a verdict's answer has at most 32 bytes.
use Rattle.std.specs.Prelude.{◌≡◌, refl, ℕ, ◌+◌, ◌^◌, ◌≤◌, ◌<◌, length, Result, Ok}
use mathlib.Core.List.{[], ◌∷◌, ◌++◌, append_assoc}
use Rattle.std.proofs.Common.{ap, arith}
use Rattle.std.proofs.Math.ListN.{length-append}
use Rattle.text.specs.Text.{Bytes, bytes, LF, tab}
use Rattle.text.specs.Limits.{verdict_room}
use Rattle.text.specs.Print.{decimal, WriteEnsures}
use Rattle.text.specs.Answer.{line_of_fields, printed, AnswerWritten}
use Rattle.text.specs.Ruling.{fault_number, Ruling, printed_ruling, no_at, RulingWritten}
use Rattle.text.specs.PrintLaws.{wrote_then, wrote_room, decimal_length}
use Rattle.text.specs.declared.check.Fault.{Fault}
use Rattle.text.specs.declared.check.FaultAt.{FaultAt}
use Rattle.text.specs.declared.call.Refusal.{Refusal}
use Rattle.text.specs.declared.answer.Answer.{Answer}
use Rattle.text.specs.declared.answer.Answer.TheVariants.{Compared}
use Rattle.diagram.specs.declared.compare.Comparison.{Comparison}

module _ (l : Bytes) (n line : ℕ) (room : verdict_room ≤ length l) (small : n ≤ 14) (fits : line < 2 ^ 64) where
  number_short : length (decimal n) ≤ 2
  number_short = decimal_length n 2 (omega arith) (omega arith)

  line_short : length (decimal line) ≤ 20
  line_short = decimal_length line 20 (omega arith) (omega arith)

  pub number_room : 3 + length (decimal n) ≤ length l
  number_room = omega (arith, number_short)

  pub line_room_lem : {l1 : Bytes} {a : ℕ} → WriteEnsures l 0 (bytes "no\t" ++ decimal n) l1 a
      → a + 1 + length (decimal line) ≤ length l1
  line_room_lem w = omega (arith, wrote_room (1 + length (decimal line)) (omega (arith, number_short, line_short)) w)

  -- the first two fields
  refusal_start : {l1 l2 : Bytes} {a b : ℕ} → WriteEnsures l 0 (bytes "no\t" ++ decimal n) l1 a
      → WriteEnsures l1 a (tab ∷ decimal line) l2 b
      → WriteEnsures l 0 ((bytes "no\t" ++ decimal n) ++ (tab ∷ decimal line)) l2 b
  refusal_start w v = wrote_then w v (omega (arith, number_short, line_short))

  refusal_size : length ((bytes "no\t" ++ decimal n) ++ (tab ∷ decimal line)) + 1 ≤ verdict_room
  refusal_size = omega (arith, length-append (bytes "no\t" ++ decimal n) (tab ∷ decimal line), number_short, line_short)

  pub end_room : {l1 l2 : Bytes} {a b : ℕ} → WriteEnsures l 0 (bytes "no\t" ++ decimal n) l1 a
      → WriteEnsures l1 a (tab ∷ decimal line) l2 b → b + 1 ≤ length l2
  end_room w v = wrote_room 1 (omega (arith, refusal_size)) (refusal_start w v)

  pub refusal_wrote : {l1 l2 l3 : Bytes} {a b r : ℕ} (f : Fault) → n ≡ fault_number f
      → WriteEnsures l 0 (bytes "no\t" ++ decimal n) l1 a
      → WriteEnsures l1 a (tab ∷ decimal line) l2 b
      → WriteEnsures l2 b (LF ∷ []) l3 r → RulingWritten l (no_at f line) l3 r
  unfolding printed_ruling line_of_fields
  refusal_wrote f e w v u =
      let start : Bytes = (bytes "no\t" ++ decimal n) ++ (tab ∷ decimal line) in
      let all = wrote_then (refusal_start w v) u (omega (arith, refusal_size)) in
      let same = append_assoc (decimal n) (tab ∷ decimal line) (LF ∷ []) in
      record {
        exact = rw (← e, ← same) all.exact;
        count = rw (← e, ← same) (omega (arith, all.after));
        short = omega (arith, all.after, length-append start (LF ∷ []), refusal_size);
      }

pub no_at_same : {f g : Fault} {line at : ℕ} → no_at f line ≡ no_at g at → (f ≡ g) × (line ≡ at)
no_at_same {f} {g} {line} {at} e =
    let o : ◌≡◌ {A = FaultAt} (record { fault = f; line = line }) (record { fault = g; line = at }) = cc in
    (ap (λ (x : FaultAt). x.fault) o, ap (λ (x : FaultAt). x.line) o)

-- an answer that fits 16 bytes fits 32
pub ruling_written_answer : {l l' : Bytes} {n : ℕ} (a : Result Answer Refusal) (r : Ruling)
    → printed_ruling r ≡ printed a → AnswerWritten l 0 a l' n → RulingWritten l r l' n
ruling_written_answer a r e p = record {
  exact = rw e p.exact;
  count = rw e (omega (arith, p.after));
  short = omega (arith, p.after, p.short);
}

-- a comparison, as a session answers it and as a verdict does
pub ruling_compared : (r : Comparison) → printed_ruling (Ok r) ≡ printed (Ok (Compared r))
unfolding printed_ruling
ruling_compared r = refl
