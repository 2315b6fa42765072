-- What the code's verdict leaves in the output.
use Rattle.std.specs.Prelude.{◌≡◌, refl, ◌++◌, List, ◌≢◌, ◌↔◌, ◌+◌, ℕ, ◌≤◌, ◌<◌, length, drop, take, Ok}
use Rattle.std.proofs.Common.{ap, ◌∙◌, sym, inl, inr, arith, le-ltb}
use Rattle.std.proofs.Math.Seq.{take-append_seam, drop-append_seam}
use Rattle.diagram.specs.Weights.{modulus}
use Rattle.diagram.specs.Tensor.{indices}
use Rattle.diagram.specs.Node.{capacity}
use Rattle.text.specs.Text.{Bytes}
use Rattle.text.specs.Limits.{verdict_room}
use Rattle.text.specs.Print.{written}
use Rattle.text.specs.Session.{at_most, Capacity, empty_tally}
use Rattle.text.specs.Check.{Reading, lists, fault, read_text}
use Rattle.text.specs.Ruling.{printed_ruling, no_at}
use Rattle.text.specs.VerdictSession.{ruling_on, verdict_result, session_calls, perform, refused_at}
use Rattle.text.specs.VerdictMeaning.{NotFull}
use Rattle.text.specs.VerdictBytes.{RefusedAt}
use Rattle.text.specs.Judge.{VerdictEnsures}
use Rattle.text.specs.RulingLaws.{no_at_same}
use Rattle.text.specs.VerdictMeaningLaws.{verdict_means, verdict_refused}
use Rattle.text.specs.VerdictFaultLaws.{verdict_fault}
use Rattle.text.specs.VerdictLineLaws.{fault_line, full_line}
use Rattle.text.specs.declared.ruling.VerdictResult.{VerdictResult}
use Rattle.diagram.specs.declared.gate.Gate.{Gate}
use Rattle.text.specs.declared.check.Fault.{Fault}
use Rattle.text.specs.declared.check.Fault.TheVariants.{Full}
use Rattle.diagram.specs.declared.compare.Comparison.TheVariants.{Factor}
use Rattle.text.specs.declared.call.Refusal.TheVariants as refusal

-- What is written, from `VerdictEnsures`.

written_start : (o s : Bytes) → written o 0 s ≡ s ++ drop (length s) o
unfolding written
written_start o s = let z : 0 + length s ≡ length s = omega arith in rw z

module _ {text s o o' : Bytes} {r : VerdictResult} (room : verdict_room ≤ length o)
    (g : VerdictEnsures text s o o' r) where
  abbrev expected : Bytes
  expected = printed_ruling (ruling_on indices (at_most (capacity s)) text)

  given : verdict_result indices (at_most (capacity s)) (length o) text ≡ (0, expected)
  unfolding verdict_result
  given = rw (le-ltb _ _ room)

  count : r.bytes ≡ length expected
  count = g.bytes ∙ ap (λ (p : ℕ × Bytes). length p.1) given

  left : o' ≡ expected ++ drop (length expected) o
  left = g.output ∙ ap (λ (p : ℕ × Bytes). written o 0 p.1) given ∙ written_start o expected

  pub given_code : r.code ≡ 0
  given_code = g.code ∙ ap (λ (p : ℕ × Bytes). p.0) given

  pub given_bytes : take r.bytes o' ≡ expected
  given_bytes = rw (count, left) (take-append_seam expected (drop (length expected) o))

  pub given_rest : drop r.bytes o' ≡ drop r.bytes o
  given_rest = rw (count, left) (drop-append_seam expected (drop (length expected) o))

-- A refusal names the text's fault, or the line where a good text is full; any other ruling is of a good text that is
-- not full.

module _ (c : Capacity) (text : Bytes) where
  pub not_full : {n : ℕ} {gs hs : List Gate} → read_text text ≡ lists n gs hs
      → ((line : ℕ) → perform {d = indices} c (session_calls n gs hs) empty_tally ≢ refused_at line refusal.Full)
      → NotFull c text
  not_full e h line q = h line ((verdict_refused c text e Full line).0 q).1

  pub refused_at_lem : (f : Fault) (line : ℕ) → (ruling_on indices c text ≡ no_at f line) ↔ RefusedAt c text f line
  refused_at_lem f line = (λ q. to q (read_text text) refl, from)
    where
      to : ruling_on indices c text ≡ no_at f line → (x : Reading) → read_text text ≡ x → RefusedAt c text f line
      to q (lists n gs hs) e =
          let p = (verdict_refused c text e f line).0 q in
          inr (p.0, record { n = n; gs = gs; hs = hs; good = e; full = p.1 })
      to q (fault g l) e =
          let same = no_at_same (sym (verdict_fault c text e) ∙ q) in
          inl (rw (← same.0, ← same.1) e)

      from : RefusedAt c text f line → ruling_on indices c text ≡ no_at f line
      from (inl e) = verdict_fault c text e
      from (inr (z, a)) = (verdict_refused c text a.good f line).1 (z, a.full)

  pub line_most : (f : Fault) (line : ℕ) → RefusedAt c text f line → line ≤ length text + 1
  line_most f line (inl e) = fault_line text e
  line_most f line (inr (z, a)) = omega (arith, full_line {d = indices} c text a.good a.full)

  -- a factor is a weight
  pub factor_small : (f : ℕ) → ruling_on indices c text ≡ Ok (Factor f) → f < modulus
  factor_small f q = go (read_text text) refl
    where
      no_refusal : (g : Fault) (line : ℕ) → ruling_on indices c text ≢ no_at g line
      no_refusal g line p =
          let z : Ok (Factor f) ≡ no_at g line = sym q ∙ p in
          let o : ◌≡◌ {A = ℕ} 0 1 = cc in omega arith

      go : (x : Reading) → read_text text ≡ x → f < modulus
      go (lists n gs hs) e = (((verdict_means c text e (no_refusal Full)).factor_of f).0 q).2.weight
      go (fault g line) e = absurd (no_refusal g line (verdict_fault c text e))
