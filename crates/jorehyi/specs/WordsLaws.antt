-- Laws of results as words: an empty register's words, and words put one after the other.
use mir.Val.{bool_byte}
use Rattle.std.specs.Prelude.{◌≡◌, refl, Bool, true, false, cond, List, [], ◌∷◌, ℕ, zero, suc, ◌+◌, ◌*◌, ◌≤◌, ◌<◌}
use Rattle.std.specs.Prelude.{get_or}
use Rattle.std.proofs.Common.{ap, sym, ◌∙◌, add-one, arith, length-append}
use Rattle.std.proofs.Math.ListN.{length}
use Rattle.diagram.specs.Tensor.{indices}
use Rattle.diagram.specs.Registers.{Register, occupied, edge_of, empty_register}
use Rattle.diagram.specs.declared.node.Edge.{Edge}
use Rattle.text.specs.Print.{written, WriteEnsures}
use Rattle.text.specs.Session.{TallyRun}
use Rattle.text.specs.Agrees.{register_at, Agrees}
use Rattle.text.specs.PrintLaws.{wrote_then, wrote_length, written_none}
use Rattle.text.specs.declared.progress.SessionResult.{SessionResult}
use Rattle.text.specs.declared.ruling.VerdictResult.{VerdictResult}
use Rattle.jorehyi.specs.Words.{register_size, registers_size, session_size, verdict_size, register_words}
use Rattle.jorehyi.specs.Words.{registers_words, session_words, verdict_words, RegistersLoop}

-- the words of an empty register are 0
pub empty_words : {s o o' : List ℕ} {r : SessionResult} {t : TallyRun indices} → Agrees s o o' r t → (i : ℕ) → i < 16
    → occupied (register_at r i) ≡ false → register_words (register_at r i) ≡ 0 ∷ 0 ∷ 0 ∷ []
unfolding register_words
empty_words a i l q = ap register_words (a.empty i l q)

-- one register

-- a bool as a number
byte_cond : (b : Bool) → bool_byte b ≡ cond b 1 0
byte_cond true = refl
byte_cond false = refl

pub wrote_register : (r : Register) {x : Edge} {l l₁ l₂ l₃ : List ℕ} {f at a b e : ℕ} → at + register_size ≤ length l
    → x ≡ edge_of r → f ≡ bool_byte (occupied r) → WriteEnsures l at (f ∷ []) l₁ a
    → WriteEnsures l₁ a (x.weight ∷ []) l₂ b → WriteEnsures l₂ b (x.node ∷ []) l₃ e
    → WriteEnsures l at (register_words r) l₃ e
unfolding register_words
wrote_register r h p q u v w =
    rw (← p, ← byte_cond (occupied r), ← q) (wrote_then (wrote_then u v (omega arith)) w (omega arith))

-- the loop over the registers

registers_length : (i : ℕ) (rs : List Register) → length (registers_words i rs) ≡ register_size * i
unfolding registers_words register_words
registers_length zero rs = refl
registers_length (suc i) rs =
    omega (
      arith,
      registers_length i rs,
      length-append (registers_words i rs)
          (register_words (get_or rs i empty_register)),
    )

pub registers_start : {l : List ℕ} {at : ℕ} {rs : List Register} → RegistersLoop l at rs l 0 at
unfolding registers_words
registers_start {l} {at} = record {
  within = omega arith;
  wrote = record { exact = sym (written_none l at); after = omega arith };
  length = refl;
  place = omega arith;
}

module _ {l : List ℕ} {at : ℕ} {rs : List Register} {l' : List ℕ} {i e : ℕ} where
  pub registers_room : RegistersLoop l at rs l' i e → i < 16 → at + registers_size ≤ length l
      → e + register_size ≤ length l'
  registers_room p k h = omega (arith, p.length, p.place)

  pub registers_step : {l'' : List ℕ} {f : ℕ} → at + registers_size ≤ length l → RegistersLoop l at rs l' i e
      → i < 16 → WriteEnsures l' e (register_words (get_or rs i empty_register)) l'' f
      → RegistersLoop l at rs l'' (i + 1) f
  unfolding registers_words register_words
  registers_step h p k w = record {
    within = omega arith;
    wrote = rw (add-one i) (wrote_then p.wrote w (omega (arith, registers_length i rs)));
    length = wrote_length (registers_room p k h) w ∙ p.length;
    place = omega (arith, w.after, p.place);
  }

  pub registers_end : RegistersLoop l at rs l' i e → 16 ≤ i → WriteEnsures l at (registers_words 16 rs) l' e
  registers_end p h =
      let last : i ≡ 16 = omega (arith, p.within) in
      rw last at p.wrote

-- the whole result

pub wrote_session : (s : SessionResult) {l l₁ l₂ l₃ l₄ l₅ : List ℕ} {a b c d e : ℕ} → session_size ≤ length l
    → WriteEnsures l 0 (s.code ∷ []) l₁ a → WriteEnsures l₁ a (s.lines ∷ []) l₂ b → WriteEnsures l₂ b (s.bytes ∷ [])
    l₃ c
    → WriteEnsures l₃ c (s.count ∷ []) l₄ d → WriteEnsures l₄ d (registers_words 16 s.registers.all) l₅ e
    → l₅ ≡ written l 0 (session_words s)
unfolding session_words
wrote_session s h p q r t u =
    let size = registers_length 16 s.registers.all in
    let four = wrote_then (wrote_then (wrote_then p q (omega arith)) r (omega arith)) t (omega arith) in
    (wrote_then four u (omega arith)).exact

pub wrote_verdict : {l l₁ l₂ : List ℕ} {a e : ℕ} {v : VerdictResult} → verdict_size ≤ length l
    → WriteEnsures l 0 (v.code ∷ []) l₁ a → WriteEnsures l₁ a (v.bytes ∷ []) l₂ e → l₂ ≡ written l 0 (verdict_words v)
unfolding verdict_words
wrote_verdict h p q = (wrote_then p q (omega arith)).exact
