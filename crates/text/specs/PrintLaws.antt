-- Laws of Print: bytes written behind others, and the digits of a number.
use Rattle.std.specs.Prelude.{◌≡◌, refl, [], ◌∷◌, ◌++◌, cond, Bool, true, false, ℕ, suc, ◌+◌, ◌-◌, ◌≤◌, ◌<◌, zero}
use Rattle.std.specs.Prelude.{◌/◌, ◌%◌}
use Rattle.std.specs.Prelude.{◌^◌, length, set, take, drop, ltb}
use Rattle.std.proofs.Common.{ap, sym, ◌∙◌, append-nil, arith, add-zero, pow-suc, div-lt_iff_lt-mul}
use Rattle.std.proofs.Common.{take-append-drop, length-append, length-take-le, lt-ltb}
use Rattle.std.proofs.Common.{le-ltb, drop-drop, append_assoc}
use borrow.Rule.Slice.PartMut.{put_mid}
use Rattle.std.proofs.lemmas.List.Edits.{sets, sets-eq}
use Rattle.std.proofs.Math.Seq.{length-sets, take-append_seam, drop-append_seam}
use Rattle.text.specs.Text.{Bytes}
use Rattle.text.specs.Print.{written, WriteEnsures, digits, decimal}

-- Texts written one after the other.

sets_append : (l : Bytes) (i : ℕ) (s t : Bytes) → sets (sets l i s) (i + length s) t ≡ sets l i (s ++ t)
sets_append l i [] t = ap (λ (k : ℕ). sets l k t) {x = i + 0} {y = i} (omega arith)
sets_append l i (v ∷ s) t =
    let place : i + suc (length s) ≡ suc i + length s = omega arith in
    rw place (sets_append (set l i v) (suc i) s t)

written_sets : (l : Bytes) (at : ℕ) (s : Bytes) → at + length s ≤ length l → written l at s ≡ sets l at s
unfolding written
written_sets l at s h = sym (sets-eq s l at h)

pub written_length : (l : Bytes) (at : ℕ) (s : Bytes) → at + length s ≤ length l → length (written l at s) ≡ length l
written_length l at s h = rw (written_sets l at s h) (length-sets l at s)

pub written_none : (l : Bytes) (at : ℕ) → written l at [] ≡ l
unfolding written
written_none l at = rw (add-zero at, append-nil (take at l)) (take-append-drop at l)

pub written_then : (l : Bytes) (at : ℕ) (s t : Bytes) → at + length s + length t ≤ length l
    → written (written l at s) (at + length s) t ≡ written l at (s ++ t)
written_then l at s t h =
    let room : at + length s ≤ length l = omega arith in
    let size = written_length l at s room in
    let both : at + length (s ++ t) ≤ length l = omega (arith, length-append s t) in
    rw (
      written_sets (written l at s) (at + length s) t (omega arith),
      written_sets l at s room,
      written_sets l at (s ++ t) both,
    )
    (sets_append l at s t)

pub wrote_length : {l : Bytes} {at : ℕ} {s l' : Bytes} {e : ℕ} → at + length s ≤ length l → WriteEnsures l at s l' e
    → length l' ≡ length l
wrote_length {l} {at} {s} h w = rw w.exact (written_length l at s h)

pub wrote_then : {l l1 l2 s t : Bytes} {at e r : ℕ} → WriteEnsures l at s l1 e → WriteEnsures l1 e t l2 r
    → at + length s + length t ≤ length l
    → WriteEnsures l at (s ++ t) l2 r
wrote_then {l} {l1} {l2} {s} {t} {at} {e} {r} w v h =
    record {
      exact = v.exact ∙ rw (w.exact, w.after) (written_then l at s t h);
      after =
          omega (arith, w.after, v.after, length-append s t);
    }

pub wrote_byte : (l : Bytes) (at v : ℕ) → at < length l → WriteEnsures l at (v ∷ []) (set l at v) (at + 1)
wrote_byte l at v h = record { exact = sym (written_sets l at (v ∷ []) (omega arith)); after = refl }

pub put_bytes_copied : (l : Bytes) (at : ℕ) {s s' : Bytes} → s' ≡ s
    → put_mid at (at + length s - at) l s' ≡ written l at s
unfolding written
put_bytes_copied l at {s} e =
    let n : at + length s - at ≡ length s = omega arith in
    rw (e, n) (simp (drop-drop, append_assoc))

-- Decimal digits.

digits_more : (k n : ℕ) → 0 < k → n < 10 ^ k → digits (suc k) n ≡ digits k n
unfolding digits
digits_more zero n p h = absurd (omega arith)
digits_more (suc zero) n p h = rw (lt-ltb n 10 (omega arith))
digits_more (suc (suc k)) n p h =
    ap (λ (l : Bytes). cond (ltb n 10) ((48 + n) ∷ []) (l ++ ((48 + n % 10) ∷ [])))
    (digits_more (suc k) (n / 10) (omega arith) ((div-lt_iff_lt-mul {k = 10} (omega arith)).1
    (rw (pow-suc 10 (suc k)) at h)))

pub decimal_small : (n : ℕ) → n < 10 → decimal n ≡ (48 + n) ∷ []
unfolding decimal digits
decimal_small n h = rw (lt-ltb n 10 h)

pub decimal_more : (n : ℕ) → 10 ≤ n → n < 2 ^ 64 → decimal n ≡ decimal (n / 10) ++ ((48 + n % 10) ∷ [])
unfolding decimal digits
decimal_more n h b =
    rw (le-ltb n 10 h) (ap (λ (l : Bytes). l ++ ((48 + n % 10) ∷ []))
    (sym (digits_more 19 (n / 10) (omega arith) (omega arith))))

digits_length : (m k n : ℕ) → 0 < k → n < 10 ^ k → length (digits m n) ≤ k
unfolding digits
digits_length zero k n p h = omega arith
digits_length (suc m) zero n p h = absurd (omega arith)
digits_length (suc m) (suc zero) n p h = rw (lt-ltb n 10 (omega arith)) (omega arith)
digits_length (suc m) (suc (suc k)) n p h =
    go (ltb n 10) (digits_length m (suc k) (n / 10) (omega arith)
    ((div-lt_iff_lt-mul {k = 10} (omega arith)).1 (rw (pow-suc 10 (suc k)) at h)))
  where
    go : (t : Bool) → length (digits m (n / 10)) ≤ suc k
        → length (cond t ((48 + n) ∷ []) (digits m (n / 10) ++ ((48 + n % 10) ∷ []))) ≤ suc (suc k)
    go true r = omega arith
    go false r = omega (arith, length-append (digits m (n / 10)) ((48 + n % 10) ∷ []))

-- no number is longer than 20 digits, and none of an answer longer than 8
pub decimal_length : (n k : ℕ) → 0 < k → n < 10 ^ k → length (decimal n) ≤ k
unfolding decimal
decimal_length n k p h = digits_length 20 k n p h

-- A number's only digit is put ..
pub digit_room : (n at m : ℕ) → n < 10 → at + length (decimal n) ≤ m → at < m
digit_room n at m h r = omega (arith, ap length (decimal_small n h))

pub digit_put : (l : Bytes) (n at : ℕ) → n < 10 → at + length (decimal n) ≤ length l
    → WriteEnsures l at (decimal n) (set l at (48 + n)) (at + 1)
digit_put l n at h r = rw (decimal_small n h) (wrote_byte l at (48 + n) (digit_room n at (length l) h r))

-- .. or its digits but the last, and then the last.
pub digits_room : (n at m : ℕ) → 10 ≤ n → n < 2 ^ 64 → at + length (decimal n) ≤ m → at + length (decimal (n / 10)) < m
digits_room n at m h b r =
    omega (arith, ap length (decimal_more n h b), length-append (decimal (n / 10)) ((48 + n % 10) ∷ []))

module _ {l l' : Bytes} {n at e : ℕ} (h : 10 ≤ n) (b : n < 2 ^ 64) (r : at + length (decimal n) ≤ length l)
    (w : WriteEnsures l at (decimal (n / 10)) l' e) where
  pub last_room : (e < length l') × (length l' ≡ length l)
  last_room =
      let room = digits_room n at (length l) h b r in
      let size = wrote_length (omega arith) w in
      (omega (arith, w.after), size)

  pub last_put : WriteEnsures l at (decimal n) (set l' e (48 + n % 10)) (e + 1)
  last_put =
      let room = digits_room n at (length l) h b r in
      rw (decimal_more n h b) (wrote_then w (wrote_byte l' e (48 + n % 10) last_room.0) (omega arith))

-- what is left after a text is still there
pub wrote_room : {l : Bytes} {at : ℕ} {s l' : Bytes} {e : ℕ} (k : ℕ) → at + length s + k ≤ length l → WriteEnsures
    l at s l' e
    → e + k ≤ length l'
wrote_room {l} {at} {s} k h w = omega (arith, wrote_length (omega arith) w, w.after)

-- bytes written behind others

module _ (l : Bytes) (at : ℕ) (s : Bytes) (h : at + length s ≤ length l) where
  upto : length (take at l ++ s) ≡ at + length s
  upto = length-append (take at l) s ∙ ap (λ n. n + length s) (length-take-le at l (omega arith))

  pub written_take : take (at + length s) (written l at s) ≡ take at l ++ s
  unfolding written
  written_take = rw (← upto) (take-append_seam (take at l ++ s) (drop (length (take at l ++ s)) l))

  pub written_drop : drop (at + length s) (written l at s) ≡ drop (at + length s) l
  unfolding written
  written_drop = rw (← upto) (drop-append_seam (take at l ++ s) (drop (length (take at l ++ s)) l))
