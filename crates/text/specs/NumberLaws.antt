-- Laws of Number: digit by digit.
use Rattle.std.specs.Prelude.{◌≡◌, refl, false, true, ◌&&◌, ℕ, ◌+◌, ◌*◌, ◌-◌, ◌≤◌, ◌<◌, length, get_or, drop}
use Rattle.std.specs.Prelude.{leb, Some, None}
use Rattle.std.specs.Char.{is_ascii_digit}
use Rattle.std.proofs.Common.{sym, ◌∙◌, add-one, arith, pow-suc, drop_of_length-le, drop-cons, le-leb, leb-true}
use Rattle.std.proofs.Math.Bool.{and-false}
use Rattle.std.proofs.Math.Nat.{pow-le-pow_right}
use Rattle.std.proofs.lemmas.Bool.{lt-leb}
use Rattle.diagram.specs.TestLaws.{and_right}
use Rattle.text.specs.Text.{Bytes}
use Rattle.text.specs.Limits.{most_digits}
use Rattle.text.specs.Number.{is_digit, digits_from, ReadDigitsLoop, needless, number_of}

digit_most : (x : ℕ) → is_ascii_digit x ≡ true → x ≤ 57
digit_most x e = leb-true x 57 (and_right (leb 48 x) (leb x 57) e)

digits_on : (v : ℕ) (s : Bytes) (i : ℕ) → i < length s → is_ascii_digit (get_or s i 0) ≡ true
    → digits_from v (drop i s) ≡ digits_from (10 * v + (get_or s i 0 - 48)) (drop (i + 1) s)
unfolding digits_from is_digit
digits_on v s i h e = rw (drop-cons s i 0 h, e, add-one i)

digits_none : (v : ℕ) (s : Bytes) (i : ℕ) → i < length s → is_ascii_digit (get_or s i 0) ≡ false
    → digits_from v (drop i s) ≡ None
unfolding digits_from is_digit
digits_none v s i h e = rw (drop-cons s i 0 h, e)

digits_end : (v : ℕ) (s : Bytes) (i : ℕ) → length s ≤ i → digits_from v (drop i s) ≡ Some v
unfolding digits_from
digits_end v s i h = rw (drop_of_length-le s h)

pub read_digits_loop_start : {s : Bytes} → ReadDigitsLoop s 0 0
read_digits_loop_start = record { small = omega arith; same = refl }

module _ {s : Bytes} {v i : ℕ} (r : ReadDigitsLoop s v i) where
  pub read_digits_loop_next : i < length s → is_ascii_digit (get_or s i 0) ≡ true
      → ReadDigitsLoop s (10 * v + (get_or s i 0 - 48)) (i + 1)
  read_digits_loop_next h e =
      let most = digit_most (get_or s i 0) e in
      record {
        small = rw (add-one i, pow-suc 10 i) (omega (arith, r.small));
        same = sym (digits_on v s i h e) ∙ r.same;
      }

  pub read_digits_loop_small : i < length s → length s ≤ most_digits → v < 100000000
  read_digits_loop_small h p =
      omega (arith, pow-le-pow_right {n = 10} (omega arith) {i = i} {j = 8} (omega arith), r.small)

  pub read_digits_loop_none : i < length s → is_ascii_digit (get_or s i 0) ≡ false → None ≡ digits_from 0 s
  read_digits_loop_none h e = sym (digits_none v s i h e) ∙ r.same

  pub read_digits_loop_end : length s ≤ i → Some v ≡ digits_from 0 s
  read_digits_loop_end h = sym (digits_end v s i h) ∙ r.same

pub number_none : (most : ℕ) (s : Bytes) → length s ≡ 0 → None ≡ number_of most s
unfolding number_of
number_none most s h = rw (lt-leb 1 (length s) (omega arith))

pub number_long : (most : ℕ) (s : Bytes) → most < length s → None ≡ number_of most s
unfolding number_of
number_long most s h = rw (lt-leb (length s) most h, and-false (leb 1 (length s)))

pub number_needless : (most : ℕ) (s : Bytes) → needless s ≡ true → None ≡ number_of most s
unfolding number_of
number_needless most s h = rw (h, and-false (leb 1 (length s) && leb (length s) most))

pub number_plain : (most : ℕ) (s : Bytes) → (length s ≡ 0 → ⊥) → length s ≤ most → needless s ≡ false
    → digits_from 0 s ≡ number_of most s
unfolding number_of
number_plain most s n h e = rw (le-leb 1 (length s) (omega arith), le-leb (length s) most h, e)
