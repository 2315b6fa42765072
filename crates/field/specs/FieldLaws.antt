-- Numbers that represent sums, products and inverses; the steps to an inverse.
use Rattle.std.specs.Prelude.{◌≡◌, refl, ◌≢◌, Bool, true, false, ℕ, ◌+◌, ◌*◌, ◌-◌, ◌/◌, ◌%◌, ◌≤◌, ◌<◌, eqb}
use Rattle.std.proofs.Common.{ap, sym, ◌∙◌, inl, inr, add-mul, suc-mul, mod-lt, div-add-mod', div-lt_iff_lt-mul}
use Rattle.std.proofs.Common.{le-div_iff_mul-le, add-one, arith, eqb-true}
use Rattle.std.proofs.Math.Nat.{dvd_of_mod-eq-zero}
use Rattle.std.proofs.lemmas.Bool.{eqb-false}
use Rattle.field.specs.Weight.{modulus, small_mod, to_weight, 0w, 1w, plus_w, times_w, ones_power, inverse_w}
use Rattle.field.specs.RingLaws.{weight_mod, weight_zero, weight_one, weight_plus, weight_times, plus_w_zero}
use Rattle.field.specs.RingLaws.{plus_w_cancel, times_w_comm, times_w_assoc, times_w_one, times_w_zero, nonzero_weight}
use Rattle.field.specs.PrimeLaws.{prime}
use Rattle.field.specs.InverseLaws.{whole, inverse, inverse_unique, inverse_one}
use Rattle.field.specs.Field.{Represents, DescentStep, QuotientBounds, DescentLoop}

-- a remainder represents the weight of the number
pub represents_remainder : (n r : ℕ) → r ≡ n % modulus → Represents r (to_weight n)
represents_remainder n r e = rw e (record { small = small_mod n; is = weight_mod n })

pub represents_sum : (a b r : ℕ) → r ≡ (a + b) % modulus → Represents r (plus_w (to_weight a) (to_weight b))
represents_sum a b r e = rw (weight_plus a b) (represents_remainder (a + b) r e)

pub represents_product : (a b r : ℕ) → r ≡ a * b % modulus → Represents r (times_w (to_weight a) (to_weight b))
represents_product a b r e = rw (weight_times a b) (represents_remainder (a * b) r e)

-- the rest is not 0, since 65537 is prime
remainder_some : (w : ℕ) → 1 < w → w < modulus → 1 ≤ modulus % w
remainder_some w p s = go (eqb (modulus % w) 0) refl
  where
    go : (b : Bool) → eqb (modulus % w) 0 ≡ b → 1 ≤ modulus % w
    go false e = omega (arith, eqb-false (modulus % w) 0 e)
    go true e =
        elim (prime w (dvd_of_mod-eq-zero w (eqb-true (modulus % w) 0 e)))
        [ inl q ↦ absurd (omega arith) | inr q ↦ absurd (omega arith) ]

pub remainder_below : (w : ℕ) → 1 < w → modulus % w < w
remainder_below w p = mod-lt modulus (omega arith)

pub quotient_bounds : (w : ℕ) → 1 < w → w < modulus → QuotientBounds (modulus / w)
quotient_bounds w p s =
    let most : modulus / w < 32769 = (div-lt_iff_lt-mul {k = w} (omega arith)).1 (omega arith) in
    record { some = (le-div_iff_mul-le {k = w} (omega arith)).1 (omega arith); most = omega arith }

-- m times w is w', so the inverse of w is m times that of w'
descended : {f w f' w' : ℕ} (m : ℕ) → 1 ≤ w → w < modulus → 1 ≤ w' → w' < w → to_weight (m * w) ≡ to_weight w'
    → Represents f' (times_w (to_weight f) (to_weight m)) → DescentStep f w f' w'
descended {f} {w} {f'} {w'} m p s p' l e t =
    let n = nonzero_weight w s (λ z. omega arith) in
    let n' = nonzero_weight w' (omega arith) (λ z. omega arith) in
    let one : times_w (times_w (to_weight m) (inverse_w (to_weight w'))) (to_weight w) ≡ 1w =
    ap (λ x. times_w x (to_weight w)) (times_w_comm (to_weight m) (inverse_w (to_weight w')))
    ∙ times_w_assoc (inverse_w (to_weight w')) (to_weight m) (to_weight w)
    ∙ ap (times_w (inverse_w (to_weight w'))) (weight_times m w ∙ e) ∙ inverse n' in
    record {
      small = t.small;
      some = p';
      less = l;
      is =
          ap (λ x. times_w x (inverse_w (to_weight w'))) t.is
          ∙ times_w_assoc (to_weight f) (to_weight m) (inverse_w (to_weight w'))
          ∙ ap (times_w (to_weight f)) (inverse_unique n one);
    }

module _ {w q low : ℕ} (p : 1 < w) (s : w < modulus) (eq : q ≡ modulus / w) (er : low ≡ modulus % w) where
  divided : q * w + low ≡ modulus
  divided = rw (eq, er) (div-add-mod' modulus w)

  rest : 1 ≤ low
  rest = rw er (remainder_some w p s)

  below : low < w
  below = rw er (remainder_below w p)

  at_most : q ≤ modulus
  at_most = rw eq (omega (arith, (quotient_bounds w p s).most))

  pub descent_low : {f r : ℕ} → Represents r (times_w (to_weight f) (to_weight (modulus - q))) → DescentStep f w r low
  descent_low t =
      let all : (modulus - q) * w + q * w ≡ modulus * w =
      sym (add-mul (modulus - q) q w) ∙ ap (λ x. x * w) (omega (arith, at_most)) in
      let left : plus_w (to_weight ((modulus - q) * w)) (to_weight (q * w)) ≡ 0w =
      weight_plus ((modulus - q) * w) (q * w) ∙ ap to_weight all ∙ sym (weight_times modulus w)
      ∙ ap (λ x. times_w x (to_weight w)) whole
      ∙ times_w_zero (to_weight w) in
      let right : plus_w (to_weight low) (to_weight (q * w)) ≡ 0w =
      weight_plus low (q * w) ∙ ap to_weight (omega (arith, divided)) ∙ whole in
      descended (modulus - q) (omega arith) s rest below (plus_w_cancel _ _ (to_weight (q * w)) (left ∙ sym right)) t

  pub descent_high : {f r high : ℕ} → high ≡ w - low → Represents r (times_w (to_weight f) (to_weight (q + 1)))
      → DescentStep f w r high
  descent_high {high = high} e t =
      let more : (q + 1) * w ≡ modulus + high = rw (add-one q, suc-mul q w) (omega (arith, divided, below)) in
      descended (q + 1) (omega arith) s (omega (arith, below)) (omega (arith, rest, below))
      (ap to_weight more ∙ sym (weight_plus modulus high) ∙ ap (λ x. plus_w x (to_weight high)) whole
      ∙ plus_w_zero (to_weight high)) t

pub descent_start : {a : ℕ} → a < modulus → a ≢ 0 → DescentLoop a 1 a
descent_start {a} s n = record {
  small = omega arith;
  some = omega (arith, n);
  within = s;
  is = rw weight_one (times_w_one (inverse_w (to_weight a)));
}

pub descent_step : {a f w f' w' : ℕ} → DescentLoop a f w → DescentStep f w f' w' → DescentLoop a f' w'
descent_step p d = record {
  small = d.small;
  some = d.some;
  within = omega (arith, d.less, p.within);
  is = d.is ∙ p.is;
}

pub descent_end : {a f w : ℕ} → DescentLoop a f w → w ≤ 1 → Represents f (inverse_w (to_weight a))
descent_end {a} {f} {w} p h =
    let one : w ≡ 1 = omega (arith, p.some) in
    record {
      small = p.small;
      is = sym (times_w_one (to_weight f)) ∙ times_w_comm 1w (to_weight f)
          ∙ ap (times_w (to_weight f)) (sym (ap (λ x. inverse_w (to_weight x)) one ∙ ap inverse_w weight_one
          ∙ inverse_one))
          ∙ p.is;
    }

-- 0 to any power is 0
pub represents_inverse_zero : {a : ℕ} → a ≡ 0 → Represents 0 (inverse_w (to_weight a))
unfolding inverse_w ones_power
represents_inverse_zero e = rw (e, weight_zero) record { small = omega arith; is = weight_zero ∙ sym (times_w_zero _) }
