-- "A nonzero weight has one inverse": w to the power 65536 is 1, so the power 65535 is an inverse, and there is no
-- other. By strong induction on w's number: up to 256 it is computed; above, 65537 = q w + r with q and r smaller than
-- w and r not 0 (65537 is prime), so that q w and r are opposite and have the same square.
use Rattle.std.specs.Prelude.{◌≡◌, refl, Bool, true, false, ◌&&◌, ℕ, zero, suc, ◌+◌, ◌*◌, ◌%◌, ◌/◌, ◌≤◌, ◌<◌, eqb, leb}
use Rattle.std.proofs.Common.{ap, sym, ◌∙◌, arith, mod-lt, div-add-mod', div-lt_iff_lt-mul, le-div_iff_mul-le, eqb-true}
use Rattle.std.proofs.Common.{leb-true, leb-false}
use Rattle.std.proofs.lemmas.Bool.{eqb-false}
use Rattle.field.specs.Weight.{modulus, Weight, to_weight, 0w, 1w, plus_w, times_w, same_w, Nonzero, ones_power}
use Rattle.field.specs.Weight.{inverse_w}
use Rattle.field.specs.RingLaws.{weight_path, weight_number, weight_plus, weight_times, times_w_comm, times_w_assoc}
use Rattle.field.specs.RingLaws.{times_w_one, times_w_zero, times_w_medial, opposite_square, same_w_eq, not_zero}
use Rattle.field.specs.RingLaws.{nonzero_not, one_nonzero}
use Rattle.field.specs.PrimeLaws.{and_left, and_right, no_small_product}

-- w squared n times: the power 2^n
unfoldable squared : ℕ → Weight → Weight
squared zero w = w
squared (suc n) w = squared n (times_w w w)

squared_times : (n : ℕ) (v w : Weight) → squared n (times_w v w) ≡ times_w (squared n v) (squared n w)
unfolding squared
squared_times zero v w = refl
squared_times (suc n) v w = ap (squared n) (times_w_medial v w v w) ∙ squared_times n (times_w v v) (times_w w w)

squared_opposite : (n : ℕ) (x y : Weight) → plus_w x y ≡ 0w → squared (suc n) x ≡ squared (suc n) y
unfolding squared
squared_opposite n x y e = ap (squared n) (opposite_square x y e)

-- the power 65536 of each number from 1 to 256, computed

all_one : ℕ → Bool
all_one zero = true
all_one (suc n) = same_w (squared 16 (to_weight (suc n))) 1w && all_one n

all_one_256 : all_one 256 ≡ true
unfolding all_one squared same_w times_w to_weight 1w
all_one_256 = refl

all_one_at : (n w : ℕ) → all_one n ≡ true → 1 ≤ w → w ≤ n → squared 16 (to_weight w) ≡ 1w
unfolding all_one
all_one_at zero w e p q = absurd (omega arith)
all_one_at (suc n) w e p q =
    go (eqb w (suc n)) refl (all_one_at n w (and_right (same_w (squared 16 (to_weight (suc n))) 1w) (all_one n) e) p)
  where
    go : (b : Bool) → eqb w (suc n) ≡ b → (w ≤ n → squared 16 (to_weight w) ≡ 1w) → squared 16 (to_weight w) ≡ 1w
    go true t ih = rw (eqb-true w (suc n) t) (same_w_eq _ _ (and_left _ _ e))
    go false t ih = ih (omega (arith, eqb-false w (suc n) t))

-- the power 65536 of each number above 256

pub whole : to_weight modulus ≡ 0w
unfolding to_weight 0w
whole = weight_path refl

power_above :
    (w q r : ℕ) → q * w + r ≡ modulus → squared 16 (to_weight q) ≡ 1w → squared 16 (to_weight r) ≡ 1w
    → squared 16 (to_weight w) ≡ 1w
power_above w q r e a b =
    sym (times_w_one (squared 16 (to_weight w)))
    ∙ ap (λ x. times_w x (squared 16 (to_weight w))) (sym a)
    ∙ sym (squared_times 16 (to_weight q) (to_weight w))
    ∙ ap (squared 16) (weight_times q w)
    ∙ squared_opposite 15 (to_weight (q * w)) (to_weight r) (weight_plus (q * w) r ∙ ap to_weight e ∙ whole)
    ∙ b

-- the remainder is not 0
remains : (w q r : ℕ) → w < modulus → 1 ≤ q → q < 256 → q * w + r ≡ modulus → 1 ≤ r
remains w q r s p h e = go (eqb r 0) refl (eqb q 1) refl
  where
    go : (a : Bool) → eqb r 0 ≡ a → (b : Bool) → eqb q 1 ≡ b → 1 ≤ r
    go false t b u = omega (arith, eqb-false r 0 t)
    go true t true u =
        let z : 1 * w + r ≡ modulus = rw (eqb-true q 1 u) at e in absurd (omega (arith, eqb-true r 0 t))
    go true t false u =
        let z : q * w ≡ modulus = omega (arith, eqb-true r 0 t) in
        absurd (no_small_product q w z (omega (arith, eqb-false q 1 u)) (omega arith))

-- the power 65536 of every nonzero number, by induction on a bound of it

abbrev PowerOne : ℕ → Type 0
PowerOne w = 1 ≤ w → w < modulus → squared 16 (to_weight w) ≡ 1w

power_step : (w : ℕ) → ((v : ℕ) → v < w → PowerOne v) → PowerOne w
power_step w ih p s = go (leb w 256) refl
  where
    q : ℕ
    q = modulus / w

    r : ℕ
    r = modulus % w

    divided : q * w + r ≡ modulus
    divided = div-add-mod' modulus w

    r_small : r < w
    r_small = mod-lt modulus p

    q_positive : 1 ≤ q
    q_positive = (le-div_iff_mul-le p).1 (omega arith)

    go : (b : Bool) → leb w 256 ≡ b → squared 16 (to_weight w) ≡ 1w
    go true t = all_one_at 256 w all_one_256 p (leb-true w 256 t)
    go false t =
        let above = leb-false w 256 t in
        let q-small : q < 256 = (div-lt_iff_lt-mul p).1 (omega arith) in
        power_above
        w
        q
        r
        divided
        (ih q (omega arith) q_positive (omega arith))
        (ih r r_small (remains w q r s q_positive q-small divided) (omega (arith, r_small)))

power_one : (n w : ℕ) → w < n → PowerOne w
power_one zero w b = absurd (omega arith)
power_one (suc n) w b = power_step w (λ v l. power_one n v (omega arith))

-- the inverse

ones_power_times : (n : ℕ) (w : Weight) → times_w (ones_power n w) w ≡ squared n w
unfolding ones_power squared
ones_power_times zero w = times_w_one w
ones_power_times (suc n) w =
    ap (λ x. times_w x w) (times_w_comm w (ones_power n (times_w w w)))
    ∙ times_w_assoc (ones_power n (times_w w w)) w w
    ∙ ones_power_times n (times_w w w)

nonzero_number : (w : Weight) → Nonzero w → 1 ≤ w.number
unfolding same_w 0w to_weight
nonzero_number w n = omega (arith, eqb-false w.number 0 n.is)

-- "A nonzero weight has one inverse": there is one ..
pub inverse : {a : Weight} → Nonzero a → times_w (inverse_w a) a ≡ 1w
unfolding inverse_w
inverse {a} n =
    ones_power_times 16 a
    ∙ ap (squared 16) (sym (weight_number a))
    ∙ power_one (suc a.number) a.number (omega arith) (nonzero_number a n) a.small

pub times_inverse : {c : Weight} (x : Weight) → Nonzero c → times_w (inverse_w c) (times_w c x) ≡ x
times_inverse {c} x n = sym (times_w_assoc (inverse_w c) c x) ∙ rw (inverse n) (times_w_one x)

pub times_cancel : {c a b : Weight} → Nonzero c → times_w c a ≡ times_w c b → a ≡ b
times_cancel {c} {a} {b} n e = sym (times_inverse a n) ∙ ap (times_w (inverse_w c)) e ∙ times_inverse b n

-- .. and only one
pub inverse_unique : {a b : Weight} → Nonzero a → times_w b a ≡ 1w → b ≡ inverse_w a
inverse_unique {a} {b} n e =
    times_cancel n (times_w_comm a b ∙ e ∙ sym (inverse n) ∙ times_w_comm (inverse_w a) a)

-- no zero divisors
pub times_nonzero : {a b : Weight} → Nonzero a → Nonzero b → Nonzero (times_w a b)
times_nonzero {a} {b} n m =
    not_zero
    (times_w a b)
    (λ e. nonzero_not m (times_cancel n (e ∙ sym (times_w_comm a 0w ∙ times_w_zero a))))

pub inverse_nonzero : {c : Weight} → Nonzero c → Nonzero (inverse_w c)
inverse_nonzero {c} n =
    not_zero (inverse_w c) (λ e. nonzero_not one_nonzero (sym (inverse n) ∙ rw e (times_w_zero c)))

pub inverse_one : inverse_w 1w ≡ 1w
inverse_one = sym (inverse_unique one_nonzero (times_w_one 1w))

-- the inverse of a product, times one of its factors
pub inverse_times : {c f : Weight} → Nonzero c → Nonzero f → times_w (inverse_w (times_w c f)) c ≡ inverse_w f
inverse_times {c} {f} n m =
    inverse_unique m (times_w_assoc (inverse_w (times_w c f)) c f ∙ inverse (times_nonzero n m))
