-- The laws of a commutative ring, and how weights and their numbers determine each other.
use Rattle.std.specs.Prelude.{◌≡◌, refl, Bool, true, false, ℕ, suc, ◌+◌, ◌*◌, ◌-◌, ◌%◌, ◌/◌, ◌<◌}
use Rattle.std.proofs.Common.{ap, sym, ◌∙◌, true≢false, mod-eq_of_lt, add_comm, add_assoc, mul_comm, mul_assoc, add-mul}
use Rattle.std.proofs.Common.{mul-add, one-mul, zero-mul, arith, eqb-true, eq-eqb, ne_eqb}
use mathlib.Core.HLevel.{is_prop→PathP}
use Rattle.std.proofs.Math.Bridge.{le_prop}
use Rattle.std.proofs.Math.Nat.{mod-mod, mod-add-mod, add-mod-mod, mod-add-div, add-mul-mod_self_left}
use Rattle.field.specs.Weight.{modulus, Weight, to_weight, 0w, 1w, plus_w, times_w, negate_w, same_w, Nonzero}

-- weights with the same number are the same
pub weight_path : {a b : Weight} → a.number ≡ b.number → a ≡ b
weight_path {a} {b} e =
    λ i.
    record {
      number = e i;
      small =
          is_prop→PathP (λ i. e i < modulus) (λ i. le_prop {n = suc (e i)} {m = modulus}) a.small b.small i;
    }

-- a number below the modulus is seen from its weight
pub weight_injective : (m n : ℕ) → m < modulus → n < modulus → to_weight m ≡ to_weight n → m ≡ n
unfolding to_weight
weight_injective m n p q e =
    let h : m % modulus ≡ n % modulus = ap (λ (w : Weight). w.number) e in sym (mod-eq_of_lt p) ∙ h ∙ mod-eq_of_lt q

pub weight_number : (w : Weight) → to_weight w.number ≡ w
unfolding to_weight
weight_number w = weight_path (mod-eq_of_lt w.small)

pub number_weight : (n : ℕ) → n < modulus → (to_weight n).number ≡ n
unfolding to_weight
number_weight n p = mod-eq_of_lt p

pub weight_mod : (n : ℕ) → to_weight (n % modulus) ≡ to_weight n
unfolding to_weight
weight_mod n = weight_path (mod-mod n modulus)

pub weight_zero : to_weight 0 ≡ 0w
unfolding 0w
weight_zero = refl

pub weight_one : to_weight 1 ≡ 1w
unfolding 1w
weight_one = refl

-- sums and products of numbers

-- a product is known from its factors' remainders
times_mod : (a b : ℕ) → (a % modulus) * b % modulus ≡ a * b % modulus
times_mod a b =
    sym (add-mul-mod_self_left ((a % modulus) * b) modulus (a / modulus * b))
    ∙ ap
    (λ x. x % modulus)
    (ap (λ x. (a % modulus) * b + x) (sym (mul_assoc modulus (a / modulus) b))
    ∙ sym (add-mul (a % modulus) (modulus * (a / modulus)) b)
    ∙ ap (λ x. x * b) (mod-add-div a modulus))

times_mod_right : (a b : ℕ) → a * (b % modulus) % modulus ≡ a * b % modulus
times_mod_right a b =
    ap (λ x. x % modulus) (mul_comm a (b % modulus)) ∙ times_mod b a ∙ ap (λ x. x % modulus) (mul_comm b a)

pub weight_plus : (m n : ℕ) → plus_w (to_weight m) (to_weight n) ≡ to_weight (m + n)
unfolding plus_w to_weight
weight_plus m n = weight_path (mod-add-mod m modulus (n % modulus) ∙ add-mod-mod m n modulus)

pub weight_times : (m n : ℕ) → times_w (to_weight m) (to_weight n) ≡ to_weight (m * n)
unfolding times_w to_weight
weight_times m n = weight_path (times_mod m (n % modulus) ∙ times_mod_right m n)

-- addition

pub plus_w_comm : (a b : Weight) → plus_w a b ≡ plus_w b a
unfolding plus_w to_weight
plus_w_comm a b = weight_path (ap (λ x. x % modulus) (add_comm a.number b.number))

pub plus_w_assoc : (a b c : Weight) → plus_w (plus_w a b) c ≡ plus_w a (plus_w b c)
unfolding plus_w to_weight
plus_w_assoc a b c =
    weight_path
    (mod-add-mod (a.number + b.number) modulus c.number
    ∙ ap (λ x. x % modulus) (add_assoc a.number b.number c.number)
    ∙ sym (add-mod-mod a.number (b.number + c.number) modulus))

pub plus_w_zero : (a : Weight) → plus_w 0w a ≡ a
unfolding plus_w to_weight 0w
plus_w_zero a = let h : a.number < modulus = a.small in weight_path (omega (arith, h))

pub negate_w_plus : (a : Weight) → plus_w (negate_w a) a ≡ 0w
unfolding plus_w negate_w to_weight 0w
negate_w_plus a =
    let h : a.number < modulus = a.small in
    weight_path (mod-add-mod (modulus - a.number) modulus a.number ∙ ap (λ x. x % modulus) (whole a.number h))
  where
    whole : (n : ℕ) → n < modulus → modulus - n + n ≡ modulus
    whole n p = omega arith

pub plus_w_cancel : (a b c : Weight) → plus_w a c ≡ plus_w b c → a ≡ b
plus_w_cancel a b c e = undo a ∙ ap (λ x. plus_w x (negate_w c)) e ∙ sym (undo b)
  where
    undo : (x : Weight) → x ≡ plus_w (plus_w x c) (negate_w c)
    undo x =
        sym
        (plus_w_assoc x c (negate_w c) ∙ ap (plus_w x) (plus_w_comm c (negate_w c) ∙ negate_w_plus c) ∙ plus_w_comm x 0w
        ∙ plus_w_zero x)

-- multiplication

pub times_w_comm : (a b : Weight) → times_w a b ≡ times_w b a
unfolding times_w to_weight
times_w_comm a b = weight_path (ap (λ x. x % modulus) (mul_comm a.number b.number))

pub times_w_assoc : (a b c : Weight) → times_w (times_w a b) c ≡ times_w a (times_w b c)
unfolding times_w to_weight
times_w_assoc a b c =
    weight_path
    (times_mod (a.number * b.number) c.number
    ∙ ap (λ x. x % modulus) (mul_assoc a.number b.number c.number)
    ∙ sym (times_mod_right a.number (b.number * c.number)))

pub times_w_one : (a : Weight) → times_w 1w a ≡ a
unfolding times_w to_weight 1w
times_w_one a = weight_path (ap (λ x. x % modulus) (one-mul a.number) ∙ mod-eq_of_lt a.small)

pub times_w_zero : (a : Weight) → times_w 0w a ≡ 0w
unfolding times_w to_weight 0w
times_w_zero a = weight_path (ap (λ x. x % modulus) (zero-mul a.number))

pub times_w_plus : (a b c : Weight) → times_w a (plus_w b c) ≡ plus_w (times_w a b) (times_w a c)
unfolding times_w plus_w to_weight
times_w_plus a b c =
    weight_path
    (times_mod_right a.number (b.number + c.number)
    ∙ ap (λ x. x % modulus) (mul-add a.number b.number c.number)
    ∙ sym (mod-add-mod (a.number * b.number) modulus (a.number * c.number))
    ∙ sym (add-mod-mod (a.number * b.number % modulus) (a.number * c.number) modulus))

-- two products of two, regrouped
pub times_w_medial : (a b c d : Weight) → times_w (times_w a b) (times_w c d) ≡ times_w (times_w a c) (times_w b d)
times_w_medial a b c d =
    times_w_assoc a b (times_w c d)
    ∙ ap (times_w a) (sym (times_w_assoc b c d) ∙ ap (λ x. times_w x d) (times_w_comm b c) ∙ times_w_assoc c b d)
    ∙ sym (times_w_assoc a c (times_w b d))

-- opposite weights have one square
pub opposite_square : (x y : Weight) → plus_w x y ≡ 0w → times_w x x ≡ times_w y y
opposite_square x y e =
    plus_w_cancel
    (times_w x x)
    (times_w y y)
    (times_w x y)
    (sym (times_w_plus x x y)
    ∙ ap (times_w x) e
    ∙ times_w_comm x 0w
    ∙ times_w_zero x
    ∙ sym (times_w_zero y)
    ∙ times_w_comm 0w y
    ∙ ap (times_w y) (sym e)
    ∙ times_w_plus y x y
    ∙ plus_w_comm (times_w y x) (times_w y y)
    ∙ ap (plus_w (times_w y y)) (times_w_comm y x))

-- the test of equality

pub same_w_eq : (a b : Weight) → same_w a b ≡ true → a ≡ b
unfolding same_w
same_w_eq a b e = weight_path (eqb-true a.number b.number e)

pub same_w_refl : (a : Weight) → same_w a a ≡ true
unfolding same_w
same_w_refl a = eq-eqb a.number a.number refl

pub not_zero : (a : Weight) → (a ≡ 0w → ⊥) → Nonzero a
not_zero a n = go (same_w a 0w) refl
  where
    go : (b : Bool) → same_w a 0w ≡ b → Nonzero a
    go true e = absurd (n (same_w_eq a 0w e))
    go false e = record { is = e }

pub nonzero_not : {a : Weight} → Nonzero a → a ≡ 0w → ⊥
nonzero_not n e = true≢false (sym (same_w_refl 0w) ∙ rw e at n.is)

pub one_nonzero : Nonzero 1w
unfolding same_w 1w 0w to_weight
one_nonzero = record { is = refl }

pub nonzero_weight : (m : ℕ) → m < modulus → (m ≡ 0 → ⊥) → Nonzero (to_weight m)
unfolding same_w 0w to_weight
nonzero_weight m p n = record { is = ne_eqb (m % modulus) (0 % modulus) (λ e. n (omega arith)) }
