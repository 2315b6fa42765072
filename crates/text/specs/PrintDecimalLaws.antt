-- Digits determine a number, and a field ends at its tab or LF.
use Rattle.std.specs.Prelude.{◌≡◌, ◌∷◌, [], ◌++◌, Bool, true, false, cond, ℕ, ◌+◌, suc, ◌/◌, ◌%◌, ◌≤◌, ◌<◌, zero, ◌^◌}
use Rattle.std.specs.Prelude.{length, ltb}
use Rattle.std.proofs.Math.Path.{refl}
use Rattle.std.proofs.Common.{ap, sym, ◌∙◌, arith, pow-suc, length-append, lt-ltb, le-ltb}
use Rattle.std.proofs.Math.Decide.{dec_lt}
use Rattle.text.specs.Text.{Bytes, LF}
use Rattle.text.specs.Print.{digits, decimal}
use Rattle.text.specs.SplitLaws.{head_same, tail_same}
use Rattle.text.specs.PrintLaws.{decimal_length}

cons_same : {x y : ℕ} {s t : Bytes} → x ≡ y → s ≡ t → x ∷ s ≡ y ∷ t
cons_same p q = rw (p, q)

last_same : (s t : Bytes) (x y : ℕ) → s ++ (x ∷ []) ≡ t ++ (y ∷ []) → (s ≡ t) × (x ≡ y)
last_same [] [] x y e = (refl, head_same e)
last_same [] (b ∷ t) x y e = absurd (omega (arith, ap length (tail_same e), length-append t (y ∷ [])))
last_same (a ∷ s) [] x y e = absurd (omega (arith, ap length (tail_same e), length-append s (x ∷ [])))
last_same (a ∷ s) (b ∷ t) x y e =
    let r = last_same s t x y (tail_same e) in (cons_same (head_same e) r.0, r.1)

-- Digits determine the number.

digits_some : (k n : ℕ) → 1 ≤ length (digits (suc k) n)
unfolding digits
digits_some k n = go (ltb n 10)
  where
    go : (t : Bool) → 1 ≤ length (cond t ((48 + n) ∷ []) (digits k (n / 10) ++ ((48 + n % 10) ∷ [])))
    go true = omega arith
    go false = omega (arith, length-append (digits k (n / 10)) ((48 + n % 10) ∷ []))

short : (k n : ℕ) → n < 10 → digits (suc k) n ≡ (48 + n) ∷ []
unfolding digits
short k n h = rw (lt-ltb n 10 h)

long : (k n : ℕ) → 10 ≤ n → digits (suc k) n ≡ digits k (n / 10) ++ ((48 + n % 10) ∷ [])
unfolding digits
long k n h = rw (le-ltb n 10 h)

-- a number of one digit has not the digits of a longer one
one_many : (k n m : ℕ) → n < 10 → 10 ≤ m → m < 10 ^ suc k → digits (suc k) n ≡ digits (suc k) m → ⊥
one_many zero n m p q b e = omega arith
one_many (suc k) n m p q b e =
    let f = sym (short (suc k) n p) ∙ e ∙ long (suc k) m q in
    let z = last_same [] (digits (suc k) (m / 10)) (48 + n) (48 + m % 10) f in
    omega (arith, ap length z.0, digits_some k (m / 10))

pub digits_injective : (k n m : ℕ) → n < 10 ^ k → m < 10 ^ k → digits k n ≡ digits k m → n ≡ m
digits_injective zero n m p q e = omega arith
digits_injective (suc k) n m p q e =
    let fewer : digits k (n / 10) ≡ digits k (m / 10) → n / 10 ≡ m / 10 =
    digits_injective k (n / 10) (m / 10) (omega (arith, p, pow-suc 10 k)) (omega (arith, q, pow-suc 10 k)) in
    elim (dec_lt n 10) [
      | yes h ↦ elim (dec_lt m 10) [ yes g ↦ small h g | no g ↦ absurd (one_many k n m h (omega arith) q e) ]
      | no h ↦ elim (dec_lt m 10) [
        | yes g ↦ absurd (one_many k m n g (omega arith) p (sym e))
        | no g ↦ large fewer (omega arith) (omega arith)
      ]
    ]
  where
    small : n < 10 → m < 10 → n ≡ m
    small h g = let z : 48 + n ≡ 48 + m = head_same (sym (short k n h) ∙ e ∙ short k m g) in omega arith

    large : (digits k (n / 10) ≡ digits k (m / 10) → n / 10 ≡ m / 10) → 10 ≤ n → 10 ≤ m → n ≡ m
    large fewer h g =
        let f = sym (long k n h) ∙ e ∙ long k m g in
        let z = last_same (digits k (n / 10)) (digits k (m / 10)) (48 + n % 10) (48 + m % 10) f in
        omega (arith, z.1, fewer z.0)

ten_power : (k : ℕ) → 1 ≤ 10 ^ k
ten_power zero = omega arith
ten_power (suc k) = omega (arith, pow-suc 10 k, ten_power k)

-- a number that k digits do not hold has k of them printed
digits_cut : (k n : ℕ) → 10 ^ k ≤ n → length (digits k n) ≡ k
digits_cut zero n h = unfold digits in refl
digits_cut (suc k) n h =
    let p : 10 ^ k ≤ n / 10 = omega (arith, h, pow-suc 10 k) in
    let q : 10 ≤ n = omega (arith, h, pow-suc 10 k, ten_power k) in
    ap length (long k n q) ∙ length-append (digits k (n / 10)) ((48 + n % 10) ∷ [])
    ∙ omega (arith, digits_cut k (n / 10) p)

decimal_cut : (n : ℕ) → 10 ^ 20 ≤ n → length (decimal n) ≡ 20
unfolding decimal
decimal_cut n h = digits_cut 20 n h

pub decimal_injective : (n m : ℕ) → n < 10 ^ 20 → m < 10 ^ 20 → decimal n ≡ decimal m → n ≡ m
unfolding decimal
decimal_injective n m p q e = digits_injective 20 n m p q e

-- a number of at most 19 digits is determined among all numbers
pub decimal_exact : (n m : ℕ) → n < 10 ^ 19 → decimal n ≡ decimal m → n ≡ m
decimal_exact n m p e = elim (dec_lt m (10 ^ 20)) [
  | yes q ↦ decimal_injective n m (omega arith) q e
  | no q ↦ absurd (cut (omega arith))
]
  where
    cut : 10 ^ 20 ≤ m → ⊥
    cut q = omega (arith, decimal_length n 19 (omega arith) p, ap length e, decimal_cut m q)

-- A field ends where the byte after it stands, since no digit is a tab or LF.

abbrev Visible : Bytes → Type 0
Visible [] = Unit {0}
Visible (x ∷ s) = (LF < x) × Visible s

visible_append : (s t : Bytes) → Visible s → Visible t → Visible (s ++ t)
visible_append [] t p q = q
visible_append (x ∷ s) t p q = (p.0, visible_append s t p.1 q)

digits_visible : (k n : ℕ) → Visible (digits k n)
digits_visible zero n = unfold digits in tt
digits_visible (suc k) n = go (digits_visible k (n / 10))
  where
    go : Visible (digits k (n / 10)) → Visible (digits (suc k) n)
    go v = elim (dec_lt n 10) [
      | yes h ↦ rw (short k n h) (omega arith, tt)
      | no h ↦ rw (long k n (omega arith)) (visible_append (digits k (n / 10)) _ v (omega arith, tt))
    ]

pub visible : (n : ℕ) → Visible (decimal n)
unfolding decimal
visible n = digits_visible 20 n

pub seam : (b : ℕ) (s t u v : Bytes) → b ≤ LF → Visible s → Visible t → s ++ (b ∷ u) ≡ t ++ (b ∷ v) → (s ≡ t) × (u ≡ v)
seam b [] [] u v l p q e = (refl, tail_same e)
seam b [] (y ∷ t) u v l p q e = absurd (omega (arith, head_same e, q.0))
seam b (x ∷ s) [] u v l p q e = absurd (omega (arith, head_same e, p.0))
seam b (x ∷ s) (y ∷ t) u v l p q e =
    let r = seam b s t u v l p.1 q.1 (tail_same e) in (cons_same (head_same e) r.0, r.1)
