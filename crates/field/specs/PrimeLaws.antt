-- "that 65537 is prime is shown, not assumed"
use Rattle.std.specs.Prelude.{◌≡◌, refl, Bool, true, false, ◌&&◌, not, ◌⊎◌, ℕ, zero, suc, ◌*◌, ◌%◌, ◌/◌, ◌≤◌, ◌<◌, eqb}
use Rattle.std.specs.Prelude.{leb}
use Rattle.std.proofs.Common.{ap, sym, ◌∙◌, inl, inr, arith, div-add-mod', div-lt_iff_lt-mul, eqb-true, leb-true}
use Rattle.std.proofs.Common.{leb-false, eq-eqb}
use Rattle.std.proofs.lemmas.Bool.{false≢true, eqb-false}
use Rattle.std.specs.Int.{◌∣◌}
use Rattle.std.proofs.Math.Nat.{mul-mod_right, mod-eq-zero_of_dvd, eq-zero_of_zero-dvd}
use Rattle.field.specs.Weight.{modulus}

pub and_left : (a b : Bool) → (a && b) ≡ true → a ≡ true
and_left true b e = refl
and_left false b e = e

pub and_right : (a b : Bool) → (a && b) ≡ true → b ≡ true
and_right true b e = e
and_right false b e = absurd (false≢true e)

-- no number from 2 to n + 1 divides the modulus
factorless : ℕ → Bool
factorless zero = true
factorless (suc n) = not (eqb (modulus % suc (suc n)) 0) && factorless n

factorless_255 : factorless 255 ≡ true
unfolding factorless
factorless_255 = refl

factorless_at : (n q : ℕ) → factorless n ≡ true → 2 ≤ q → q ≤ suc n → modulus % q ≡ 0 → ⊥
unfolding factorless
factorless_at zero q e p r z = omega arith
factorless_at (suc n) q e p r z =
    go
    (eqb q (suc (suc n)))
    refl
    (λ h. factorless_at n q (and_right (not (eqb (modulus % suc (suc n)) 0)) (factorless n) e) p h z)
  where
    go : (b : Bool) → eqb q (suc (suc n)) ≡ b → (q ≤ suc n → ⊥) → ⊥
    go true t ih =
        false≢true
        (sym
        (ap
        not
        (eq-eqb (modulus % suc (suc n)) 0 (ap (λ x. modulus % x) (sym (eqb-true q (suc (suc n)) t)) ∙ z)))
        ∙ and_left _ _ e)
    go false t ih = ih (omega (arith, eqb-false q (suc (suc n)) t))

-- no number from 2 to 256 divides the modulus
pub no_small_factor : (q : ℕ) → 2 ≤ q → q ≤ 256 → modulus % q ≡ 0 → ⊥
no_small_factor q = factorless_at 255 q factorless_255

-- a factor below the square root, and its partner
pub no_small_product : (q m : ℕ) → q * m ≡ modulus → 2 ≤ q → q ≤ 256 → ⊥
no_small_product q m e p r = no_small_factor q p r (ap (λ x. x % q) (sym e) ∙ mul-mod_right q m)

positive : (q m : ℕ) → q * m ≡ modulus → 1 ≤ q
positive zero m e = absurd (omega arith)
positive (suc q) m e = omega arith

-- every number that divides 65537 is 1 or itself
pub prime : (m : ℕ) → m ∣ modulus → (m ≡ 1) ⊎ (m ≡ modulus)
prime zero e = absurd (omega (arith, eq-zero_of_zero-dvd e))
prime (suc n) e = go (leb m 256) refl (eqb m 1) refl (eqb q 1) refl
  where
    m : ℕ
    m = suc n

    q : ℕ
    q = modulus / m

    product : q * m ≡ modulus
    product = let d = div-add-mod' modulus m in omega (arith, d, mod-eq-zero_of_dvd m e)

    go : (a : Bool) → leb m 256 ≡ a → (b : Bool) → eqb m 1 ≡ b → (c : Bool) → eqb q 1 ≡ c → (m ≡ 1) ⊎ (m ≡ modulus)
    go a s true t c u = inl (eqb-true m 1 t)
    go true s false t c u =
        absurd (no_small_factor m (omega (arith, eqb-false m 1 t)) (leb-true m 256 s) (mod-eq-zero_of_dvd m e))
    go false s false t true u = inr (let z : 1 * m ≡ modulus = rw (eqb-true q 1 u) at product in omega arith)
    go false s false t false u =
        let above = leb-false m 256 s in
        let small : q < 256 = (div-lt_iff_lt-mul {k = m} (omega arith)).1 (omega arith) in
        absurd (no_small_product q m product (omega (arith, eqb-false q 1 u, positive q m product)) (omega arith))
