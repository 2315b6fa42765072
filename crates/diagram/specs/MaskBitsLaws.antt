-- Laws of a number's bits: it is known by them; those of `|` and `&`; the set of one index.
use Rattle.std.specs.Prelude.{◌≡◌, refl, true, false, ◌&&◌, ◌||◌, ℕ, zero, suc, ◌+◌, ◌/◌, ◌%◌, ◌^◌, ◌<◌, ◌≤◌, max, min}
use Rattle.std.specs.Prelude.{eqb}
use Rattle.std.proofs.Common.{ap, sym, ◌∙◌, arith, eq-eqb, eqb-true}
use Rattle.std.proofs.Math.Nat.{pow-le-pow_right}
use Rattle.std.specs.Int.Bits.{bit_or, bit_and, or_step, and_step}
use Rattle.std.proofs.lemmas.Bool.{eqb-false}
use Rattle.std.proofs.lemmas.Nat.{pow_pos}
use Rattle.diagram.specs.Tensor.{bits}
use Rattle.diagram.specs.TestLaws.{cases}
use Rattle.diagram.specs.TensorLaws.{power_suc}
use Rattle.diagram.specs.TensorBitsLaws.{assign_at, assign_other}
use Rattle.diagram.specs.MaskLaws.{bit_le}
use Rattle.diagram.specs.TabulateLaws.{bits_none}
use Rattle.diagram.specs.BuildFixBelowLaws.{high_bits}

-- a number below 2 ^ d has no bit from d on
pub bits_above : (d v k : ℕ) → v < 2 ^ d → d ≤ k → bits v k ≡ false
bits_above d v k p q =
    cases (bits v k)
    (λ e. absurd (omega (arith, bit_le k v e, pow-le-pow_right {n = 2} (omega arith) {i = d} {j = k} q))) (λ e. e)

digit_same : (a b : ℕ) → a < 2 → b < 2 → eqb a 1 ≡ eqb b 1 → a ≡ b
digit_same a b p q e =
    cases (eqb a 1) (λ x. omega (arith, eqb-true a 1 x, eqb-true b 1 (sym e ∙ x)))
    (λ x. omega (arith, eqb-false a 1 x, eqb-false b 1 (sym e ∙ x)))

-- numbers with the same bits are equal
pub bits_same : (d a b : ℕ) → a < 2 ^ d → b < 2 ^ d → ((k : ℕ) → bits a k ≡ bits b k) → a ≡ b
unfolding bits
bits_same zero a b p q e = omega arith
bits_same (suc d) a b p q e =
    let half : a / 2 ≡ b / 2 =
    bits_same d (a / 2) (b / 2) (omega (arith, power_suc d)) (omega (arith, power_suc d)) (λ k. e (suc k)) in
    let last : a % 2 ≡ b % 2 = digit_same (a % 2) (b % 2) (omega arith) (omega arith) (e 0) in
    omega (arith, half, last)

-- the bits of `|`

digit_or : (a b : ℕ) → a < 2 → b < 2 → eqb (max a b) 1 ≡ (eqb a 1 || eqb b 1)
digit_or zero zero p q = refl
digit_or zero (suc zero) p q = refl
digit_or zero (suc (suc b)) p q = absurd (omega arith)
digit_or (suc zero) zero p q = refl
digit_or (suc zero) (suc zero) p q = refl
digit_or (suc zero) (suc (suc b)) p q = absurd (omega arith)
digit_or (suc (suc a)) b p q = absurd (omega arith)

pub bits_or : (a b k : ℕ) → bits (bit_or a b) k ≡ (bits a k || bits b k)
unfolding bits
bits_or a b zero =
    let e : bit_or a b % 2 ≡ max (a % 2) (b % 2) = omega (arith, or_step a b) in
    ap (λ x. eqb x 1) e ∙ digit_or (a % 2) (b % 2) (omega arith) (omega arith)
bits_or a b (suc k) =
    let e : bit_or a b / 2 ≡ bit_or (a / 2) (b / 2) = omega (arith, or_step a b) in
    ap (λ x. bits x k) e ∙ bits_or (a / 2) (b / 2) k

-- the bits of `&`

digit_and : (a b : ℕ) → a < 2 → b < 2 → eqb (min a b) 1 ≡ (eqb a 1 && eqb b 1)
digit_and zero zero p q = refl
digit_and zero (suc zero) p q = refl
digit_and zero (suc (suc b)) p q = absurd (omega arith)
digit_and (suc zero) zero p q = refl
digit_and (suc zero) (suc zero) p q = refl
digit_and (suc zero) (suc (suc b)) p q = absurd (omega arith)
digit_and (suc (suc a)) b p q = absurd (omega arith)

pub bits_and : (a b k : ℕ) → bits (bit_and a b) k ≡ (bits a k && bits b k)
unfolding bits
bits_and a b zero =
    let e : bit_and a b % 2 ≡ min (a % 2) (b % 2) = omega (arith, and_step a b) in
    ap (λ x. eqb x 1) e ∙ digit_and (a % 2) (b % 2) (omega arith) (omega arith)
bits_and a b (suc k) =
    let e : bit_and a b / 2 ≡ bit_and (a / 2) (b / 2) = omega (arith, and_step a b) in
    ap (λ x. bits x k) e ∙ bits_and (a / 2) (b / 2) k

-- k alone
pub power_bits : (k j : ℕ) → bits (2 ^ k) j ≡ eqb j k
power_bits k j =
    let e : 0 + 2 ^ k ≡ 2 ^ k = omega arith in
    ap (λ x. bits x j) (sym e) ∙ ap (λ f. f j) (high_bits k 0 (pow_pos k))
    ∙ cases (eqb j k)
    (λ q. let i = eqb-true j k q in rw i (assign_at k true (bits 0) ∙ sym (eq-eqb k k refl)))
    (λ q. assign_other j k true (bits 0) (eqb-false j k q) ∙ bits_none j ∙ sym q)
