-- Laws of the mask of a tensor: its bits; of constants and multiples; of a tensor joined from two parts.
use Rattle.std.specs.Prelude.{◌≡◌, refl, Bool, true, false, cond, ◌||◌, ℕ, zero, suc, ◌+◌, ◌*◌, ◌/◌, ◌%◌, ◌^◌, ◌≤◌, ◌<◌}
use Rattle.std.specs.Prelude.{ltb, eqb}
use Rattle.std.proofs.Common.{ap, ap₂, sym, ◌∙◌, arith, not-suc-le-zero, le_of_suc-le-suc, ltb-true, ltb-false}
use Rattle.std.proofs.Common.{eqb-true}
use Rattle.std.proofs.Math.Option.{some}
use Rattle.std.specs.Int.Bits.{bit_or}
use Rattle.std.proofs.lemmas.Nat.{or_lt, pow_pos}
use Rattle.std.proofs.Math.Pow.{pow-lt}
use Rattle.std.proofs.lemmas.Bool.{eqb-false}
use Rattle.field.specs.Weight.{Weight, Nonzero}
use Rattle.diagram.specs.Tensor.{Tensor, weight, split, Bits, tail, bits, same, constant, top, fix, depends}
use Rattle.diagram.specs.Tensor.{joined, scale}
use Rattle.diagram.specs.TestLaws.{cases}
use Rattle.diagram.specs.TensorLaws.{power_suc}
use Rattle.diagram.specs.Top.{FreeBelow}
use Rattle.diagram.specs.TopLaws.{top_constant, top_inside, top_joined}
use Rattle.diagram.specs.TopFreeLaws.{free_depends, top_lowest, top_no, depends_parts, depends_scale}
use Rattle.diagram.specs.TopFreeLaws.{joined_low, joined_high}
use Rattle.diagram.specs.MaskBitsLaws.{bits_above, bits_same, bits_or, power_bits}
use Rattle.diagram.specs.TabulateLaws.{bits_none}
use Rattle.diagram.specs.Support.{mask_of, support_mask}

-- the number of a set

digit_small : (b : Bool) → cond b 1 0 < 2
digit_small true = omega arith
digit_small false = omega arith

digit_test : (b : Bool) → eqb (cond b 1 0) 1 ≡ b
digit_test true = refl
digit_test false = refl

mask_below : (d : ℕ) (f : Bits) → mask_of d f < 2 ^ d
unfolding mask_of
mask_below zero f = omega arith
mask_below (suc d) f = omega (arith, digit_small (f 0), mask_below d (tail f), power_suc d)

mask_bits : (d : ℕ) (f : Bits) (k : ℕ) → k < d → bits (mask_of d f) k ≡ f k
unfolding mask_of bits
mask_bits zero f k p = absurd (not-suc-le-zero p)
mask_bits (suc d) f zero p =
    let e : (cond (f 0) 1 0 + 2 * mask_of d (tail f)) % 2 ≡ cond (f 0) 1 0 = omega (arith, digit_small (f 0)) in
    ap (λ x. eqb x 1) e ∙ digit_test (f 0)
mask_bits (suc d) f (suc k) p =
    let e : (cond (f 0) 1 0 + 2 * mask_of d (tail f)) / 2 ≡ mask_of d (tail f) = omega (arith, digit_small (f 0)) in
    ap (λ x. bits x k) e ∙ mask_bits d (tail f) k (le_of_suc-le-suc p)

-- there is no index from d on
fix_none : {d : ℕ} (k : ℕ) (b : Bool) (T : Tensor d) → d ≤ k → fix k b T ≡ T
unfolding fix
fix_none k b (weight w) p = refl
fix_none zero b (split l h) p = absurd (not-suc-le-zero p)
fix_none (suc k) b (split l h) p = ap₂ split (fix_none k b l (le_of_suc-le-suc p)) (fix_none k b h (le_of_suc-le-suc p))

depends_none : {d : ℕ} (k : ℕ) (T : Tensor d) → d ≤ k → depends k T ≡ false
depends_none k T p = free_depends k T record { is = fix_none k false T p ∙ sym (fix_none k true T p) }

-- the mask of a tensor

pub support_below : {d : ℕ} (T : Tensor d) → support_mask T < 2 ^ d
unfolding support_mask
support_below {d} T = mask_below d (λ k. depends k T)

pub support_bits : {d : ℕ} (T : Tensor d) (k : ℕ) → bits (support_mask T) k ≡ depends k T
unfolding support_mask
support_bits {d} T k =
    cases (ltb k d) (λ e. mask_bits d (λ k. depends k T) k (ltb-true k d e))
    (λ e. let p : d ≤ k = ltb-false k d e in
    bits_above d _ k (mask_below d (λ k. depends k T)) p ∙ sym (depends_none k T p))

-- it is known by its bits
pub support_is : {d : ℕ} (T : Tensor d) (m : ℕ) → m < 2 ^ d → ((k : ℕ) → bits m k ≡ depends k T) → support_mask T ≡ m
support_is {d} T m p e = bits_same d (support_mask T) m (support_below T) p (λ k. support_bits T k ∙ sym (e k))

-- "0 for a constant"
pub support_constant : (d : ℕ) (w : Weight) → support_mask (constant d w) ≡ 0
support_constant d w =
    support_is (constant d w) 0 (pow_pos d) (λ k. bits_none k ∙ sym (top_no (constant d w) (top_constant d w) k))

-- a multiple depends on the same indices
pub support_scale : {d : ℕ} (c : Weight) (T : Tensor d) → Nonzero c → support_mask (scale c T) ≡ support_mask T
support_scale c T n =
    support_is (scale c T) (support_mask T) (support_below T) (λ k. support_bits T k ∙ sym (depends_scale k c T n))

-- of a tensor, from its top and its parts there
support_parts : {d : ℕ} (k : ℕ) (T : Tensor d) → top T ≡ some k
    → support_mask T ≡ bit_or (2 ^ k) (bit_or (support_mask (fix k false T)) (support_mask (fix k true T)))
support_parts {d} k T e =
    support_is T _ (or_lt d _ _ (pow-lt (top_inside k T e)) (or_lt d _ _ (support_below _) (support_below _)))
    (λ j. parts j ∙ at_each j)
  where
    parts : (j : ℕ) → bits (bit_or (2 ^ k) (bit_or (support_mask (fix k false T)) (support_mask (fix k true T)))) j
        ≡ (eqb j k || (depends j (fix k false T) || depends j (fix k true T)))
    parts j =
        bits_or _ _ j ∙ ap₂ ◌||◌ (power_bits k j)
        (bits_or _ _ j ∙ ap₂ ◌||◌ (support_bits (fix k false T) j) (support_bits (fix k true T) j))

    at_each : (j : ℕ) → (eqb j k || (depends j (fix k false T) || depends j (fix k true T))) ≡ depends j T
    at_each j =
        cases (eqb j k)
        (λ q. rw q (sym (ap (λ i. depends i T) (eqb-true j k q) ∙ (top_lowest k T e).0)))
        (λ q. rw q (sym (depends_parts j k T (eqb-false j k q))))

-- of what a join puts in: L and H differ, and have larger tops
pub support_joined : {d : ℕ} (k : ℕ) (L H : Tensor d) → k < d → FreeBelow (suc k) L → FreeBelow (suc k) H
    → same L H ≡ false
    → support_mask (joined k L H) ≡ bit_or (2 ^ k) (bit_or (support_mask L) (support_mask H))
support_joined k L H p f g n =
    support_parts k (joined k L H) (top_joined k L H p f g n)
    ∙ ap₂ (λ X Y. bit_or (2 ^ k) (bit_or (support_mask X) (support_mask Y))) (joined_low k L H p f)
    (joined_high k L H p g)
