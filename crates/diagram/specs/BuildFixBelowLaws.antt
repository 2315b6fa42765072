-- Laws of fixing all indices below one, as an assignment says.
use Rattle.std.specs.Prelude.{◌≡◌, refl, Bool, true, false, ℕ, zero, suc, ◌+◌, ◌%◌, ◌/◌, ◌^◌, ◌≤◌, ◌<◌, eqb}
use Rattle.std.proofs.Common.{ap, ap₂, sym, ◌∙◌, arith}
use Rattle.std.proofs.Math.Path.{fun_ext}
use Rattle.diagram.specs.Tensor.{Tensor, weight, split, branch, Bits, tail, bits, at, constant, fix, joined}
use Rattle.diagram.specs.Tensor.{assign}
use Rattle.diagram.specs.TestLaws.{branch_same, cases}
use Rattle.diagram.specs.TensorLaws.{power_suc, at_fix, joined_fix}
use Rattle.diagram.specs.TopLaws.{free_below_fix, free_below_suc, fix_free_below}
use Rattle.diagram.specs.Top.{FreeBelow, Free}
use Rattle.diagram.specs.TensorBitsLaws.{assign_at, assign_other, assign_same}
use Rattle.diagram.specs.TopFreeLaws.{free_fix}
use Rattle.diagram.specs.MaskLaws.{bit_le}
use Rattle.diagram.specs.Build.{fix_below}

pub fix_below_none : {d : ℕ} (f : Bits) (T : Tensor d) → fix_below 0 f T ≡ T
unfolding fix_below
fix_below_none f T = refl

pub fix_below_from : {d : ℕ} (k : ℕ) (f : Bits) (T : Tensor d) → FreeBelow k (fix_below k f T)
unfolding fix_below
fix_below_from zero f T = tt
fix_below_from (suc k) f T = free_below_fix k (f k) (fix_below k f T) (fix_below_from k f T)

-- all of them fixed: the weight at the assignment

fixed_at : {d : ℕ} (k : ℕ) (f : Bits) (T : Tensor d) → at (fix_below k f T) f ≡ at T f
unfolding fix_below
fixed_at zero f T = refl
fixed_at (suc k) f T =
    at_fix k (f k) (fix_below k f T) f ∙ ap (at (fix_below k f T)) (assign_same k f (f k) refl) ∙ fixed_at k f T

from_weight : {d : ℕ} (T : Tensor d) (f : Bits) → FreeBelow d T → T ≡ constant d (at T f)
unfolding at constant
from_weight (weight w) f p = refl
from_weight {d = suc d} (split l h) f p =
    let w : branch (f 0) (at l (tail f)) (at h (tail f)) ≡ at l (tail f) = rw (← p.0)
    (branch_same (f 0) (at l (tail f))) in
    let part : l ≡ constant d (branch (f 0) (at l (tail f)) (at h (tail f))) = rw w (from_weight l (tail f) p.1) in
    ap₂ split part (sym p.0 ∙ part)

pub fix_below_all : (d : ℕ) (f : Bits) (T : Tensor d) → fix_below d f T ≡ constant d (at T f)
fix_below_all d f T = from_weight (fix_below d f T) f (fix_below_from d f T) ∙ ap (constant d) (fixed_at d f T)

-- one more

fixed_agree : {d : ℕ} (k : ℕ) (f g : Bits) (T : Tensor d) → ((j : ℕ) → j < k → f j ≡ g j)
    → fix_below k f T ≡ fix_below k g T
unfolding fix_below
fixed_agree zero f g T e = refl
fixed_agree (suc k) f g T e = ap₂ (fix k) (e k (omega arith)) (fixed_agree k f g T (λ j p. e j (omega arith)))

pub fix_below_split : {d : ℕ} (k : ℕ) (f : Bits) (T : Tensor d)
    → fix_below k f T ≡ joined k (fix_below (suc k) (assign k false f) T) (fix_below (suc k) (assign k true f) T)
unfolding fix_below
fix_below_split k f T = sym (joined_fix k (fix_below k f T)) ∙ ap₂ (joined k) (part false) (part true)
  where
    part : (b : Bool) → fix k b (fix_below k f T) ≡ fix k (assign k b f k) (fix_below k (assign k b f) T)
    part b = sym (ap₂ (fix k) (assign_at k b f) (fixed_agree k (assign k b f) f T
        (λ j p. assign_other j k b f (λ e. omega arith))))

pub fix_below_free : {d : ℕ} (k : ℕ) (f : Bits) (T : Tensor d) → Free k T → fix_below (suc k) f T ≡ fix_below k f T
unfolding fix_below
fix_below_free k f T p = fix_free_below k (f k) (fix_below k f T)
    (free_below_suc k (fix_below k f T) (fix_below_from k f T) (below k (omega arith)).is)
  where
    below : (j : ℕ) → j ≤ k → Free k (fix_below j f T)
    below zero q = p
    below (suc j) q = free_fix k j (f j) (fix_below j f T) (λ e. omega arith) (below j (omega arith))

-- the assignment as a number: its bit k is 0, and it is set

pub low_bits : (k v : ℕ) → v < 2 ^ k → assign k false (bits v) ≡ bits v
low_bits k v p = assign_same k (bits v) false (cases (bits v k) (λ e. absurd (omega (arith, bit_le k v e))) (λ e. e))

high_at : (k v : ℕ) → v < 2 ^ k → (j : ℕ) → bits (v + 2 ^ k) j ≡ assign k true (bits v) j
unfolding bits assign
high_at zero v p zero = let z : v ≡ 0 = omega arith in rw z
high_at zero v p (suc j) = let z : v ≡ 0 = omega arith in rw z
high_at (suc k) v p zero =
    let e : (v + 2 ^ suc k) % 2 ≡ v % 2 = omega (arith, power_suc k) in ap (λ x. eqb x 1) e
high_at (suc k) v p (suc j) =
    let e : (v + 2 ^ suc k) / 2 ≡ v / 2 + 2 ^ k = omega (arith, power_suc k) in
    ap (λ x. bits x j) e ∙ high_at k (v / 2) (omega (arith, power_suc k)) j

pub high_bits : (k v : ℕ) → v < 2 ^ k → bits (v + 2 ^ k) ≡ assign k true (bits v)
high_bits k v p = fun_ext (high_at k v p)
