-- Laws of dependence: on which indices a tensor depends, the top as the lowest of them; of tensors joined at an index.
use Rattle.std.specs.Prelude.{◌≡◌, refl, Bool, true, false, not, ◌||◌, cond, ℕ, zero, suc, ◌<◌}
use Rattle.std.proofs.Common.{ap, ap₂, sym, ◌∙◌, true≢false, arith, not-suc-le-zero, le_of_suc-le-suc}
use Rattle.std.proofs.Math.Option.{none, some}
use Rattle.field.specs.Weight.{Weight, Nonzero, 0w, 1w}
use Rattle.field.specs.RingLaws.{one_nonzero, nonzero_not}
use Rattle.std.proofs.Math.Bool.{and_self}
use Rattle.std.proofs.lemmas.Bool.{not-false}
use Rattle.diagram.specs.Tensor.{Tensor, same, top, fix, depends, joined, scale, weight, split, is_zero, first}
use Rattle.diagram.specs.TensorLaws.{same_eq, eq_same, fix_fix, fix_scale, joined_fix, fix_joined, is_zero_eq}
use Rattle.diagram.specs.TensorLaws.{fix_again, first_constant}
use Rattle.diagram.specs.TopLaws.{free_below_top, free_below_less, free_below_suc, fix_free_below, top_is}
use Rattle.diagram.specs.TopLaws.{top_depends}
use Rattle.diagram.specs.Top.{FreeBelow, Free}
use Rattle.diagram.specs.TensorScaleLaws.{same_scale}
use Rattle.diagram.specs.TestLaws.{cases, cond_same}

pub free_depends : {d : ℕ} (k : ℕ) (T : Tensor d) → Free k T → depends k T ≡ false
unfolding depends
free_depends k T f = rw (eq_same f.is)

pub depends_free : {d : ℕ} (k : ℕ) (T : Tensor d) → depends k T ≡ false → Free k T
unfolding depends
depends_free k T e = record { is = same_eq _ _ (not-false (same (fix k false T) (fix k true T)) e) }

from_free : {d : ℕ} (k : ℕ) (T : Tensor d) → FreeBelow (suc k) T → Free k T
from_free k T f = record { is = fix_free_below k false T f ∙ sym (fix_free_below k true T f) }

-- nothing depends on an index below those from which a tensor starts
pub free_below_depends : {d : ℕ} (k j : ℕ) (T : Tensor d) → FreeBelow k T → j < k → depends j T ≡ false
free_below_depends k j T f p = free_depends j T (from_free j T (free_below_less (suc j) k T p f))

-- "A tensor's top is the lowest index on which it depends; a constant has none."
pub top_lowest : {d : ℕ} (k : ℕ) (T : Tensor d) → top T ≡ some k
    → (depends k T ≡ true) × ((j : ℕ) → j < k → depends j T ≡ false)
top_lowest k T e = (
  cases (depends k T) (λ q. q) (λ q. absurd (top_depends k T e (depends_free k T q).is)),
  λ j p. free_below_depends k j T (top_is k T e) p,
)

pub top_no : {d : ℕ} (T : Tensor d) → top T ≡ none → (j : ℕ) → depends j T ≡ false
top_no T e j = free_depends j T (from_free j T (free_below_top (suc j) T (rw e tt)))

-- T does not depend on the indices below k
pub free_free_below : {d : ℕ} (k : ℕ) (T : Tensor d) → ((j : ℕ) → j < k → Free j T) → FreeBelow k T
free_free_below zero T h = tt
free_free_below (suc k) T h =
    free_below_suc k T (free_free_below k T (λ j p. h j (omega arith))) (h k (omega arith)).is

-- a tensor depends on k where one of its parts at another index does

pub free_fix : {d : ℕ} (k t : ℕ) (b : Bool) (T : Tensor d) → (k ≡ t → ⊥) → Free k T → Free k (fix t b T)
free_fix k t b T n f = record { is = fix_fix k t false b T n ∙ ap (fix t b) f.is ∙ sym (fix_fix k t true b T n) }

fix_free : {d : ℕ} (k t : ℕ) (T : Tensor d) → (k ≡ t → ⊥) → Free k (fix t false T) → Free k (fix t true T) → Free k T
fix_free k t T n f g = record { is = parts false ∙ ap₂ (joined t) f.is g.is ∙ sym (parts true) }
  where
    parts : (b : Bool) → fix k b T ≡ joined t (fix k b (fix t false T)) (fix k b (fix t true T))
    parts b =
        sym (joined_fix t (fix k b T)) ∙ ap₂ (joined t) (sym (fix_fix k t b false T n)) (sym (fix_fix k t b true T n))

pub depends_parts : {d : ℕ} (k t : ℕ) (T : Tensor d) → (k ≡ t → ⊥)
    → depends k T ≡ (depends k (fix t false T) || depends k (fix t true T))
depends_parts k t T n = go (depends k T) refl (depends k (fix t false T)) refl (depends k (fix t true T)) refl
  where
    go : (a : Bool) → depends k T ≡ a → (b : Bool) → depends k (fix t false T) ≡ b → (c : Bool)
        → depends k (fix t true T) ≡ c → a ≡ (b || c)
    go true p true q c r = refl
    go true p false q true r = refl
    go true p false q false r =
        sym p ∙ free_depends k T (fix_free k t T n (depends_free k (fix t false T) q) (depends_free k (fix t true T) r))
    go false p true q c r = sym (free_depends k _ (free_fix k t false T n (depends_free k T p))) ∙ q
    go false p false q c r = sym (free_depends k _ (free_fix k t true T n (depends_free k T p))) ∙ r

-- a part at k depends on no other index than the tensor, and not on k
pub depends_fix : {d : ℕ} (j k : ℕ) (b : Bool) (T : Tensor d) → depends j (fix k b T) ≡ true
    → (j ≡ k → ⊥) × (depends j T ≡ true)
depends_fix j k b T e = (
  other,
  cases (depends j T) (λ q. q)
      (λ q. absurd (true≢false (sym e ∙ free_depends j _ (free_fix j k b T other (depends_free j T q))))),
)
  where
    other : j ≡ k → ⊥
    other q =
        true≢false
        (sym e ∙ ap (λ i. depends i (fix k b T)) q
        ∙ free_depends k (fix k b T) record { is = fix_again k false b T ∙ sym (fix_again k true b T) })

pub depends_scale : {d : ℕ} (k : ℕ) (c : Weight) (T : Tensor d) → Nonzero c → depends k (scale c T) ≡ depends k T
unfolding depends
depends_scale k c T n =
    rw (fix_scale k false c T, fix_scale k true c T) (ap not (same_scale c (fix k false T) (fix k true T) n))

is_zero_twice : {d : ℕ} (T : Tensor d) → is_zero (split T T) ≡ is_zero T
unfolding is_zero
is_zero_twice T = and_self (is_zero T)

first_twice : {d : ℕ} (T : Tensor d) → first (split T T) ≡ first T
unfolding first
first_twice T = cond_same (is_zero T) (first T)

-- the first nonzero value of L, or of H where L is zero
pub first_joined : {d : ℕ} (k : ℕ) (L H : Tensor d) → k < d → FreeBelow (suc k) L → FreeBelow (suc k) H
    → first (joined k L H) ≡ cond (is_zero L) (first H) (first L)
unfolding joined
first_joined k (weight v) (weight w) p f g = absurd (not-suc-le-zero p)
first_joined zero (split l h) (split l' h') p f g =
    rw (← f.0, ← g.0, is_zero_twice l, first_twice l, first_twice l') (unfold first in refl)
first_joined (suc k) (split l h) (split l' h') p f g =
    rw (← f.0, ← g.0, is_zero_twice l, first_twice l, first_twice l', first_twice (joined k l l'))
    (first_joined k l l' (le_of_suc-le-suc p) f.1 g.1)

-- the parts of a joined tensor
pub joined_low : {d : ℕ} (k : ℕ) (L H : Tensor d) → k < d → FreeBelow (suc k) L → fix k false (joined k L H) ≡ L
joined_low k L H p f = fix_joined k false L H p ∙ fix_free_below k false L f

pub joined_high : {d : ℕ} (k : ℕ) (L H : Tensor d) → k < d → FreeBelow (suc k) H → fix k true (joined k L H) ≡ H
joined_high k L H p f = fix_joined k true L H p ∙ fix_free_below k true H f

pub free_below_scale : {d : ℕ} (k : ℕ) (c : Weight) (T : Tensor d) → FreeBelow k T → FreeBelow k (scale c T)
unfolding scale
free_below_scale zero c T f = tt
free_below_scale (suc k) c (weight w) f = tt
free_below_scale (suc k) c (split l h) f = (ap (scale c) f.0, free_below_scale k c l f.1)

pub first_one : {d : ℕ} (T : Tensor d) → first T ≡ 1w → is_zero T ≡ false
first_one {d} T e = cases (is_zero T) (λ z. absurd (nonzero_not (one_nonzero)
    (sym e ∙ ap first (is_zero_eq T z) ∙ first_constant d 0w))) (λ z. z)
