-- Laws of renamed indices: the value at an assignment; multiples; the parts at the top, joined where it goes.
use Rattle.std.specs.Prelude.{◌≡◌, refl, Bool, true, false, ℕ, suc, ◌≤◌, ◌<◌, ltb}
use Rattle.std.proofs.Common.{ap, ap₂, sym, ◌∙◌, true≢false, suc-le-suc, arith, ltb-true, ltb-false}
use Rattle.std.proofs.Math.Option.{some}
use Rattle.field.specs.Weight.{Weight, times_w}
use Rattle.diagram.specs.Tensor.{Tensor, weight, split, branch, Bits, tail, bits, at, value, same, top, fix}
use Rattle.diagram.specs.Tensor.{depends, joined, scale, low_half}
use Rattle.diagram.specs.TabulateLaws.{at_tabulate}
use Rattle.diagram.specs.TestLaws.{cases, branch_same, and_false_left, and_false_right}
use Rattle.diagram.specs.TensorLaws.{eq_value, at_scale, at_fix, at_joined, joined_fix}
use Rattle.diagram.specs.TensorBitsLaws.{assign_other}
use Rattle.diagram.specs.Top.{FreeBelow, Free}
use Rattle.diagram.specs.TopLaws.{free_below_fix, top_is, top_inside}
use Rattle.diagram.specs.TopFreeLaws.{depends_free, free_free_below, free_below_depends, depends_fix}
use Rattle.diagram.specs.Rename.{renamed, Inside, KeepsAbove}

-- values

-- tensors with the same values are equal
eq_at : {d : ℕ} (A B : Tensor d) → ((f : Bits) → at A f ≡ at B f) → A ≡ B
unfolding value
eq_at A B e = eq_value A B (λ v p. e (bits v))

pub at_agree : {d : ℕ} (T : Tensor d) (f g : Bits) → ((k : ℕ) → k < d → f k ≡ g k) → at T f ≡ at T g
unfolding at
at_agree (weight w) f g e = refl
at_agree {d = suc d} (split l h) f g e =
    let part : (k : ℕ) → k < d → f (suc k) ≡ g (suc k) = λ k p. e (suc k) (suc-le-suc p) in
    rw (e 0 (omega arith)) (ap₂ (branch (g 0)) (at_agree l (tail f) (tail g) part) (at_agree h (tail f) (tail g) part))

depends_low : {d : ℕ} (k : ℕ) (l h : Tensor d) → depends k l ≡ true → depends (suc k) (split l h) ≡ true
unfolding depends fix same
depends_low k l h e = and_false_left (same (fix k false l) (fix k true l)) (same (fix k false h) (fix k true h)) e

depends_high : {d : ℕ} (k : ℕ) (l h : Tensor d) → depends k h ≡ true → depends (suc k) (split l h) ≡ true
unfolding depends fix same
depends_high k l h e = and_false_right (same (fix k false l) (fix k true l)) (same (fix k false h) (fix k true h)) e

free_halves : {d : ℕ} (l h : Tensor d) → depends 0 (split l h) ≡ false → l ≡ h
unfolding fix
free_halves l h e = ap low_half (depends_free 0 (split l h) e).is

-- a value depends on the indices on which the tensor depends, and on no other
at_depends : {d : ℕ} (T : Tensor d) (f g : Bits) → ((k : ℕ) → k < d → depends k T ≡ true → f k ≡ g k) → at T f ≡ at T g
unfolding at
at_depends (weight w) f g e = refl
at_depends {d = suc d} (split l h) f g e =
    go (at_depends l (tail f) (tail g) (λ k p q. e (suc k) (suc-le-suc p) (depends_low k l h q)))
    (at_depends h (tail f) (tail g) (λ k p q. e (suc k) (suc-le-suc p) (depends_high k l h q)))
  where
    go : at l (tail f) ≡ at l (tail g) → at h (tail f) ≡ at h (tail g)
        → branch (f 0) (at l (tail f)) (at h (tail f)) ≡ branch (g 0) (at l (tail g)) (at h (tail g))
    go x y =
        cases (depends 0 (split l h)) (λ q. rw (e 0 (omega arith) q, x, y))
        (λ q. rw (← free_halves l h q, x) (branch_same (f 0) _ ∙ sym (branch_same (g 0) _)))

-- the value of a renamed tensor
pub at_renamed : {d : ℕ} (p : ℕ → ℕ) (T : Tensor d) → Inside d p → (f : Bits)
    → at (renamed p T) f ≡ at T (λ k. f (p k))
unfolding renamed
at_renamed {d} p T i f =
    at_tabulate d (λ f. at T (λ k. f (p k))) (λ g h e. at_agree T _ _ (λ k q. e (p k) (i k q))) f

-- renaming and the other operations

module _ {d : ℕ} (p : ℕ → ℕ) (i : Inside d p) where
  pub renamed_scale : (c : Weight) (T : Tensor d) → renamed p (scale c T) ≡ scale c (renamed p T)
  renamed_scale c T = eq_at _ _ (λ f.
      at_renamed p (scale c T) i f ∙ at_scale c T _ ∙ ap (times_w c) (sym (at_renamed p T i f))
      ∙ sym (at_scale c (renamed p T) f))

  -- indices on which T does not depend may have any name
  pub renamed_same : (T : Tensor d) → ((k : ℕ) → k < d → depends k T ≡ true → p k ≡ k) → renamed p T ≡ T
  renamed_same T e = eq_at _ _ (λ f. at_renamed p T i f ∙ at_depends T _ _ (λ k q h. ap f (e k q h)))

  renamed_joined : (k : ℕ) (L H : Tensor d) → k < d
      → renamed p (joined k L H) ≡ joined (p k) (renamed p L) (renamed p H)
  renamed_joined k L H q = eq_at _ _ (λ f.
      at_renamed p (joined k L H) i f ∙ at_joined k L H _ q
      ∙ sym (at_joined (p k) _ _ f (i k q) ∙ ap₂ (branch (f (p k))) (at_renamed p L i f) (at_renamed p H i f)))

  -- nothing depends on an index that no index is renamed to
  renamed_free : (j : ℕ) (T : Tensor d) → ((k : ℕ) → k < d → depends k T ≡ true → p k ≡ j → ⊥) → Free j (renamed p T)
  renamed_free j T e = record { is = eq_at _ _ (λ f. part false f ∙ sym (part true f)) }
    where
      part : (b : Bool) (f : Bits) → at (fix j b (renamed p T)) f ≡ at T (λ k. f (p k))
      part b f =
          at_fix j b (renamed p T) f ∙ at_renamed p T i _
          ∙ at_depends T _ _ (λ k q h. assign_other (p k) j b f (e k q h))

  renamed_free_below : (j : ℕ) (T : Tensor d) → ((k : ℕ) → k < d → depends k T ≡ true → j ≤ p k)
      → FreeBelow j (renamed p T)
  renamed_free_below j T e =
      free_free_below j (renamed p T) (λ n q. renamed_free n T (λ k l h z. omega (arith, e k l h)))

  -- the parts of T at its top k, renamed, are the parts of the renamed tensor at p k, if the indices above k on which T
  -- depends are renamed above p k
  module _ (k : ℕ) (T : Tensor d) (t : top T ≡ some k) where
    pub renamed_split : renamed p T ≡ joined (p k) (renamed p (fix k false T)) (renamed p (fix k true T))
    renamed_split = ap (renamed p) (sym (joined_fix k T)) ∙ renamed_joined k _ _ (top_inside k T t)

    pub renamed_part : KeepsAbove p k T → (b : Bool) → FreeBelow (suc (p k)) (renamed p (fix k b T))
    renamed_part up b =
        renamed_free_below (suc (p k)) (fix k b T) (λ j q h. up j (after j h) q (depends_fix j k b T h).1)
      where
        after : (j : ℕ) → depends j (fix k b T) ≡ true → k < j
        after j h =
            cases (ltb k j) (λ q. ltb-true k j q)
            (λ q. let m : j < suc k = omega (arith, ltb-false k j q) in absurd (true≢false
            (sym h ∙ free_below_depends (suc k) j (fix k b T) (free_below_fix k b T (top_is k T t)) m)))
