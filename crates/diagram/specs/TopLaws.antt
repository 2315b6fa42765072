-- Laws of the top, and recursion on the lower top of two tensors.
use Rattle.std.specs.Prelude.{◌≡◌, refl, Bool, true, false, cond, ℕ, zero, suc, ◌≤◌, ◌<◌, leb}
use Rattle.std.proofs.Common.{ap, ap₂, sym, ◌∙◌, suc-le-suc, arith, not-suc-le-zero, le_of_suc-le-suc, le_refl}
use Rattle.std.proofs.Common.{leb-true, leb-false}
use Rattle.std.proofs.Math.Option.{Option, none, some}
use Rattle.std.proofs.Math.Bool.{and_self}
use Rattle.std.proofs.Math.Option.{some-injective}
use Rattle.diagram.specs.Descend.{top_measure, Local, Local2, on_top, on_top2}
use Rattle.diagram.specs.DescendLaws.{descend_step, descend_induction}
use Rattle.field.specs.Weight.{Weight}
use Rattle.diagram.specs.Tensor.{Tensor, weight, split, same, constant, next, top, lower_top, top2, fix}
use Rattle.diagram.specs.Tensor.{joined, plus}
use Rattle.diagram.specs.Tensor.{times, low_half}
use Rattle.diagram.specs.TensorLaws.{same_refl, same_eq, eq_same}
use Rattle.diagram.specs.Top.{TopAtLeast, FreeBelow, IsLowerTop, TopWithin}

pub free_below_fix : {d : ℕ} (k : ℕ) (b : Bool) (T : Tensor d) → FreeBelow k T → FreeBelow (suc k) (fix k b T)
unfolding fix
free_below_fix k b (weight w) f = tt
free_below_fix zero b (split l h) f = (refl, tt)
free_below_fix (suc k) b (split l h) f = (ap (fix k b) f.0, free_below_fix k b l f.1)

at_least_zero : (o : Option ℕ) → TopAtLeast 0 o
at_least_zero none = tt
at_least_zero (some j) = omega arith

pub free_below_plus : {d : ℕ} (k : ℕ) (A B : Tensor d) → FreeBelow k A → FreeBelow k B → FreeBelow k (plus A B)
unfolding plus
free_below_plus zero A B f g = tt
free_below_plus (suc k) (weight v) (weight w) f g = tt
free_below_plus (suc k) (split l h) (split l' h') f g = (ap₂ plus f.0 g.0, free_below_plus k l l' f.1 g.1)

pub free_below_times : {d : ℕ} (k : ℕ) (A B : Tensor d) → FreeBelow k A → FreeBelow k B → FreeBelow k (times A B)
unfolding times
free_below_times zero A B f g = tt
free_below_times (suc k) (weight v) (weight w) f g = tt
free_below_times (suc k) (split l h) (split l' h') f g =
    (ap₂ times f.0 g.0, free_below_times k l l' f.1 g.1)

pub free_below_joined : {d : ℕ} (j k : ℕ) (L H : Tensor d) → j ≤ k → FreeBelow j L → FreeBelow j H
    → FreeBelow j (joined k L H)
unfolding joined
free_below_joined zero k L H p f g = tt
free_below_joined (suc j) k (weight v) (weight w) p f g = tt
free_below_joined (suc j) zero (split l h) (split l' h') p f g = absurd (not-suc-le-zero p)
free_below_joined (suc j) (suc k) (split l h) (split l' h') p f g =
    (ap₂ (joined k) f.0 g.0, free_below_joined j k l l' (le_of_suc-le-suc p) f.1 g.1)

pub free_below_less : {d : ℕ} (j k : ℕ) (T : Tensor d) → j ≤ k → FreeBelow k T → FreeBelow j T
free_below_less zero k T p f = tt
free_below_less (suc j) zero T p f = absurd (not-suc-le-zero p)
free_below_less (suc j) (suc k) (weight w) p f = tt
free_below_less (suc j) (suc k) (split l h) p f = (f.0, free_below_less j k l (le_of_suc-le-suc p) f.1)

pub free_below_fix_above : {d : ℕ} (j k : ℕ) (b : Bool) (T : Tensor d) → j ≤ k → FreeBelow j T → FreeBelow j (fix k b T)
unfolding fix
free_below_fix_above zero k b T p f = tt
free_below_fix_above (suc j) k b (weight w) p f = tt
free_below_fix_above (suc j) zero b (split l h) p f = absurd (not-suc-le-zero p)
free_below_fix_above (suc j) (suc k) b (split l h) p f =
    (ap (fix k b) f.0, free_below_fix_above j k b l (le_of_suc-le-suc p) f.1)

pub free_below_suc : {d : ℕ} (j : ℕ) (T : Tensor d) → FreeBelow j T → fix j false T ≡ fix j true T → FreeBelow (suc j) T
unfolding fix
free_below_suc j (weight w) f e = tt
free_below_suc zero (split l h) f e = (ap low_half e, tt)
free_below_suc (suc j) (split l h) f e = (f.0, free_below_suc j l f.1 (ap low_half e))

next_up : (k : ℕ) (o : Option ℕ) → TopAtLeast k o → TopAtLeast (suc k) (next o)
next_up k none h = tt
next_up k (some j) h = suc-le-suc h

next_down : (k : ℕ) (o : Option ℕ) → TopAtLeast (suc k) (next o) → TopAtLeast k o
next_down k none h = tt
next_down k (some j) h = le_of_suc-le-suc h

pub free_below_top : {d : ℕ} (k : ℕ) (T : Tensor d) → TopAtLeast k (top T) → FreeBelow k T
unfolding top
free_below_top zero T h = tt
free_below_top (suc k) (weight w) h = tt
free_below_top (suc k) (split l h) p = go (same l h) refl p (λ q. free_below_top k l q)
  where
    go : (b : Bool) → same l h ≡ b → TopAtLeast (suc k) (cond b (next (top l)) (some 0))
        → (TopAtLeast k (top l) → FreeBelow k l) → (l ≡ h) × FreeBelow k l
    go true e q f = (same_eq l h e, f (next_down k (top l) q))
    go false e q f = absurd (not-suc-le-zero q)

pub top_free_below : {d : ℕ} (k : ℕ) (T : Tensor d) → FreeBelow k T → TopAtLeast k (top T)
unfolding top
top_free_below k (weight w) f = tt
top_free_below zero (split l h) f = at_least_zero (top (split l h))
top_free_below (suc k) (split l h) f = rw (eq_same f.0) (next_up k (top l) (top_free_below k l f.1))

pub top_within : {d : ℕ} (T : Tensor d) → TopWithin d (top T)
unfolding top
top_within (weight w) = tt
top_within {d = suc d} (split l h) = go (same l h) (top l) (top_within l)
  where
    go : (b : Bool) (o : Option ℕ) → TopWithin d o → TopWithin (suc d) (cond b (next o) (some 0))
    go true none p = tt
    go true (some j) p = suc-le-suc p
    go false o p = omega arith

-- a tensor with no top is constant
pub free_below_all : {d : ℕ} (T : Tensor d) → ((k : ℕ) → FreeBelow k T) → (w : Weight) × (T ≡ constant d w)
unfolding constant
free_below_all (weight w) f = (w, refl)
free_below_all (split l h) f =
    let c = free_below_all l (λ k. (f (suc k)).1) in
    (c.0, ap₂ split c.1 (sym (f 1).0 ∙ c.1))

pub top_none : {d : ℕ} (T : Tensor d) → top T ≡ none → (w : Weight) × (T ≡ constant d w)
top_none T e = free_below_all T (λ k. free_below_top k T (rw e tt))

pub free_below_constant : (k d : ℕ) (w : Weight) → FreeBelow k (constant d w)
unfolding constant
free_below_constant zero d w = tt
free_below_constant (suc k) zero w = tt
free_below_constant (suc k) (suc d) w = (refl, free_below_constant k d w)

pub top_constant : (d : ℕ) (w : Weight) → top (constant d w) ≡ none
unfolding constant top
top_constant zero w = refl
top_constant (suc d) w = rw (same_refl (constant d w), top_constant d w)

-- fixing an index below the top changes nothing
pub fix_free_below : {d : ℕ} (k : ℕ) (b : Bool) (T : Tensor d) → FreeBelow (suc k) T → fix k b T ≡ T
unfolding fix
fix_free_below k b (weight w) f = refl
fix_free_below zero true (split l h) f = ap (λ x. split x h) (sym f.0)
fix_free_below zero false (split l h) f = ap (split l) f.0
fix_free_below (suc k) b (split l h) f =
    ap₂ split (fix_free_below k b l f.1) (rw (← f.0) (fix_free_below k b l f.1))

-- L and H that differ and have larger tops, joined at k, have the top k
pub top_joined : {d : ℕ} (k : ℕ) (L H : Tensor d) → k < d → FreeBelow (suc k) L → FreeBelow (suc k) H → same L H ≡ false
    → top (joined k L H) ≡ some k
unfolding top joined same
top_joined k (weight v) (weight w) p f g n = absurd (not-suc-le-zero p)
top_joined zero (split l h) (split l' h') p f g n =
    let m : same l l' ≡ false = sym (and_self (same l l')) ∙ (rw (← f.0, ← g.0) at n) in
    rw (← g.0, m)
top_joined (suc k) (split l h) (split l' h') p f g n =
    let m : same l l' ≡ false = sym (and_self (same l l')) ∙ (rw (← f.0, ← g.0) at n) in
    rw (eq_same (ap₂ (joined k) f.0 g.0), top_joined k l l' (le_of_suc-le-suc p) f.1 g.1 m)

pub top_is : {d : ℕ} (k : ℕ) (T : Tensor d) → top T ≡ some k → FreeBelow k T
top_is k T e = free_below_top k T (rw e (le_refl k))

pub top_inside : {d : ℕ} (k : ℕ) (T : Tensor d) → top T ≡ some k → k < d
top_inside k T e = rw e at (top_within T)

-- a tensor depends on its top
pub top_depends : {d : ℕ} (k : ℕ) (T : Tensor d) → top T ≡ some k → fix k false T ≡ fix k true T → ⊥
top_depends k T e p =
    let h : suc k ≤ k = rw e at (top_free_below (suc k) T (free_below_suc k T (top_is k T e) p)) in omega arith

pub lower_top_lem : {d : ℕ} (A B : Tensor d) (k : ℕ) → top2 A B ≡ some k → IsLowerTop A B k
unfolding top2
lower_top_lem {d} A B k e = go (top A) (top B) e (λ j. free_below_top j A) (λ j. free_below_top j B)
    (λ j. top_free_below j A) (λ j. top_free_below j B) (top_within A) (top_within B)
  where
    go : (a b : Option ℕ) → lower_top a b ≡ some k → ((j : ℕ) → TopAtLeast j a → FreeBelow j A)
        → ((j : ℕ) → TopAtLeast j b → FreeBelow j B)
        → ((j : ℕ) → FreeBelow j A → TopAtLeast j a) → ((j : ℕ) → FreeBelow j B → TopAtLeast j b) → TopWithin d a
        → TopWithin d b → IsLowerTop A B k
    go none none e f g f' g' u v = let z : ◌≡◌ {A = ℕ} 0 1 = cc in absurd (omega arith)
    go none (some j) e f g f' g' u v =
        let q : j ≡ k = cc in record {
          left = f k tt;
          right = g k (omega arith);
          inside = omega arith;
          least = λ i x y. omega (arith, g' i y);
        }
    go (some i) none e f g f' g' u v =
        let q : i ≡ k = cc in record {
          left = f k (omega arith);
          right = g k tt;
          inside = omega arith;
          least = λ j x y. omega (arith, f' j x);
        }
    go (some i) (some j) e f g f' g' u v = pair (leb i j) refl (some-injective _ _ e)
      where
        pair : (t : Bool) → leb i j ≡ t → cond t i j ≡ k → IsLowerTop A B k
        pair true t q =
            record {
              left = f k (omega arith);
              right = g k (omega (arith, leb-true i j t));
              inside = omega arith;
              least = λ m x y. omega (arith, f' m x);
            }
        pair false t q =
            record {
              left = f k (omega (arith, leb-false i j t));
              right = g k (omega arith);
              inside = omega arith;
              least = λ m x y. omega (arith, g' m y);
            }

lower_least : (k : ℕ) (a b : Option ℕ) → TopAtLeast k a → TopAtLeast k b → TopAtLeast k (lower_top a b)
lower_least k none b p q = q
lower_least k (some i) none p q = p
lower_least k (some i) (some j) p q = go (leb i j)
  where
    go : (t : Bool) → k ≤ cond t i j
    go true = p
    go false = q

-- the measure falls where the top is fixed

measure_falls : (d k : ℕ) (o : Option ℕ) → k < d → TopAtLeast (suc k) o → top_measure d o < top_measure d (some k)
unfolding top_measure
measure_falls d k none p q = omega arith
measure_falls d k (some j) p q = omega arith

pub measure_fix : {d : ℕ} (A : Tensor d) (k : ℕ) (b : Bool) → top A ≡ some k
    → top_measure d (top (fix k b A)) < top_measure d (top A)
measure_fix {d} A k b e =
    let inside : k < d = rw e at (top_within A) in
    let from : FreeBelow k A = free_below_top k A (rw e (le_refl k)) in
    rw e (measure_falls d k (top (fix k b A)) inside (top_free_below (suc k) (fix k b A) (free_below_fix k b A from)))

pub measure_fix2 : {d : ℕ} (A B : Tensor d) (k : ℕ) (b : Bool) → top2 A B ≡ some k
    → top_measure d (top2 (fix k b A) (fix k b B)) < top_measure d (top2 A B)
unfolding top2
measure_fix2 {d} A B k b e =
    let o = lower_top_lem A B k e in
    rw e (measure_falls d k (top2 (fix k b A) (fix k b B)) o.inside
    (lower_least (suc k) (top (fix k b A)) (top (fix k b B))
    (top_free_below (suc k) (fix k b A) (free_below_fix k b A o.left))
    (top_free_below (suc k) (fix k b B) (free_below_fix k b B o.right))))

module _ {d : ℕ} {X : Type 0} (stop : X) where
  pub on_top_step : (body : (Tensor d → X) → Tensor d → X) → Local body → (A : Tensor d)
      → on_top stop body A ≡ body (on_top stop body) A
  unfolding on_top
  on_top_step body local A = descend_step (λ T. top_measure d (top T)) stop body
      (λ rec rec' T h. local rec rec' T (λ k b e. h (fix k b T) (measure_fix T k b e))) A

  pub on_top2_step : (body : (Tensor d → Tensor d → X) → Tensor d → Tensor d → X) → Local2 body → (A B : Tensor d)
      → on_top2 stop body A B ≡ body (on_top2 stop body) A B
  unfolding on_top2
  on_top2_step body local A B = descend_step {Y = Tensor d × Tensor d} (λ p. top_measure d (top2 p.0 p.1)) stop
      (λ rec p. body (λ A B. rec (A, B)) p.0 p.1)
      (λ rec rec' p h. local (λ A B. rec (A, B)) (λ A B. rec' (A, B)) p.0 p.1
      (λ k b e. h (fix k b p.0, fix k b p.1) (measure_fix2 p.0 p.1 k b e))) (A, B)

module _ {d : ℕ} where
  pub induction : (P : Tensor d → Type 0)
      → ((A : Tensor d) → ((k : ℕ) (b : Bool) → top A ≡ some k → P (fix k b A)) → P A) → (A : Tensor d) → P A
  induction P step A =
      descend_induction (λ T. top_measure d (top T)) P (λ T h. step T (λ k b e. h (fix k b T) (measure_fix T k b e))) A

  pub induction2 : (P : Tensor d → Tensor d → Type 0)
      → ((A B : Tensor d) → ((k : ℕ) (b : Bool) → top2 A B ≡ some k → P (fix k b A) (fix k b B)) → P A B)
      → (A B : Tensor d) → P A B
  induction2 P step A B =
      descend_induction {Y = Tensor d × Tensor d} (λ p. top_measure d (top2 p.0 p.1)) (λ p. P p.0 p.1)
      (λ p h. step p.0 p.1 (λ k b e. h (fix k b p.0, fix k b p.1) (measure_fix2 p.0 p.1 k b e)))
      (A, B)
