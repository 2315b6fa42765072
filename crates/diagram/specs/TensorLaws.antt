-- Laws of the operations on tensors: equality, values, scaling, zero, fixing and joining. (Sum and product:
-- TensorRingLaws.)
use Rattle.std.specs.Prelude.{◌≡◌, refl, Bool, true, false, ℕ, zero, suc, ◌+◌, ◌%◌, ◌^◌, ◌<◌}
use Rattle.std.proofs.Math.Path.{ap}
use Rattle.std.proofs.Common.{ap₂, sym, ◌∙◌, arith, not-suc-le-zero, le_of_suc-le-suc, eq-eqb, ne_eqb}
use Rattle.field.specs.Weight.{Weight, 0w, 1w, times_w, same_w}
use Rattle.field.specs.RingLaws.{same_w_eq, same_w_refl, times_w_comm, times_w_assoc, times_w_one, times_w_zero}
use Rattle.std.proofs.Math.Bool.{and_self}
pub use Rattle.std.proofs.Math.Nat.{two-pow-succ as power_suc}
use Rattle.diagram.specs.TestLaws.{and_left, and_right, branch_same, branch_ap, branch_ap₂, branch_swap}
use Rattle.diagram.specs.TestLaws.{cond_same}
use Rattle.diagram.specs.Tensor.{Tensor, weight, split, branch, Bits, tail, bits, at, value, same, constant}
use Rattle.diagram.specs.Tensor.{is_zero, scale, first, fix, joined, assign}

-- equality

pub same_refl : {d : ℕ} (A : Tensor d) → same A A ≡ true
unfolding same
same_refl (weight w) = same_w_refl w
same_refl (split l h) = rw (same_refl l) (same_refl h)

pub same_eq : {d : ℕ} (A B : Tensor d) → same A B ≡ true → A ≡ B
unfolding same
same_eq (weight a) (weight b) e = ap weight (same_w_eq a b e)
same_eq (split l h) (split l' h') e =
    ap₂ split (same_eq l l' (and_left (same l l') (same h h') e)) (same_eq h h' (and_right (same l l') (same h h') e))

pub eq_same : {d : ℕ} {A B : Tensor d} → A ≡ B → same A B ≡ true
eq_same {A = A} e = rw (← e) (same_refl A)

-- values

pub value_even : {d : ℕ} (l h : Tensor d) (v : ℕ) → value (split l h) (v + v) ≡ value l v
unfolding value at bits
value_even l h v = rw (ne_eqb ((v + v) % 2) 1 (omega arith)) (ap (λ x. at l (bits x)) (omega arith))

pub value_odd : {d : ℕ} (l h : Tensor d) (v : ℕ) → value (split l h) (v + v + 1) ≡ value h v
unfolding value at bits
value_odd l h v = rw (eq-eqb ((v + v + 1) % 2) 1 (omega arith)) (ap (λ x. at h (bits x)) (omega arith))

-- tensors that agree at each assignment are equal
pub eq_value : {d : ℕ} (A B : Tensor d) → ((v : ℕ) → v < 2 ^ d → value A v ≡ value B v) → A ≡ B
eq_value (weight a) (weight b) h = unfold value at in ap weight (h 0 (omega arith))
eq_value {d = suc d} (split l h) (split l' h') e =
    ap₂ split (eq_value l l' (λ v p. sym (value_even l h v) ∙ e (v + v) (omega (arith, power_suc d))
    ∙ value_even l' h' v))
    (eq_value h h' (λ v p. sym (value_odd l h v) ∙ e (v + v + 1) (omega (arith, power_suc d)) ∙ value_odd l' h' v))

pub at_scale : {d : ℕ} (c : Weight) (A : Tensor d) (f : Bits) → at (scale c A) f ≡ times_w c (at A f)
unfolding at scale
at_scale c (weight a) f = refl
at_scale c (split l h) f = rw (at_scale c l, at_scale c h) (sym (branch_ap (times_w c) (f 0) _ _))

pub at_constant : (d : ℕ) (w : Weight) (f : Bits) → at (constant d w) f ≡ w
unfolding at constant
at_constant zero w f = refl
at_constant (suc d) w f = rw (at_constant d) (branch_same (f 0) w)

pub at_fix : {d : ℕ} (k : ℕ) (b : Bool) (T : Tensor d) (f : Bits) → at (fix k b T) f ≡ at T (assign k b f)
unfolding at fix assign
at_fix k b (weight w) f = refl
at_fix zero b (split l h) f = branch_same (f 0) (at (branch b l h) (tail f)) ∙ branch_ap (λ x. at x (tail f)) b l h
at_fix (suc k) b (split l h) f = rw (at_fix k b l, at_fix k b h)

pub at_joined : {d : ℕ} (k : ℕ) (L H : Tensor d) (f : Bits) → k < d
    → at (joined k L H) f ≡ branch (f k) (at L f) (at H f)
unfolding at joined
at_joined k (weight a) (weight b) f p = absurd (not-suc-le-zero p)
at_joined zero (split l h) (split l' h') f p =
    elim (f 0) as
    (λ b. branch b (at l (tail f)) (at h' (tail f)) ≡ branch b (branch b (at l (tail f)) (at h (tail f)))
    (branch b (at l' (tail f)) (at h' (tail f))))
    [ true ↦ refl | false ↦ refl ]
at_joined (suc k) (split l h) (split l' h') f p =
    rw (at_joined k l l' (tail f) (le_of_suc-le-suc p), at_joined k h h' (tail f) (le_of_suc-le-suc p))
    (branch_swap (f 0) (f (suc k)) _ _ _ _)

-- the ring

pub scale_scale : {d : ℕ} (a b : Weight) (T : Tensor d) → scale a (scale b T) ≡ scale (times_w a b) T
unfolding scale
scale_scale a b (weight w) = ap weight (sym (times_w_assoc a b w))
scale_scale a b (split l h) = ap₂ split (scale_scale a b l) (scale_scale a b h)

pub scale_one : {d : ℕ} (T : Tensor d) → scale 1w T ≡ T
unfolding scale
scale_one (weight w) = ap weight (times_w_one w)
scale_one (split l h) = ap₂ split (scale_one l) (scale_one h)

pub scale_constant : (d : ℕ) (a w : Weight) → scale a (constant d w) ≡ constant d (times_w a w)
unfolding scale constant
scale_constant zero a w = refl
scale_constant (suc d) a w = ap₂ split (scale_constant d a w) (scale_constant d a w)

pub scale_zero : (d : ℕ) (a : Weight) → scale a (constant d 0w) ≡ constant d 0w
scale_zero d a = scale_constant d a 0w ∙ ap (constant d) (times_w_comm a 0w ∙ times_w_zero a)

-- zero

pub is_zero_eq : {d : ℕ} (A : Tensor d) → is_zero A ≡ true → A ≡ constant d 0w
unfolding is_zero constant
is_zero_eq (weight w) e = ap weight (same_w_eq w 0w e)
is_zero_eq (split l h) e =
    ap₂ split (is_zero_eq l (and_left (is_zero l) (is_zero h) e)) (is_zero_eq h (and_right (is_zero l) (is_zero h) e))

pub is_zero_constant : (d : ℕ) → is_zero (constant d 0w) ≡ true
unfolding is_zero constant
is_zero_constant zero = same_w_refl 0w
is_zero_constant (suc d) = rw (is_zero_constant d) refl

-- fixing and joining

pub fix_scale : {d : ℕ} (k : ℕ) (b : Bool) (c : Weight) (T : Tensor d) → fix k b (scale c T) ≡ scale c (fix k b T)
unfolding fix scale
fix_scale k b c (weight w) = refl
fix_scale zero b c (split l h) = let e = sym (branch_ap (scale c) b l h) in ap₂ split e e
fix_scale (suc k) b c (split l h) = ap₂ split (fix_scale k b c l) (fix_scale k b c h)

pub fix_constant : (k : ℕ) (b : Bool) (d : ℕ) (w : Weight) → fix k b (constant d w) ≡ constant d w
unfolding fix constant
fix_constant k b zero w = refl
fix_constant zero b (suc d) w = let e = branch_same b (constant d w) in ap₂ split e e
fix_constant (suc k) b (suc d) w = ap₂ split (fix_constant k b d w) (fix_constant k b d w)

-- fixing an index again changes nothing
pub fix_again : {d : ℕ} (k : ℕ) (b c : Bool) (T : Tensor d) → fix k b (fix k c T) ≡ fix k c T
unfolding fix
fix_again k b c (weight w) = refl
fix_again zero b c (split l h) = let e = branch_same b (branch c l h) in ap₂ split e e
fix_again (suc k) b c (split l h) = ap₂ split (fix_again k b c l) (fix_again k b c h)

-- two indices can be fixed in either order
pub fix_fix : {d : ℕ} (j k : ℕ) (b c : Bool) (T : Tensor d) → (j ≡ k → ⊥) → fix j b (fix k c T) ≡ fix k c (fix j b T)
unfolding fix
fix_fix j k b c (weight w) n = refl
fix_fix zero zero b c (split l h) n = absurd (n refl)
fix_fix zero (suc k) b c (split l h) n = let e = sym (branch_ap (fix k c) b l h) in ap₂ split e e
fix_fix (suc j) zero b c (split l h) n = let e = branch_ap (fix j b) c l h in ap₂ split e e
fix_fix (suc j) (suc k) b c (split l h) n =
    let m : j ≡ k → ⊥ = λ e. n (ap suc e) in ap₂ split (fix_fix j k b c l m) (fix_fix j k b c h m)

pub joined_self : {d : ℕ} (k : ℕ) (T : Tensor d) → joined k T T ≡ T
unfolding joined
joined_self k (weight w) = refl
joined_self zero (split l h) = refl
joined_self (suc k) (split l h) = ap₂ split (joined_self k l) (joined_self k h)

-- a tensor is its two parts at k, joined
pub joined_fix : {d : ℕ} (k : ℕ) (T : Tensor d) → joined k (fix k false T) (fix k true T) ≡ T
unfolding joined fix
joined_fix k (weight w) = refl
joined_fix zero (split l h) = refl
joined_fix (suc k) (split l h) = ap₂ split (joined_fix k l) (joined_fix k h)

pub fix_joined : {d : ℕ} (k : ℕ) (b : Bool) (L H : Tensor d) → k < d → fix k b (joined k L H) ≡ fix k b (branch b L H)
unfolding joined fix
fix_joined k b (weight v) (weight w) p = absurd (not-suc-le-zero p)
fix_joined zero true (split l h) (split l' h') p = refl
fix_joined zero false (split l h) (split l' h') p = refl
fix_joined (suc k) true (split l h) (split l' h') p =
    ap₂ split (fix_joined k true l l' (le_of_suc-le-suc p)) (fix_joined k true h h' (le_of_suc-le-suc p))
fix_joined (suc k) false (split l h) (split l' h') p =
    ap₂ split (fix_joined k false l l' (le_of_suc-le-suc p)) (fix_joined k false h h' (le_of_suc-le-suc p))

pub fix_joined_other : {d : ℕ} (j k : ℕ) (b : Bool) (L H : Tensor d) → (j ≡ k → ⊥)
    → fix j b (joined k L H) ≡ joined k (fix j b L) (fix j b H)
unfolding joined fix
fix_joined_other j k b (weight v) (weight w) n = refl
fix_joined_other zero zero b (split l h) (split l' h') n = absurd (n refl)
fix_joined_other zero (suc k) b (split l h) (split l' h') n =
    let e = sym (branch_ap₂ (joined k) b l h l' h') in ap₂ split e e
fix_joined_other (suc j) zero b (split l h) (split l' h') n = refl
fix_joined_other (suc j) (suc k) b (split l h) (split l' h') n =
    let m : j ≡ k → ⊥ = λ e. n (ap suc e) in ap₂ split (fix_joined_other j k b l l' m) (fix_joined_other j k b h h' m)

pub joined_scale : {d : ℕ} (k : ℕ) (c : Weight) (L H : Tensor d)
    → joined k (scale c L) (scale c H) ≡ scale c (joined k L H)
unfolding joined scale
joined_scale k c (weight a) (weight b) = refl
joined_scale zero c (split l h) (split l' h') = refl
joined_scale (suc k) c (split l h) (split l' h') = ap₂ split (joined_scale k c l l') (joined_scale k c h h')

pub scale_comm : {d : ℕ} (a b : Weight) (T : Tensor d) → scale a (scale b T) ≡ scale b (scale a T)
scale_comm a b T = scale_scale a b T ∙ ap (λ x. scale x T) (times_w_comm a b) ∙ sym (scale_scale b a T)

pub zero_scale : {d : ℕ} (T : Tensor d) → scale 0w T ≡ constant d 0w
unfolding scale constant
zero_scale (weight w) = ap weight (times_w_zero w)
zero_scale (split l h) = ap₂ split (zero_scale l) (zero_scale h)

pub first_constant : (d : ℕ) (w : Weight) → first (constant d w) ≡ w
unfolding first constant
first_constant zero w = refl
first_constant (suc d) w = rw (first_constant d w) (cond_same (is_zero (constant d w)) w)

pub zero_constant : (d : ℕ) (w : Weight) → is_zero (constant d w) ≡ same_w w 0w
unfolding is_zero constant
zero_constant zero w = refl
zero_constant (suc d) w = rw (zero_constant d w) (and_self (same_w w 0w))
