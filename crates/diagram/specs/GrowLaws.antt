-- Laws of more indices: every operation on tensors does over d + m indices what it does over d.
use Rattle.std.specs.Prelude.{◌≡◌, Bool}
use Rattle.std.proofs.Math.Path.{refl, ap₂, sym}
use Rattle.std.proofs.Common.{ap, ◌∙◌, arith, not-suc-le-zero, le_of_suc-le-suc}
use Rattle.std.proofs.Math.Bool.{true, false, ◌&&◌, not}
use Prim.Native.Nat.{ℕ, zero, suc, ◌*◌, ◌≤◌, ◌<◌}
use Rattle.std.proofs.Math.Nat.{pow-le-pow_right}
use Rattle.field.specs.Weight.{Weight, same_w, inverse_w}
use Rattle.std.proofs.Math.Bool.{and_self}
use Rattle.diagram.specs.Tensor.{indices, indices_count, Tensor, weight, split, branch, Bits, tail, bits, at}
use Rattle.diagram.specs.Tensor.{value, same, constant, is_zero, scale, plus, times, first, top, lower_top}
use Rattle.diagram.specs.Tensor.{top2, fix}
use Rattle.diagram.specs.Tensor.{depends, joined, normal, multiple}
use Rattle.diagram.specs.TensorLaws.{at_constant, same_eq, eq_same, scale_constant, fix_constant, first_constant}
use Rattle.diagram.specs.TensorLaws.{zero_constant}
use Rattle.diagram.specs.TestLaws.{branch_ap}
use Rattle.diagram.specs.TensorRingLaws.{plus_constant, times_constant}
use Rattle.diagram.specs.TopLaws.{top_constant}
use Rattle.diagram.specs.Tabulate.{cons, tabulate, Sees}
use Rattle.diagram.specs.TabulateLaws.{sees_cons}
use Rattle.diagram.specs.Gate.{entry, gate_tensor, unit_entry, unit_tensor, GateBelow}
use Rattle.diagram.specs.GateLaws.{gate_sees, unit_sees}
use Rattle.diagram.specs.Support.{support_mask}
use Rattle.diagram.specs.SupportLaws.{support_below, support_bits, support_is}
use Rattle.diagram.specs.Grow.{grow, deeper}
use Rattle.diagram.specs.declared.gate.Gate.{Gate}

-- the engine's indices: the three of qubit 0, and the others
pub indices_deeper : indices ≡ deeper 3 21
indices_deeper = indices_count

same_constant : (d : ℕ) (v w : Weight) → same (constant d v) (constant d w) ≡ same_w v w
unfolding same constant
same_constant zero v w = refl
same_constant (suc d) v w = rw (same_constant d v w) (and_self (same_w v w))

module _ (m : ℕ) where
  pub grow_same : {d : ℕ} (A B : Tensor d) → same (grow m A) (grow m B) ≡ same A B
  unfolding same grow
  grow_same (weight v) (weight w) = same_constant m v w
  grow_same (split l h) (split l' h') = ap₂ ◌&&◌ (grow_same l l') (grow_same h h')

  pub grow_is_zero : {d : ℕ} (A : Tensor d) → is_zero (grow m A) ≡ is_zero A
  unfolding is_zero grow
  grow_is_zero (weight w) = zero_constant m w
  grow_is_zero (split l h) = ap₂ ◌&&◌ (grow_is_zero l) (grow_is_zero h)

  pub grow_constant : (d : ℕ) (w : Weight) → grow m (constant d w) ≡ constant (deeper d m) w
  unfolding grow constant
  grow_constant zero w = refl
  grow_constant (suc d) w = ap₂ split (grow_constant d w) (grow_constant d w)

  pub grow_scale : {d : ℕ} (c : Weight) (A : Tensor d) → scale c (grow m A) ≡ grow m (scale c A)
  unfolding scale grow
  grow_scale c (weight w) = scale_constant m c w
  grow_scale c (split l h) = ap₂ split (grow_scale c l) (grow_scale c h)

  pub grow_plus : {d : ℕ} (A B : Tensor d) → plus (grow m A) (grow m B) ≡ grow m (plus A B)
  unfolding plus grow
  grow_plus (weight v) (weight w) = plus_constant m v w
  grow_plus (split l h) (split l' h') = ap₂ split (grow_plus l l') (grow_plus h h')

  pub grow_times : {d : ℕ} (A B : Tensor d) → times (grow m A) (grow m B) ≡ grow m (times A B)
  unfolding times grow
  grow_times (weight v) (weight w) = times_constant m v w
  grow_times (split l h) (split l' h') = ap₂ split (grow_times l l') (grow_times h h')

  pub grow_first : {d : ℕ} (A : Tensor d) → first (grow m A) ≡ first A
  unfolding first grow
  grow_first (weight w) = first_constant m w
  grow_first (split l h) = rw (grow_is_zero l, grow_first l, grow_first h)

  pub grow_normal : {d : ℕ} (A : Tensor d) → normal (grow m A) ≡ grow m (normal A)
  unfolding normal
  grow_normal A = rw (grow_first A) (grow_scale (inverse_w (first A)) A)

  pub grow_multiple : {d : ℕ} (A B : Tensor d) → multiple (grow m A) (grow m B) ≡ multiple A B
  unfolding multiple
  grow_multiple A B = rw (grow_normal A, grow_normal B) (grow_same (normal A) (normal B))

  pub grow_top : {d : ℕ} (A : Tensor d) → top (grow m A) ≡ top A
  unfolding top grow
  grow_top (weight w) = top_constant m w
  grow_top (split l h) = rw (grow_same l h, grow_top l)

  pub grow_top2 : {d : ℕ} (A B : Tensor d) → top2 (grow m A) (grow m B) ≡ top2 A B
  unfolding top2
  grow_top2 A B = ap₂ lower_top (grow_top A) (grow_top B)

  pub grow_fix : {d : ℕ} (k : ℕ) (b : Bool) (A : Tensor d) → fix k b (grow m A) ≡ grow m (fix k b A)
  unfolding fix grow
  grow_fix k b (weight w) = fix_constant k b m w
  grow_fix zero b (split l h) = let e = sym (branch_ap (grow m) b l h) in ap₂ split e e
  grow_fix (suc k) b (split l h) = ap₂ split (grow_fix k b l) (grow_fix k b h)

  pub grow_joined : {d : ℕ} (k : ℕ) (L H : Tensor d) → k < d → joined k (grow m L) (grow m H) ≡ grow m (joined k L H)
  unfolding joined grow
  grow_joined k (weight v) (weight w) p = absurd (not-suc-le-zero p)
  grow_joined zero (split l h) (split l' h') p = refl
  grow_joined (suc k) (split l h) (split l' h') p =
      ap₂ split (grow_joined k l l' (le_of_suc-le-suc p)) (grow_joined k h h' (le_of_suc-le-suc p))

  pub grow_depends : {d : ℕ} (k : ℕ) (A : Tensor d) → depends k (grow m A) ≡ depends k A
  unfolding depends
  grow_depends k A = rw (grow_fix k false A, grow_fix k true A) (ap not (grow_same (fix k false A) (fix k true A)))

  pub deeper_more : (d : ℕ) → d ≤ deeper d m
  deeper_more zero = omega arith
  deeper_more (suc d) = omega (arith, deeper_more d)

  pub grow_support : {d : ℕ} (A : Tensor d) → support_mask (grow m A) ≡ support_mask A
  grow_support {d} A =
      support_is (grow m A) (support_mask A)
      (omega (arith, support_below A, pow-le-pow_right {n = 2} (omega arith) {i = d} {j = deeper d m} (deeper_more d)))
      (λ k. support_bits A k ∙ sym (grow_depends k A))

  pub grow_at : {d : ℕ} (A : Tensor d) (f : Bits) → at (grow m A) f ≡ at A f
  unfolding at grow
  grow_at (weight w) f = at_constant m w f
  grow_at (split l h) f = ap₂ (branch (f 0)) (grow_at l (tail f)) (grow_at h (tail f))

  pub grow_value : {d : ℕ} (A : Tensor d) (v : ℕ) → value (grow m A) v ≡ value A v
  unfolding value
  grow_value A v = grow_at A (bits v)

  pub grow_injective : {d : ℕ} (A B : Tensor d) → grow m A ≡ grow m B → A ≡ B
  grow_injective A B e = same_eq A B (sym (grow_same A B) ∙ eq_same e)

-- gates and unit whose qubits' indices are below d

tabulate_constant : (m : ℕ) (f : Bits → Weight) → Sees 0 f → (g : Bits) → tabulate m f ≡ constant m (f g)
unfolding tabulate constant
tabulate_constant zero f s g = ap weight (s _ _ (λ k p. absurd (not-suc-le-zero p)))
tabulate_constant (suc m) f s g =
    let none : (x y : Bits) → f x ≡ f y = λ x y. s x y (λ k p. absurd (not-suc-le-zero p)) in
    let part : (b : Bool) → tabulate m (λ h. f (cons b h)) ≡ constant m (f g) = λ b.
    tabulate_constant m (λ h. f (cons b h)) (λ x y e. none (cons b x) (cons b y)) g
    ∙ ap (constant m) (none (cons b g) g) in
    ap₂ split (part false) (part true)

pub tabulate_grow : (m d : ℕ) (f : Bits → Weight) → Sees d f → tabulate (deeper d m) f ≡ grow m (tabulate d f)
unfolding tabulate grow
tabulate_grow m zero f s = tabulate_constant m f s (λ k. false)
tabulate_grow m (suc d) f s =
    ap₂ split (tabulate_grow m d (λ g. f (cons false g)) (sees_cons d false f s))
    (tabulate_grow m d (λ g. f (cons true g)) (sees_cons d true f s))

pub gate_grow : (m d : ℕ) (g : Gate) → GateBelow d g → gate_tensor (deeper d m) g ≡ grow m (gate_tensor d g)
unfolding gate_tensor
gate_grow m d g p = tabulate_grow m d (entry g) (gate_sees d g p)

pub unit_grow : (m d n : ℕ) → 3 * n ≤ d → unit_tensor (deeper d m) n ≡ grow m (unit_tensor d n)
unfolding unit_tensor
unit_grow m d n p = tabulate_grow m d (unit_entry n) (unit_sees d n p)
