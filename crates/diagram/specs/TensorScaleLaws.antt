-- Laws that need inverses: scaling by a nonzero weight, the normal multiple, uniqueness.
use Rattle.std.specs.Prelude.{◌≡◌, refl, Bool, true, false, cond, ◌&&◌, ℕ, suc, ◌<◌}
use Rattle.std.proofs.Common.{ap, ap₂, sym, ◌∙◌, true≢false}
use Rattle.std.proofs.Math.Option.{some}
use Rattle.field.specs.Weight.{Weight, 0w, 1w, times_w, inverse_w, Nonzero}
use Rattle.field.specs.RingLaws.{not_zero, times_w_comm, times_w_one}
use Rattle.field.specs.InverseLaws.{inverse, times_nonzero, inverse_nonzero, inverse_one, inverse_times}
use Rattle.std.specs.Cmp.{both_ways}
use Rattle.diagram.specs.TestLaws.{cases, no_some, cond_ap}
use Rattle.diagram.specs.Tensor.{Tensor, weight, split, Normal, same, constant, is_zero, scale, first, top, top2}
use Rattle.diagram.specs.Tensor.{lower_top, joined, normal, multiple}
use Rattle.diagram.specs.TensorLaws.{same_eq, eq_same, scale_scale, scale_one, scale_zero, is_zero_eq}
use Rattle.diagram.specs.TensorLaws.{is_zero_constant, zero_scale}
use Rattle.diagram.specs.TopLaws.{top_constant, top_joined}
use Rattle.diagram.specs.Top.{FreeBelow}

pub top_nonzero : {d : ℕ} (k : ℕ) (T : Tensor d) → top T ≡ some k → is_zero T ≡ false
top_nonzero {d} k T e = cases (is_zero T) (λ z. no_some (sym (rw (is_zero_eq T z, top_constant d 0w) at e))) (λ z. z)

pub unscale : {d : ℕ} {c : Weight} (T : Tensor d) → Nonzero c → scale (inverse_w c) (scale c T) ≡ T
unscale {c = c} T n = scale_scale (inverse_w c) c T ∙ rw (inverse n) (scale_one T)

pub scale_cancel : {d : ℕ} {c : Weight} {A B : Tensor d} → Nonzero c → scale c A ≡ scale c B → A ≡ B
scale_cancel {c = c} {A = A} {B = B} n e = sym (unscale A n) ∙ ap (scale (inverse_w c)) e ∙ unscale B n

pub same_scale : {d : ℕ} (c : Weight) (A B : Tensor d) → Nonzero c → same (scale c A) (scale c B) ≡ same A B
same_scale c A B n =
    both_ways (same (scale c A) (scale c B)) (same A B) (λ e. eq_same
    (scale_cancel n (same_eq (scale c A) (scale c B) e)))
    (λ e. eq_same (ap (scale c) (same_eq A B e)))

pub is_zero_scale : {d : ℕ} (c : Weight) (T : Tensor d) → Nonzero c → is_zero (scale c T) ≡ is_zero T
is_zero_scale {d} c T n = both_ways (is_zero (scale c T)) (is_zero T) (λ e. let z : T ≡ constant d 0w =
    sym (unscale T n) ∙ ap (scale (inverse_w c)) (is_zero_eq (scale c T) e)
    ∙ scale_zero d (inverse_w c) in rw z (is_zero_constant d))
    (λ e. rw (is_zero_eq T e, scale_zero d c) (is_zero_constant d))

pub top_scale : {d : ℕ} (c : Weight) (T : Tensor d) → Nonzero c → top (scale c T) ≡ top T
unfolding top scale
top_scale c (weight w) n = refl
top_scale c (split l h) n = rw (same_scale c l h n, top_scale c l n)

pub top2_scale : {d : ℕ} (a b : Weight) (A B : Tensor d) → Nonzero a → Nonzero b
    → top2 (scale a A) (scale b B) ≡ top2 A B
unfolding top2
top2_scale a b A B n m = ap₂ lower_top (top_scale a A n) (top_scale b B m)

pub first_scale : {d : ℕ} (c : Weight) (T : Tensor d) → Nonzero c → first (scale c T) ≡ times_w c (first T)
unfolding first scale
first_scale c (weight w) n = refl
first_scale c (split l h) n = rw (is_zero_scale c l n, first_scale c l n, first_scale c h n)
    (sym (cond_ap (times_w c) (is_zero l) (first h) (first l)))

pub first_nonzero : {d : ℕ} (T : Tensor d) → is_zero T ≡ false → Nonzero (first T)
unfolding first is_zero
first_nonzero (weight w) e = record { is = e }
first_nonzero (split l h) e = go (is_zero l) refl e (first_nonzero l) (first_nonzero h)
  where
    go : (b : Bool) → is_zero l ≡ b → (b && is_zero h) ≡ false → (is_zero l ≡ false → Nonzero (first l))
        → (is_zero h ≡ false → Nonzero (first h))
        → Nonzero (cond b (first h) (first l))
    go true p q f g = g q
    go false p q f g = f p

-- the normal multiple

pub scale_normal : {d : ℕ} (T : Tensor d) → is_zero T ≡ false → scale (first T) (normal T) ≡ T
unfolding normal
scale_normal T n = scale_scale (first T) (inverse_w (first T)) T
    ∙ rw (times_w_comm (first T) (inverse_w (first T)), inverse (first_nonzero T n)) (scale_one T)

pub first_normal : {d : ℕ} (T : Tensor d) → is_zero T ≡ false → first (normal T) ≡ 1w
unfolding normal
first_normal T n =
    first_scale (inverse_w (first T)) T (inverse_nonzero (first_nonzero T n)) ∙ inverse (first_nonzero T n)

pub normal_scale : {d : ℕ} (c : Weight) (T : Tensor d) → Nonzero c → normal (scale c T) ≡ normal T
unfolding normal
normal_scale {d} c T n = cases (is_zero T) (λ z. rw (is_zero_eq T z, scale_zero d c))
    (λ z. rw (first_scale c T n) (scale_scale (inverse_w (times_w c (first T))) c T
    ∙ ap (λ x. scale x T) (inverse_times n (first_nonzero T z))))

pub normal_same : {d : ℕ} (T : Tensor d) → first T ≡ 1w → normal T ≡ T
unfolding normal
normal_same T e = rw (e, inverse_one) (scale_one T)

-- uniqueness: a weight times a tensor whose first nonzero value is 1, in one way
pub unique_weight : {d : ℕ} (v w : Weight) (A B : Tensor d) → Nonzero v → Nonzero w → first A ≡ 1w → first B ≡ 1w
    → scale v A ≡ scale w B → v ≡ w
unique_weight v w A B n m a b e =
    sym (times_w_one v) ∙ times_w_comm 1w v ∙ ap (times_w v) (sym a) ∙ sym (first_scale v A n) ∙ ap first e
    ∙ first_scale w B m ∙ ap (times_w w) b ∙
    times_w_comm w 1w ∙ times_w_one w

pub unique_tensor : {d : ℕ} (v w : Weight) (A B : Tensor d) → Nonzero v → Nonzero w → first A ≡ 1w → first B ≡ 1w
    → scale v A ≡ scale w B → A ≡ B
unique_tensor v w A B n m a b e = scale_cancel n (e ∙ ap (λ x. scale x B) (sym (unique_weight v w A B n m a b e)))

-- multiples

pub multiple_scale : {d : ℕ} (a b : Weight) (A B : Tensor d) → Nonzero a → Nonzero b
    → multiple (scale a A) (scale b B) ≡ multiple A B
unfolding multiple
multiple_scale a b A B n m = ap₂ same (normal_scale a A n) (normal_scale b B m)

-- of tensors that are not zero: `multiple` says that one is a multiple of the other
pub multiple_of : {d : ℕ} (c : Weight) (A B : Tensor d) → is_zero A ≡ false → A ≡ scale c B → multiple A B ≡ true
unfolding multiple
multiple_of {d} c A B n e = eq_same (rw e (normal_scale c B (not_zero c zero)))
  where
    zero : c ≡ 0w → ⊥
    zero z = true≢false (sym (rw (e, z, zero_scale B) (is_zero_constant d)) ∙ n)

pub multiple_eq : {d : ℕ} (A B : Tensor d) → is_zero A ≡ false → is_zero B ≡ false → multiple A B ≡ true
    → (c : Weight) × Nonzero c × (B ≡ scale c A)
unfolding multiple normal
multiple_eq A B n m e = (
  times_w (first B) (inverse_w (first A)),
  times_nonzero (first_nonzero B m) (inverse_nonzero (first_nonzero A n)),
  sym (scale_normal B m) ∙ ap (scale (first B)) (sym (same_eq (normal A) (normal B) e))
      ∙ scale_scale (first B) (inverse_w (first A)) A,
)

pub normal_normal : {d : ℕ} (k : ℕ) (T : Tensor d) → top T ≡ some k → Normal (normal T)
unfolding normal
normal_normal k T e =
    let n = top_nonzero k T e in
    record {
      index = k;
      depends = top_scale (inverse_w (first T)) T (inverse_nonzero (first_nonzero T n)) ∙ e;
      one = first_normal T n;
    }

pub normal_joined : {d : ℕ} (k : ℕ) (L H : Tensor d) → k < d → FreeBelow (suc k) L → FreeBelow (suc k) H
    → same L H ≡ false → Normal (normal (joined k L H))
normal_joined k L H p f g n = normal_normal k (joined k L H) (top_joined k L H p f g n)
