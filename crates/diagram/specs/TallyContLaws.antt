-- Laws of the tally's cont: one step, meaning, growth, scaling, its tensors exchanged.
use Rattle.std.specs.Prelude.{◌≡◌, refl, Bool, true, false, cond, ◌||◌, ℕ, suc, ◌<◌, leb}
use Rattle.std.proofs.Common.{ap, ap₂, sym, ◌∙◌, arith, leb-true, leb-false}
use Rattle.std.proofs.Math.Path.{fun_ext}
use Rattle.std.proofs.Math.Option.{Option, none, some}
use Rattle.field.specs.Weight.{Weight, 0w, times_w, Nonzero}
use Rattle.field.specs.InverseLaws.{times_nonzero}
use Rattle.std.proofs.Math.Bool.{or_comm}
use Rattle.diagram.specs.Tensor.{Tensor, Bits, constant, is_zero, scale, times, top, lower_top, top2, fix, assign}
use Rattle.diagram.specs.Tensor.{without, members, power2}
use Rattle.diagram.specs.TensorLaws.{is_zero_eq, scale_zero, scale_comm}
use Rattle.diagram.specs.TensorRingLaws.{zero_times, times_zero, fix_times, scale_times, times_constant}
use Rattle.diagram.specs.TensorRingLaws.{times_comm}
use Rattle.diagram.specs.TopLaws.{free_below_fix, free_below_times, lower_top_lem, top_none, on_top2_step, induction2}
use Rattle.diagram.specs.Descend.{Local2}
use Rattle.diagram.specs.Top.{FreeBelow}
use Rattle.diagram.specs.SumOverLaws.{sum_over_zero, sum_over_constant, sum_over_in, sum_over_out, free_below_over}
use Rattle.diagram.specs.SumOver.{sum_over}
use Rattle.diagram.specs.TensorScaleLaws.{is_zero_scale, top2_scale}
use Rattle.diagram.specs.TestLaws.{no_some}
use Rattle.diagram.specs.Tally.{Set, Contraction, return, join, sum, cont_cases, cont_body, cont, Binary, ◌>>=◌}
use Rattle.diagram.specs.Tally.{both}
use Rattle.diagram.specs.Sets.{PrefixOf}
use Rattle.diagram.specs.TallyStepLaws.{writes_return, writes_as, writes_join, writes_both, writes_answer}
use Rattle.diagram.specs.TallyStepLaws.{writes_grows}
use Rattle.diagram.specs.TallyStep.{Writes, ScaledStep}
use Rattle.diagram.specs.TallyStepLaws.{scaled_answer, scaled_both, scaled_join}
use Rattle.diagram.specs.TallySumLaws.{both_local, sum_writes, sum_scaled}
use Rattle.diagram.specs.TensorBitsLaws.{assign_same}

-- one step

cont_cases_local : {d : ℕ} (z : Bool) (o : Option ℕ) (rec rec' : Contraction d) (A B : Tensor d) (S : Bits)
    → ((k : ℕ) (x : Bool) → o ≡ some k → rec (fix k x A) (fix k x B) ≡ rec' (fix k x A) (fix k x B))
    → cont_cases z o rec A B S ≡ cont_cases z o rec' A B S
unfolding cont_cases
cont_cases_local true o rec rec' A B S h = refl
cont_cases_local false none rec rec' A B S h = refl
cont_cases_local false (some k) rec rec' A B S h =
    both_local (λ A B. rec A B (without k S)) (λ A B. rec' A B (without k S)) k A B (cond (S k) sum (join k))
    (ap (λ f. f (without k S)) (h k false refl)) (ap (λ f. f (without k S)) (h k true refl))

cont_local : {d : ℕ} → Local2 {d = d} cont_body
unfolding cont_body
cont_local rec rec' A B h = fun_ext (λ S. cont_cases_local (is_zero A || is_zero B) (top2 A B) rec rec' A B S h)

pub cont_step : {d : ℕ} (A B : Tensor d) (S : Bits) → cont A B S ≡ cont_body cont A B S
unfolding cont
cont_step {d} A B S = ap (λ f. f S) (on_top2_step (λ S. return (constant d 0w)) cont_body cont_local A B)

-- meaning and growth

zero_product : {d : ℕ} (A B : Tensor d) → (is_zero A || is_zero B) ≡ true → times A B ≡ constant d 0w
zero_product A B e = go (is_zero A) refl e
  where
    go : (a : Bool) → is_zero A ≡ a → (a || is_zero B) ≡ true → times A B ≡ constant _ 0w
    go true p q = ap (λ X. times X B) (is_zero_eq A p) ∙ zero_times B
    go false p q = ap (times A) (is_zero_eq B q) ∙ times_zero A

-- where there is no top, both are constant
pub two_constants : {d : ℕ} (A B : Tensor d) → top2 A B ≡ none
    → ((a : Weight) × (A ≡ constant d a)) × ((b : Weight) × (B ≡ constant d b))
unfolding top2
two_constants {d} A B e = go (top A) refl (top B) refl e
  where
    go : (a : Option ℕ) → top A ≡ a → (b : Option ℕ) → top B ≡ b → lower_top a b ≡ none
        → ((a : Weight) × (A ≡ constant d a)) × ((b : Weight) × (B ≡ constant d b))
    go none p none q e = (top_none A p, top_none B q)
    go none p (some j) q e = no_some e
    go (some i) p none q e = no_some e
    go (some i) p (some j) q e = no_some e

pub product_constant : {d : ℕ} (A B : Tensor d) → top2 A B ≡ none → (w : Weight) × (times A B ≡ constant d w)
product_constant {d} A B e =
    let c = two_constants A B e in
    (times_w c.0.0 c.1.0, ap₂ times c.0.1 c.1.1 ∙ times_constant d c.0.0 c.1.0)

-- the answer at k, from the answers of the two parts
combine_parts : {d : ℕ} (k : ℕ) (S : Bits) (T : Tensor d) → k < d → FreeBelow k T
    → Writes (sum_over S T) (cond (S k) sum (join k) (sum_over (assign k false S) (fix k false T))
    (sum_over (assign k false S) (fix k true T)))
combine_parts k S T p f = go (S k) refl
  where
    from : (x : Bool) → FreeBelow (suc k) (sum_over S (fix k x T))
    from x = free_below_over (suc k) S (fix k x T) (free_below_fix k x T f)

    go : (b : Bool) → S k ≡ b
        → Writes (sum_over S T) (cond b sum (join k) (sum_over (assign k false S) (fix k false T))
        (sum_over (assign k false S) (fix k true T)))
    go true e = writes_as (sum_over_in k S T p e) (sum_writes _ _)
    go false e =
        rw (assign_same k S false e) (writes_as (sum_over_out k S T e) (writes_join k _ _ p (from false) (from true)))

cont_cases_writes : {d : ℕ} (z : Bool) (o : Option ℕ) (A B : Tensor d) (S : Bits) → (is_zero A || is_zero B) ≡ z
    → top2 A B ≡ o
    → ((k : ℕ) (x : Bool) → o ≡ some k → (S : Bits) → Writes (sum_over S (times (fix k x A) (fix k x B)))
    (cont (fix k x A) (fix k x B) S))
    → Writes (sum_over S (times A B)) (cont_cases z o cont A B S)
unfolding cont_cases
cont_cases_writes {d} true o A B S p q h = rw (zero_product A B p, sum_over_zero d S) (writes_return (constant d 0w))
cont_cases_writes {d} false none A B S p q h =
    let c = product_constant A B q in
    rw (c.1, sum_over_constant d S c.0) (writes_return _)
cont_cases_writes {d} false (some k) A B S p q h =
    let o = lower_top_lem A B k q in
    writes_both (λ A B. cont A B (without k S)) k A B (cond (S k) sum (join k)) (h k false refl (without k S))
    (h k true refl (without k S))
    (rw (← fix_times k false A B, ← fix_times k true A B) (combine_parts k S (times A B) o.inside
    (free_below_times k A B o.left o.right)))

pub cont_writes : {d : ℕ} (A B : Tensor d) (S : Bits) → Writes (sum_over S (times A B)) (cont A B S)
unfolding cont_body
cont_writes {d} = induction2 (λ A B. (S : Bits) → Writes (sum_over S (times A B)) (cont A B S))
    (λ A B h S. rw (cont_step A B S) (cont_cases_writes (is_zero A || is_zero B) (top2 A B) A B S refl refl h))

pub cont_meaning : {d : ℕ} (A B : Tensor d) (S : Bits) (s : Set d) → (cont A B S s).0 ≡ sum_over S (times A B)
cont_meaning A B S s = writes_answer (cont_writes A B S) s

pub cont_grows : {d : ℕ} (A B : Tensor d) (S : Bits) (s : Set d) → PrefixOf s (cont A B S s).1
cont_grows A B S s = writes_grows (cont_writes A B S) s

-- scaling

pub combine_scaled : {d : ℕ} (c : Weight) → Nonzero c → (k : ℕ) (b : Bool) (L H : Tensor d)
    → ScaledStep c (cond b sum (join k) L H) (cond b sum (join k) (scale c L) (scale c H))
combine_scaled c n k true L H = sum_scaled c n L H
combine_scaled c n k false L H = scaled_join c k L H n

cont_cases_scaled : {d : ℕ} (a b : Weight) → Nonzero a → Nonzero b
    → (z : Bool) (o : Option ℕ) (A B : Tensor d) (S : Bits)
    → ((k : ℕ) (x : Bool) → o ≡ some k → (S : Bits) → ScaledStep (times_w a b) (cont (fix k x A) (fix k x B) S)
    (cont (scale a (fix k x A)) (scale b (fix k x B)) S))
    → ScaledStep (times_w a b) (cont_cases z o cont A B S) (cont_cases z o cont (scale a A) (scale b B) S)
unfolding cont_cases
cont_cases_scaled {d} a b n m true o A B S h =
    scaled_answer (times_w a b) (constant d 0w) (sym (scale_zero d (times_w a b)))
cont_cases_scaled {d} a b n m false none A B S h =
    scaled_answer (times_w a b) _
    (ap (scale (power2 (members d S))) (scale_times a b A B)
    ∙ scale_comm (power2 (members d S)) (times_w a b) (times A B))
cont_cases_scaled {d} a b n m false (some k) A B S h =
    scaled_both a b (λ A B. cont A B (without k S)) (λ A B. cont A B (without k S)) k A B (cond (S k) sum (join k))
    (cond (S k) sum (join k)) (λ x. h k x refl (without k S))
    (λ L H. combine_scaled (times_w a b) (times_nonzero n m) k (S k) L H)

pub cont_scaled : {d : ℕ} (a b : Weight) → Nonzero a → Nonzero b → (A B : Tensor d) (S : Bits)
    → ScaledStep (times_w a b) (cont A B S) (cont (scale a A) (scale b B) S)
unfolding cont_body
cont_scaled a b n m =
    induction2 (λ A B. (S : Bits) → ScaledStep (times_w a b) (cont A B S) (cont (scale a A) (scale b B) S))
    (λ A B h S. rw (
      cont_step A B S,
      cont_step (scale a A) (scale b B) S,
      is_zero_scale a A n,
      is_zero_scale b B m,
      top2_scale a b A B n m,
    )
    (cont_cases_scaled a b n m (is_zero A || is_zero B) (top2 A B) A B S h))

lower_comm : (a b : Option ℕ) → lower_top a b ≡ lower_top b a
lower_comm none none = refl
lower_comm none (some j) = refl
lower_comm (some i) none = refl
lower_comm (some i) (some j) = ap some (go (leb i j) refl (leb j i) refl)
  where
    go : (a : Bool) → leb i j ≡ a → (b : Bool) → leb j i ≡ b → cond a i j ≡ cond b j i
    go true p true q = omega (arith, leb-true i j p, leb-true j i q)
    go true p false q = refl
    go false p true q = refl
    go false p false q = omega (arith, leb-false i j p, leb-false j i q)

pub top2_comm : {d : ℕ} (A B : Tensor d) → top2 A B ≡ top2 B A
unfolding top2
top2_comm A B = lower_comm (top A) (top B)

both_comm : {d : ℕ} (rec : Binary d) (k : ℕ) (A B : Tensor d) (final : Binary d)
    → ((x : Bool) → rec (fix k x A) (fix k x B) ≡ rec (fix k x B) (fix k x A))
    → both rec k A B final ≡ both rec k B A final
unfolding both
both_comm rec k A B final h = ap₂ (λ f g. f >>= (λ L. g >>= (λ H. final L H))) (h false) (h true)

cont_cases_comm : {d : ℕ} (z : Bool) (o : Option ℕ) (A B : Tensor d) (S : Bits)
    → ((k : ℕ) (x : Bool) → o ≡ some k → (S : Bits) → cont (fix k x A) (fix k x B) S ≡ cont (fix k x B) (fix k x A) S)
    → cont_cases z o cont A B S ≡ cont_cases z o cont B A S
unfolding cont_cases
cont_cases_comm true o A B S h = refl
cont_cases_comm {d} false none A B S h = ap (λ T. return (scale (power2 (members d S)) T)) (times_comm A B)
cont_cases_comm false (some k) A B S h =
    both_comm (λ A B. cont A B (without k S)) k A B (cond (S k) sum (join k)) (λ x. h k x refl (without k S))

pub cont_comm : {d : ℕ} (A B : Tensor d) (S : Bits) → cont A B S ≡ cont B A S
unfolding cont_body
cont_comm = induction2 (λ A B. (S : Bits) → cont A B S ≡ cont B A S)
    (λ A B h S. rw (cont_step A B S, cont_step B A S, top2_comm B A, or_comm (is_zero B) (is_zero A))
    (cont_cases_comm (is_zero A || is_zero B) (top2 A B) A B S h))
