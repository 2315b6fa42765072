-- Laws that let results be shared: one ratio for sum, a mask from the lower top on for cont, a constant operand.
use Rattle.std.specs.Prelude.{◌≡◌, refl, Bool, true, false, cond, ◌||◌, ℕ, zero, suc, ◌<◌, ◌≤◌}
use Rattle.std.proofs.Common.{ap, ap₂, sym, ◌∙◌, arith, not-suc-le-zero, le_of_suc-le-suc}
use Rattle.std.proofs.Math.Option.{Option, none, some}
use Rattle.field.specs.Weight.{Weight, to_weight, 0w, 1w, plus_w, times_w, same_w, inverse_w, Nonzero}
use Rattle.field.specs.RingLaws.{times_w_comm, times_w_assoc, times_w_one, times_w_plus}
use Rattle.field.specs.InverseLaws.{inverse}
use Rattle.std.proofs.Math.Bool.{or-false}
use Rattle.diagram.specs.Tensor.{Tensor, weight, split, Bits, tail, same, constant, is_zero, scale, times, top}
use Rattle.diagram.specs.Tensor.{lower_top, top2, fix, normal, assign, members, power2, members_from, two}
use Rattle.diagram.specs.TensorLaws.{scale_scale, scale_zero, is_zero_eq, zero_constant, scale_one, joined_fix}
use Rattle.diagram.specs.TensorLaws.{fix_constant, joined_scale, same_eq}
use Rattle.diagram.specs.TopLaws.{free_below_fix_above, top_constant, top_depends, lower_top_lem, induction}
use Rattle.diagram.specs.TopLaws.{induction2, free_below_less}
use Rattle.diagram.specs.Top.{FreeBelow}
use Rattle.diagram.specs.TensorScaleLaws.{same_scale, normal_scale}
use Rattle.diagram.specs.Tally.{Set, Step, return, ◌>>=◌, join_cases, join, both, sum, cont_cases, cont_body, cont}
use Rattle.diagram.specs.SetsLaws.{put_present}
use Rattle.diagram.specs.TallyStepLaws.{scaled_answer, scaled_bind}
use Rattle.diagram.specs.TallyStep.{ScaledStep}
use Rattle.diagram.specs.TallySumLaws.{sum_scaled}
use Rattle.diagram.specs.TallyContLaws.{cont_step, combine_scaled}
use Rattle.diagram.specs.TensorBitsLaws.{assign_same, assign_other, assign_assign, members_none}
use Rattle.diagram.specs.Reach.{Covers, itself, part}

-- sum: one ratio
pub sum_ratio : {d : ℕ} (a b : Weight) → Nonzero a → (A B : Tensor d)
    → ScaledStep a (sum A (scale (times_w (inverse_w a) b) B)) (sum (scale a A) (scale b B))
sum_ratio a b n A B = rw (← ratio) (sum_scaled a n A (scale (times_w (inverse_w a) b) B))
  where
    ratio : scale a (scale (times_w (inverse_w a) b) B) ≡ scale b B
    ratio =
        scale_scale a (times_w (inverse_w a) b) B ∙ ap (λ x. scale x B)
        (sym (times_w_assoc a (inverse_w a) b) ∙ rw (times_w_comm a (inverse_w a), inverse n) (times_w_one b))

pub two_nonzero : Nonzero two
unfolding two plus_w 1w 0w to_weight same_w
two_nonzero = record { is = refl }

double : {d : ℕ} (c : Weight) (T : Tensor d) → scale (plus_w c c) T ≡ scale two (scale c T)
unfolding two
double c T =
    ap (λ x. scale x T)
    (ap₂ plus_w (sym (times_w_one c) ∙ times_w_comm 1w c) (sym (times_w_one c) ∙ times_w_comm 1w c)
    ∙ sym (times_w_plus c 1w 1w) ∙ times_w_comm c (plus_w 1w 1w))
    ∙ sym (scale_scale (plus_w 1w 1w) c T)

members_set : (d j : ℕ) (S : Bits) → j < d → S j ≡ true → members d S ≡ suc (members d (assign j false S))
unfolding members assign
members_set zero j S p e = absurd (not-suc-le-zero p)
members_set (suc d) zero S p e = rw e
members_set (suc d) (suc j) S p e = rw (members_set d j (tail S) (le_of_suc-le-suc p) e) (go (S 0) _)
  where
    go : (b : Bool) (n : ℕ) → cond b (suc (suc n)) (suc n) ≡ suc (cond b (suc n) n)
    go true n = refl
    go false n = refl

both_scaled : {d : ℕ} {c : Weight} (rec rec' : Tensor d → Tensor d → Step d) (k : ℕ) (A B : Tensor d)
    (final final' : Tensor d → Tensor d → Step d)
    → ((x : Bool) → ScaledStep c (rec (fix k x A) (fix k x B)) (rec' (fix k x A) (fix k x B)))
    → ((L H : Tensor d) → ScaledStep c (final L H) (final' (scale c L) (scale c H)))
    → ScaledStep c (both rec k A B final) (both rec' k A B final')
unfolding both
both_scaled rec rec' k A B final final' p q = scaled_bind _ _ (p false) (λ L. scaled_bind _ _ (p true) (λ H. q L H))

cont_cases_skip : {d : ℕ} (j : ℕ) (z : Bool) (o : Option ℕ) (A B : Tensor d) (S : Bits) → j < d → S j ≡ true
    → ((k : ℕ) → o ≡ some k → j < k)
    → ((k : ℕ) (x : Bool) → o ≡ some k → (S : Bits) → S j ≡ true
    → ScaledStep two (cont (fix k x A) (fix k x B) (assign j false S)) (cont (fix k x A) (fix k x B) S))
    → ScaledStep two (cont_cases z o cont A B (assign j false S)) (cont_cases z o cont A B S)
unfolding cont_cases
cont_cases_skip {d} j true o A B S p e l h = scaled_answer two _ (sym (scale_zero d two))
cont_cases_skip {d} j false none A B S p e l h =
    rw (members_set d j S p e) (scaled_answer two _ (unfold power2 in double _ _))
cont_cases_skip {d} j false (some k) A B S p e l h =
    let less : j < k = l k refl in
    let other : assign j false S k ≡ S k = assign_other k j false S (λ q. omega arith) in
    let commute : assign k false (assign j false S) ≡ assign j false (assign k false S) = assign_assign k j false false
    S (λ q. omega arith) in
    rw (other, commute)
    (both_scaled (λ A B. cont A B (assign j false (assign k false S))) (λ A B. cont A B (assign k false S)) k A B
    (cond (S k) sum (join k)) (cond (S k) sum (join k))
    (λ x. h k x refl (assign k false S) (assign_other j k false S (λ q. omega arith) ∙ e))
    (λ L H. combine_scaled two two_nonzero k (S k) L H))

pub cont_skip : {d : ℕ} (j : ℕ) → j < d → (A B : Tensor d) (S : Bits) → FreeBelow (suc j) A → FreeBelow (suc j) B
    → S j ≡ true
    → ScaledStep two (cont A B (assign j false S)) (cont A B S)
unfolding cont_body
cont_skip {d} j p = induction2 (λ A B. (S : Bits) → FreeBelow (suc j) A → FreeBelow (suc j) B → S j ≡ true
    → ScaledStep two (cont A B (assign j false S)) (cont A B S))
    (λ A B h S f g e. rw (cont_step A B S, cont_step A B (assign j false S))
    (cont_cases_skip j (is_zero A || is_zero B) (top2 A B) A B S p e (λ k t. (lower_top_lem A B k t).least (suc j) f g)
    (λ k x t S e.
    let less : j < k = (lower_top_lem A B k t).least (suc j) f g in
    h k x t S (free_below_fix_above (suc j) k x A less f) (free_below_fix_above (suc j) k x B less g) e)))

-- cont with a constant, over no index: a scaling, where all that A reaches is in the set

times_weight : {d : ℕ} (b : Weight) (A : Tensor d) → times A (constant d b) ≡ scale b A
unfolding times constant scale
times_weight b (weight w) = ap weight (times_w_comm w b)
times_weight b (split l h) = ap₂ split (times_weight b l) (times_weight b h)

both_plain : {d : ℕ} (rec : Tensor d → Tensor d → Step d) (k : ℕ) (A B : Tensor d)
    (final : Tensor d → Tensor d → Step d) (s : Set d) (L H : Tensor d)
    → rec (fix k false A) (fix k false B) s ≡ (L, s) → rec (fix k true A) (fix k true B) s ≡ (H, s)
    → both rec k A B final s ≡ final L H s
unfolding both ◌>>=◌
both_plain rec k A B final s L H p q = rw (p, q)

-- joining the parts of a tensor that is covered puts nothing in
join_parts : {d : ℕ} (k : ℕ) (b : Weight) → Nonzero b → (A : Tensor d) (s : Set d) → top A ≡ some k → Covers s A
    → join k (scale b (fix k false A)) (scale b (fix k true A)) s ≡ (scale b A, s)
unfolding join join_cases
join_parts k b n A s e c =
    rw (same_scale b (fix k false A) (fix k true A) n, joined_scale k b (fix k false A) (fix k true A), joined_fix k A)
    (go (same (fix k false A) (fix k true A)) refl)
  where
    go : (t : Bool) → same (fix k false A) (fix k true A) ≡ t → join_cases t (scale b A) s ≡ (scale b A, s)
    go true t = absurd (top_depends k A e (same_eq _ _ t))
    go false t = ap (λ x. (scale b A, x)) (rw (normal_scale b A n)
        (put_present (normal A) s (c.is (normal A) (itself k e refl))))

cont_cases_constant : {d : ℕ} (b : Weight) → Nonzero b → (S : Bits) → ((k : ℕ) → S k ≡ false)
    → (s : Set d) (z : Bool) (o : Option ℕ) (A : Tensor d)
    → is_zero A ≡ z → top A ≡ o → Covers s A
    → ((k : ℕ) (x : Bool) → o ≡ some k → Covers s (fix k x A)
    → cont (fix k x A) (constant d b) S s ≡ (scale b (fix k x A), s))
    → cont_cases z o cont A (constant d b) S s ≡ (scale b A, s)
unfolding cont_cases return power2
cont_cases_constant {d} b n S m s true o A p e c h = rw (is_zero_eq A p, scale_zero d b)
cont_cases_constant {d} b n S m s false none A p e c h =
    rw (members_none d S m, times_weight b A) (ap (λ x. (x, s)) (scale_one (scale b A)))
cont_cases_constant {d} b n S m s false (some k) A p e c h =
    let parts : (x : Bool) → cont (fix k x A) (fix k x (constant d b)) S s ≡ (scale b (fix k x A), s) = λ x. rw
    (fix_constant k x d b)
    (h k x refl (record { is = λ y r. c.is y (part k e x r) })) in
    rw (assign_same k S false (m k), m k) (both_plain (λ A B. cont A B S) k A (constant d b) (join k) s _ _
    (parts false) (parts true) ∙ join_parts k b n A s e c)

lower_none : (o : Option ℕ) → lower_top o none ≡ o
lower_none none = refl
lower_none (some k) = refl

top2_constant : {d : ℕ} (A : Tensor d) (b : Weight) → top2 A (constant d b) ≡ top A
unfolding top2
top2_constant {d} A b = rw (top_constant d b) (lower_none (top A))

pub cont_constant : {d : ℕ} (b : Weight) → Nonzero b → (S : Bits) → ((k : ℕ) → S k ≡ false) → (s : Set d) (A : Tensor d)
    → Covers s A
    → cont A (constant d b) S s ≡ (scale b A, s)
unfolding cont_body
cont_constant {d} b n S m s = induction (λ A. Covers s A → cont A (constant d b) S s ≡ (scale b A, s))
    (λ A h c. rw (cont_step A (constant d b) S, zero_constant d b, n.is, top2_constant A b, or-false (is_zero A))
    (cont_cases_constant b n S m s (is_zero A) (top A) A refl refl c h))

pub members_from_at : (k j : ℕ) (S : Bits) → k ≤ j → members_from k S j ≡ S j
unfolding members_from
members_from_at zero j S p = refl
members_from_at (suc k) j S p =
    assign_other j k false (members_from k S) (λ e. omega arith) ∙ members_from_at k j S (omega arith)

-- one index more is counted
pub members_more : (k : ℕ) (S : Bits) → members (suc k) S ≡ cond (S k) (suc (members k S)) (members k S)
unfolding members
members_more zero S = refl
members_more (suc k) S =
    ap (λ n. cond (S 0) (suc n) n) (members_more k (tail S)) ∙ go (S 0) (S (suc k)) (members k (tail S))
  where
    go : (a b : Bool) (n : ℕ)
        → cond a (suc (cond b (suc n) n)) (cond b (suc n) n) ≡ cond b (suc (cond a (suc n) n)) (cond a (suc n) n)
    go true true n = refl
    go true false n = refl
    go false true n = refl
    go false false n = refl

scaled_self : {d : ℕ} (f : Step d) → ScaledStep 1w f f
scaled_self f = record { is = λ s. ap (λ T. (T, (f s).1)) (sym (scale_one (f s).0)) }

pub scaled_trans : {d : ℕ} {a b : Weight} {f g h : Step d} → ScaledStep a f g → ScaledStep b g h
    → ScaledStep (times_w b a) f h
scaled_trans {a = a} {b = b} {f = f} {g = g} {h = h} p q =
    record { is = λ s. q.is s ∙ rw (p.is s) (ap (λ T. (T, (f s).1)) (scale_scale b a (f s).0)) }

pub two_power : (n : ℕ) → times_w (power2 n) two ≡ power2 (suc n)
unfolding two power2
two_power n = times_w_plus (power2 n) 1w 1w ∙ ap₂ plus_w (times_w_comm (power2 n) 1w ∙ times_w_one (power2 n))
    (times_w_comm (power2 n) 1w ∙ times_w_one (power2 n))

pub cont_below : {d : ℕ} (k : ℕ) → k ≤ d → (A B : Tensor d) (S : Bits) → FreeBelow k A → FreeBelow k B
    → ScaledStep (power2 (members k S)) (cont A B (members_from k S)) (cont A B S)
unfolding members_from
cont_below zero p A B S f g = unfold members power2 in scaled_self (cont A B S)
cont_below (suc k) p A B S f g =
    rw (members_more k S)
    (go (S k) refl (cont_below k (omega arith) A B S (free_below_less k (suc k) A (omega arith) f)
    (free_below_less k (suc k) B (omega arith) g)))
  where
    go : (b : Bool) → S k ≡ b → ScaledStep (power2 (members k S)) (cont A B (members_from k S)) (cont A B S)
        → ScaledStep (power2 (cond b (suc (members k S)) (members k S))) (cont A B (assign k false (members_from k S)))
        (cont A B S)
    go false e h = rw (assign_same k (members_from k S) false (members_from_at k k S (omega arith) ∙ e)) h
    go true e h = rw (← two_power (members k S)) (scaled_trans
        (cont_skip k p A B (members_from k S) f g (members_from_at k k S (omega arith) ∙ e)) h)
