-- Laws of the tally's sum: one step, meaning, growth, scaling.
use Rattle.std.specs.Prelude.{◌≡◌, refl, Bool, true, false, ℕ, suc}
use Rattle.std.proofs.Common.{ap₂, ◌∙◌}
use Rattle.std.proofs.Math.Option.{Option, none, some}
use Rattle.field.specs.Weight.{Weight, 0w, Nonzero}
use Rattle.diagram.specs.Tensor.{Tensor, constant, is_zero, scale, plus, top2, fix, joined, multiple}
use Rattle.diagram.specs.TensorLaws.{is_zero_eq, joined_fix}
use Rattle.diagram.specs.TensorRingLaws.{zero_plus, plus_zero, joined_plus, scale_plus}
use Rattle.diagram.specs.TopLaws.{free_below_fix, free_below_plus, lower_top_lem, on_top2_step, induction2}
use Rattle.diagram.specs.Descend.{Local2}
use Rattle.diagram.specs.Top.{FreeBelow}
use Rattle.diagram.specs.TensorScaleLaws.{is_zero_scale, multiple_scale, top2_scale}
use Rattle.diagram.specs.Tally.{Set, Binary, return, ◌>>=◌, join, both, sum_cases, sum_body, sum}
use Rattle.diagram.specs.Sets.{PrefixOf}
use Rattle.diagram.specs.TallyStepLaws.{writes_return, writes_as, writes_join, writes_both, writes_answer}
use Rattle.diagram.specs.TallyStepLaws.{writes_grows}
use Rattle.diagram.specs.TallyStep.{Writes, ScaledStep}
use Rattle.diagram.specs.TallyStepLaws.{scaled_return, scaled_both, scaled_join}

-- one step

pub both_local : {d : ℕ} (rec rec' : Binary d) (k : ℕ) (A B : Tensor d) (final : Binary d)
    → rec (fix k false A) (fix k false B) ≡ rec' (fix k false A) (fix k false B)
    → rec (fix k true A) (fix k true B) ≡ rec' (fix k true A) (fix k true B)
    → both rec k A B final ≡ both rec' k A B final
unfolding both
both_local rec rec' k A B final p q = ap₂ (λ f g. f >>= (λ L. g >>= (λ H. final L H))) p q

sum_cases_local : {d : ℕ} (z b m : Bool) (o : Option ℕ) (rec rec' : Binary d) (A B : Tensor d)
    → ((k : ℕ) (x : Bool) → o ≡ some k → rec (fix k x A) (fix k x B) ≡ rec' (fix k x A) (fix k x B))
    → sum_cases z b m o rec A B ≡ sum_cases z b m o rec' A B
unfolding sum_cases
sum_cases_local true b m o rec rec' A B h = refl
sum_cases_local false true m o rec rec' A B h = refl
sum_cases_local false false true o rec rec' A B h = refl
sum_cases_local false false false none rec rec' A B h = refl
sum_cases_local false false false (some k) rec rec' A B h =
    both_local rec rec' k A B (join k) (h k false refl) (h k true refl)

sum_local : {d : ℕ} → Local2 {d = d} sum_body
unfolding sum_body
sum_local rec rec' A B h = sum_cases_local (is_zero A) (is_zero B) (multiple A B) (top2 A B) rec rec' A B h

pub sum_step : {d : ℕ} (A B : Tensor d) → sum A B ≡ sum_body sum A B
unfolding sum
sum_step {d} A B = on_top2_step (return (constant d 0w)) sum_body sum_local A B

-- meaning and growth

pub joined_parts : {d : ℕ} (k : ℕ) (A B : Tensor d)
    → joined k (plus (fix k false A) (fix k false B)) (plus (fix k true A) (fix k true B)) ≡ plus A B
joined_parts k A B = joined_plus k _ _ _ _ ∙ ap₂ plus (joined_fix k A) (joined_fix k B)

sum_cases_writes : {d : ℕ} (z b m : Bool) (o : Option ℕ) (A B : Tensor d) → is_zero A ≡ z → is_zero B ≡ b → top2 A B ≡ o
    → ((k : ℕ) (x : Bool) → o ≡ some k → Writes (plus (fix k x A) (fix k x B)) (sum (fix k x A) (fix k x B)))
    → Writes (plus A B) (sum_cases z b m o sum A B)
unfolding sum_cases
sum_cases_writes true b m o A B p q e h = rw (is_zero_eq A p, zero_plus B) (writes_return B)
sum_cases_writes false true m o A B p q e h = rw (is_zero_eq B q, plus_zero A) (writes_return A)
sum_cases_writes false false true o A B p q e h = writes_return (plus A B)
sum_cases_writes false false false none A B p q e h = writes_return (plus A B)
sum_cases_writes false false false (some k) A B p q e h =
    let o = lower_top_lem A B k e in
    let from : (x : Bool) → FreeBelow (suc k) (plus (fix k x A) (fix k x B)) = λ x. free_below_plus (suc k) _ _
    (free_below_fix k x A o.left) (free_below_fix k x B o.right) in
    writes_both sum k A B (join k) (h k false refl) (h k true refl)
    (writes_as (joined_parts k A B) (writes_join k _ _ o.inside (from false) (from true)))

pub sum_writes : {d : ℕ} (A B : Tensor d) → Writes (plus A B) (sum A B)
unfolding sum_body
sum_writes = induction2 (λ A B. Writes (plus A B) (sum A B))
    (λ A B h. rw (sum_step A B) (sum_cases_writes (is_zero A) (is_zero B) (multiple A B) (top2 A B) A B refl refl refl
    h))

pub sum_meaning : {d : ℕ} (A B : Tensor d) (s : Set d) → (sum A B s).0 ≡ plus A B
sum_meaning A B s = writes_answer (sum_writes A B) s

pub sum_grows : {d : ℕ} (A B : Tensor d) (s : Set d) → PrefixOf s (sum A B s).1
sum_grows A B s = writes_grows (sum_writes A B) s

-- scaling

sum_cases_scaled : {d : ℕ} (c : Weight) → Nonzero c → (z b m : Bool) (o : Option ℕ) (A B : Tensor d)
    → ((k : ℕ) (x : Bool) → o ≡ some k → ScaledStep c (sum (fix k x A) (fix k x B))
    (sum (scale c (fix k x A)) (scale c (fix k x B))))
    → ScaledStep c (sum_cases z b m o sum A B) (sum_cases z b m o sum (scale c A) (scale c B))
unfolding sum_cases
sum_cases_scaled c n true b m o A B h = scaled_return c B
sum_cases_scaled c n false true m o A B h = scaled_return c A
sum_cases_scaled c n false false true o A B h = rw (← scale_plus) (scaled_return c (plus A B))
sum_cases_scaled c n false false false none A B h = rw (← scale_plus) (scaled_return c (plus A B))
sum_cases_scaled c n false false false (some k) A B h =
    scaled_both c c sum sum k A B (join k) (join k) (λ x. h k x refl) (λ L H. scaled_join c k L H n)

pub sum_scaled : {d : ℕ} (c : Weight) → Nonzero c → (A B : Tensor d)
    → ScaledStep c (sum A B) (sum (scale c A) (scale c B))
unfolding sum_body
sum_scaled c n = induction2 (λ A B. ScaledStep c (sum A B) (sum (scale c A) (scale c B)))
    (λ A B h. rw (
      sum_step A B,
      sum_step (scale c A) (scale c B),
      is_zero_scale c A n,
      is_zero_scale c B n,
      multiple_scale
          c c A B n n,
      top2_scale c c A B n n,
    )
    (sum_cases_scaled c n (is_zero A) (is_zero B) (multiple A B) (top2 A B) A B h))
