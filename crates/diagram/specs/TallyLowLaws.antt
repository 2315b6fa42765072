-- Laws of the tally's low: one step, meaning.
use Rattle.std.specs.Prelude.{◌≡◌, refl, Bool, true, false, ℕ, suc, ◌-◌, ◌≤◌, ◌<◌, ltb, eqb}
use Rattle.std.proofs.Common.{ap, ap₂, sym, ◌∙◌, arith, le_refl, ltb-true, ltb-false, eqb-true}
use Rattle.std.proofs.Math.Option.{Option, none, some}
use Rattle.std.proofs.lemmas.Bool.{eqb-false}
use Rattle.field.specs.Weight.{0w}
use Rattle.diagram.specs.Tensor.{Tensor, Bits, branch, at, constant, top, fix, joined, assign, rename_down}
use Rattle.diagram.specs.TensorLaws.{at_joined, at_fix, fix_fix, fix_joined_other, joined_fix, joined_self}
use Rattle.diagram.specs.TestLaws.{branch_ap}
use Rattle.diagram.specs.TopLaws.{free_below_fix, free_below_less, free_below_fix_above, free_below_joined}
use Rattle.diagram.specs.TopLaws.{free_below_top, fix_free_below, top_is, top_inside, top_depends}
use Rattle.diagram.specs.Top.{FreeBelow, Free}
use Rattle.diagram.specs.TopLaws.{on_top_step, induction}
use Rattle.diagram.specs.TopFreeLaws.{free_fix}
use Rattle.diagram.specs.Tally.{Set, Unary, return, join, low_at, low_cases, low_body, low}
use Rattle.diagram.specs.TallyStepLaws.{writes_return, writes_as, writes_join, writes_answer}
use Rattle.diagram.specs.TallyStep.{Writes}
use Rattle.diagram.specs.TallyBuildLaws.{halves_local, writes_halves}

-- low

low_at_local : {d : ℕ} (k : ℕ) (a e : Bool) (t : ℕ) (rec rec' : Unary d) (A : Tensor d)
    → ((b : Bool) → rec (fix t b A) ≡ rec' (fix t b A))
    → low_at k a e t rec A ≡ low_at k a e t rec' A
unfolding low_at
low_at_local k true e t rec rec' A h = refl
low_at_local k false true t rec rec' A h = refl
low_at_local k false false t rec rec' A h = halves_local rec rec' t A (join t) (h false) (h true)

low_cases_local : {d : ℕ} (k : ℕ) (o : Option ℕ) (rec rec' : Unary d) (A : Tensor d)
    → ((t : ℕ) (b : Bool) → o ≡ some t → rec (fix t b A) ≡ rec' (fix t b A))
    → low_cases k o rec A ≡ low_cases k o rec' A
unfolding low_cases
low_cases_local k none rec rec' A h = refl
low_cases_local k (some t) rec rec' A h = low_at_local k _ _ t rec rec' A (λ b. h t b refl)

pub low_step : {d : ℕ} (k : ℕ) (A : Tensor d) → low k A ≡ low_body k (low k) A
unfolding low low_body
low_step {d} k A =
    on_top_step (return (constant d 0w)) (low_body k) (λ rec rec' A h. low_cases_local k (top A) rec rec' A h) A

branch_bool : (b : Bool) → branch b false true ≡ b
branch_bool true = refl
branch_bool false = refl

-- the renaming: at each assignment, the value where index k has what index k - 1 has
pub rename_down_at : {d : ℕ} (k : ℕ) (A : Tensor d) (f : Bits) → k - 1 < d
    → at (rename_down k A) f ≡ at A (assign k (f (k - 1)) f)
unfolding rename_down
rename_down_at k A f p =
    at_joined (k - 1) _ _ f p
    ∙ rw (at_fix, at_fix)
    (sym (branch_ap (λ b. at A (assign k b f)) (f (k - 1)) false true)
    ∙ ap (λ b. at A (assign k b f)) (branch_bool (f (k - 1))))

lowered_fix : {d : ℕ} (t k : ℕ) (b : Bool) (A : Tensor d) → t < k - 1
    → fix t b (rename_down k A) ≡ rename_down k (fix t b A)
unfolding rename_down
lowered_fix t k b A p =
    fix_joined_other t (k - 1) b _ _ (λ e. omega arith)
    ∙ ap₂ (joined (k - 1)) (fix_fix t k b false A (λ e. omega arith)) (fix_fix t k b true A (λ e. omega arith))

lowered_from : {d : ℕ} (k : ℕ) (A : Tensor d) → FreeBelow (suc k) A → rename_down k A ≡ A
unfolding rename_down
lowered_from k A f =
    ap₂ (joined (k - 1)) (fix_free_below k false A f) (fix_free_below k true A f) ∙ joined_self (k - 1) A

pub rename_down_part : {d : ℕ} (t k : ℕ) (b : Bool) (A : Tensor d) → t < k - 1 → FreeBelow t A
    → FreeBelow (suc t) (rename_down k (fix t b A))
unfolding rename_down
rename_down_part t k b A p f =
    let g = free_below_fix t b A f in
    let part : (x : Bool) → FreeBelow (suc t) (fix k x (fix t b A)) = λ x. free_below_fix_above (suc t) k x (fix t b A)
    (omega arith) g in
    free_below_joined (suc t) (k - 1) _ _ p (part false) (part true)

lowered_here : {d : ℕ} (k : ℕ) (A : Tensor d) → 1 ≤ k → k < d → FreeBelow k A
    → Writes (rename_down k A) (join (k - 1) (fix k false A) (fix k true A))
unfolding rename_down
lowered_here k A o p f =
    let after : suc (k - 1) ≡ k = omega arith in
    let part : (b : Bool) → FreeBelow (suc (k - 1)) (fix k b A) = λ b. rw after
    (free_below_fix_above k k b A (le_refl k) f) in
    writes_join (k - 1) (fix k false A) (fix k true A) (omega arith) (part false) (part true)

low_at_writes : {d : ℕ} (k : ℕ) (a e : Bool) (t : ℕ) (A : Tensor d) → 1 ≤ k → k < d → Free (k - 1) A → top A ≡ some t
    → ltb k t ≡ a → eqb t k ≡ e
    → ((b : Bool) → Free (k - 1) (fix t b A) → Writes (rename_down k (fix t b A)) (low k (fix t b A)))
    → Writes (rename_down k A) (low_at k a e t (low k) A)
unfolding low_at
low_at_writes k true e t A o p f q u v h =
    rw (lowered_from k A (free_below_less (suc k) t A (ltb-true k t u) (top_is t A q))) (writes_return A)
low_at_writes k false true t A o p f q u v h =
    let same : t ≡ k = eqb-true t k v in rw same (lowered_here k A o p (top_is k A (q ∙ ap some same)))
low_at_writes k false false t A o p f q u v h =
    let most = ltb-false k t u in
    let other = eqb-false t k v in
    let other' : t ≡ k - 1 → ⊥ = λ e. top_depends (k - 1) A (q ∙ ap some e) f.is in
    let below : t < k - 1 = omega (arith, other, other') in
    let above : k - 1 ≡ t → ⊥ = λ e. other' (sym e) in
    writes_halves (low k) t A (join t) (h false (free_fix (k - 1) t false A above f))
    (h true (free_fix (k - 1) t true A above f))
    (writes_as (ap₂ (joined t) (sym (lowered_fix t k false A below)) (sym (lowered_fix t k true A below))
    ∙ joined_fix t (rename_down k A))
    (writes_join t _ _ (top_inside t A q) (rename_down_part t k false A below (top_is t A q))
    (rename_down_part t k true A below (top_is t A q))))

low_cases_writes : {d : ℕ} (k : ℕ) (o : Option ℕ) (A : Tensor d) → 1 ≤ k → k < d → Free (k - 1) A → top A ≡ o
    → ((t : ℕ) (b : Bool) → o ≡ some t → Free (k - 1) (fix t b A)
    → Writes (rename_down k (fix t b A)) (low k (fix t b A)))
    → Writes (rename_down k A) (low_cases k o (low k) A)
unfolding low_cases
low_cases_writes k none A n p f e h = rw (lowered_from k A (free_below_top (suc k) A (rw e tt))) (writes_return A)
low_cases_writes k (some t) A n p f e h = low_at_writes k _ _ t A n p f e refl refl (λ b. h t b refl)

pub low_writes : {d : ℕ} (k : ℕ) → 1 ≤ k → k < d → (A : Tensor d) → Free (k - 1) A → Writes (rename_down k A) (low k A)
unfolding low_body
low_writes k n p = induction (λ A. Free (k - 1) A → Writes (rename_down k A) (low k A))
    (λ A h f. rw (low_step k A) (low_cases_writes k (top A) A n p f refl h))

pub low_meaning : {d : ℕ} (k : ℕ) (A : Tensor d) → 1 ≤ k → k < d → Free (k - 1) A → (s : Set d)
    → (low k A s).0 ≡ rename_down k A
low_meaning k A n p f s = writes_answer (low_writes k n p A f) s
