-- Laws of sum_over: adding over a set of indices.
use Rattle.std.specs.Prelude.{◌≡◌, Bool, true, false, cond, ℕ, zero, suc, ◌≤◌, ◌<◌}
use Rattle.std.proofs.Math.Path.{refl, ap₂, sym}
use Rattle.std.proofs.Common.{ap, ◌∙◌, suc-le-suc, arith, not-suc-le-zero, le_of_suc-le-suc}
use Rattle.std.proofs.Math.Decide.{ℕ_discrete}
use Rattle.field.specs.Weight.{Weight, 0w, plus_w, times_w}
use Rattle.field.specs.RingLaws.{times_w_comm, times_w_plus}
use Rattle.diagram.specs.Tensor.{Tensor, weight, split, Bits, tail, constant, scale, plus, at, fix, joined}
use Rattle.diagram.specs.Tensor.{assign, members, power2}
use Rattle.diagram.specs.TensorLaws.{scale_one, at_fix}
use Rattle.diagram.specs.TestLaws.{branch_same, branch_ap}
use Rattle.diagram.specs.TensorRingLaws.{plus_medial, zero_plus, joined_plus, at_plus, fix_plus}
use Rattle.diagram.specs.TopLaws.{free_below_plus}
use Rattle.diagram.specs.Top.{FreeBelow}
use Rattle.diagram.specs.TensorBitsLaws.{assign_same, assign_at, assign_other, assign_twice}
use Rattle.diagram.specs.SumOver.{settings, sum_over, add_or_keep}

from_level : {d : ℕ} (k : ℕ) (b : Bool) (l h : Tensor d) → l ≡ h → FreeBelow k l → FreeBelow (suc k) (add_or_keep b l h)
unfolding add_or_keep
from_level k false l h e f = (e, f)
from_level k true l h e f = (refl, free_below_plus k l h f (rw e at f))

pub free_below_over : {d : ℕ} (k : ℕ) (S : Bits) (T : Tensor d) → FreeBelow k T → FreeBelow k (sum_over S T)
unfolding sum_over
free_below_over zero S T f = tt
free_below_over (suc k) S (weight w) f = tt
free_below_over (suc k) S (split l h) f =
    from_level k (S 0) _ _ (ap (sum_over (tail S)) f.0) (free_below_over k (tail S) l f.1)

plus_w_times : (a b c : Weight) → times_w (plus_w a b) c ≡ plus_w (times_w a c) (times_w b c)
plus_w_times a b c = times_w_comm (plus_w a b) c ∙ times_w_plus c a b ∙ ap₂ plus_w (times_w_comm c a) (times_w_comm c b)

pub plus_scale : {d : ℕ} (a b : Weight) (T : Tensor d) → plus (scale a T) (scale b T) ≡ scale (plus_w a b) T
unfolding plus scale
plus_scale a b (weight w) = ap weight (sym (plus_w_times a b w))
plus_scale a b (split l h) = ap₂ split (plus_scale a b l) (plus_scale a b h)

level_plus : {d : ℕ} (b : Bool) (l h l' h' : Tensor d)
    → add_or_keep b (plus l l') (plus h h') ≡ plus (add_or_keep b l h) (add_or_keep b l' h')
unfolding add_or_keep plus
level_plus false l h l' h' = refl
level_plus true l h l' h' = let e = plus_medial l l' h h' in ap₂ split e e

level_joined : {d : ℕ} (b : Bool) (k : ℕ) (l h l' h' : Tensor d)
    → add_or_keep b (joined k l l') (joined k h h') ≡ joined (suc k) (add_or_keep b l h) (add_or_keep b l' h')
unfolding add_or_keep joined
level_joined false k l h l' h' = refl
level_joined true k l h l' h' = let e = sym (joined_plus k l h l' h') in ap₂ split e e

pub sum_over_zero : (d : ℕ) (S : Bits) → sum_over S (constant d 0w) ≡ constant d 0w
unfolding sum_over constant add_or_keep
sum_over_zero zero S = refl
sum_over_zero (suc d) S = rw (sum_over_zero d (tail S)) (go (S 0))
  where
    go : (b : Bool) → add_or_keep b (constant d 0w) (constant d 0w) ≡ split (constant d 0w) (constant d 0w)
    go false = refl
    go true = let e = zero_plus (constant d 0w) in ap₂ split e e

-- a constant, added over S, is that constant times 2 to the count of members
pub sum_over_constant : (d : ℕ) (S : Bits) (w : Weight)
    → sum_over S (constant d w) ≡ scale (power2 (members d S)) (constant d w)
unfolding sum_over constant members power2 add_or_keep scale
sum_over_constant zero S w = sym (scale_one (weight w))
sum_over_constant (suc d) S w = rw (sum_over_constant d (tail S) w) (go (S 0))
  where
    go : (b : Bool)
        → add_or_keep b (scale (power2 (members d (tail S))) (constant d w))
        (scale (power2 (members d (tail S))) (constant d w))
        ≡ scale (power2 (cond b (suc (members d (tail S))) (members d (tail S)))) (split (constant d w) (constant d w))
    go false = refl
    go true =
        let e = plus_scale (power2 (members d (tail S))) (power2 (members d (tail S))) (constant d w) in ap₂ split e e

-- adding over one index first
pub sum_over_in : {d : ℕ} (k : ℕ) (S : Bits) (T : Tensor d) → k < d → S k ≡ true
    → plus (sum_over (assign k false S) (fix k false T)) (sum_over (assign k false S) (fix k true T)) ≡ sum_over S T
unfolding sum_over fix assign
sum_over_in k S (weight w) p e = absurd (not-suc-le-zero p)
sum_over_in zero S (split l h) p e = rw e (unfold add_or_keep plus in refl)
sum_over_in (suc k) S (split l h) p e =
    sym (level_plus (S 0) _ _ _ _) ∙ ap₂ (add_or_keep (S 0)) (sum_over_in k (tail S) l (le_of_suc-le-suc p) e)
    (sum_over_in k (tail S) h (le_of_suc-le-suc p) e)

-- an index that is not added over
pub sum_over_out : {d : ℕ} (k : ℕ) (S : Bits) (T : Tensor d) → S k ≡ false
    → joined k (sum_over S (fix k false T)) (sum_over S (fix k true T)) ≡ sum_over S T
unfolding sum_over fix
sum_over_out k S (weight w) e = unfold joined in refl
sum_over_out zero S (split l h) e = rw e (unfold add_or_keep joined in refl)
sum_over_out (suc k) S (split l h) e =
    sym (level_joined (S 0) k _ _ _ _)
    ∙ ap₂ (add_or_keep (S 0)) (sum_over_out k (tail S) l e) (sum_over_out k (tail S) h e)

-- fixing an index

fix_level : {d : ℕ} (k : ℕ) (b c : Bool) (l h : Tensor d)
    → fix (suc k) b (add_or_keep c l h) ≡ add_or_keep c (fix k b l) (fix k b h)
unfolding fix add_or_keep
fix_level k b true l h = let e = fix_plus k b l h in ap₂ split e e
fix_level k b false l h = refl

-- what is added over an index does not depend on it
pub fix_over_in : {d : ℕ} (k : ℕ) (b : Bool) (S : Bits) (T : Tensor d) → k < d → S k ≡ true
    → fix k b (sum_over S T) ≡ sum_over S T
unfolding sum_over
fix_over_in k b S (weight w) p e = absurd (not-suc-le-zero p)
fix_over_in zero b S (split l h) p e = rw e (unfold fix add_or_keep in let q = branch_same b
    (plus (sum_over (tail S) l) (sum_over (tail S) h)) in ap₂ split q q)
fix_over_in (suc k) b S (split l h) p e =
    fix_level k b (S 0) _ _
    ∙ ap₂ (add_or_keep (S 0)) (fix_over_in k b (tail S) l (le_of_suc-le-suc p) e)
    (fix_over_in k b (tail S) h (le_of_suc-le-suc p) e)

pub fix_over_out : {d : ℕ} (k : ℕ) (b : Bool) (S : Bits) (T : Tensor d) → S k ≡ false
    → fix k b (sum_over S T) ≡ sum_over S (fix k b T)
unfolding sum_over fix
fix_over_out k b S (weight w) e = refl
fix_over_out zero b S (split l h) e =
    rw e (unfold add_or_keep in let q = sym (branch_ap (sum_over (tail S)) b l h) in ap₂ split q q)
fix_over_out (suc k) b S (split l h) e =
    fix_level k b (S 0) _ _ ∙ ap₂ (add_or_keep (S 0)) (fix_over_out k b (tail S) l e) (fix_over_out k b (tail S) h e)

-- the members of S below n
only : ℕ → Bits → Bits
only zero S = λ k. false
only (suc n) S = assign n (S n) (only n S)

only_none : (n k : ℕ) (S : Bits) → n ≤ k → only n S k ≡ false
unfolding only
only_none zero k S p = refl
only_none (suc n) k S p = assign_other k n (S n) (only n S) (λ e. omega arith) ∙ only_none n k S (omega arith)

only_some : (n k : ℕ) (S : Bits) → k < n → only n S k ≡ S k
unfolding only
only_some zero k S p = absurd (not-suc-le-zero p)
only_some (suc n) k S p =
    elim (ℕ_discrete k n) [
      | yes e ↦ rw e (assign_at n (S n) (only n S))
      | no e ↦ assign_other k n (S n) (only n S) e
          ∙ only_some n k S (omega arith)
    ]

over_agree : {d : ℕ} (S S' : Bits) (T : Tensor d) → ((k : ℕ) → k < d → S k ≡ S' k) → sum_over S T ≡ sum_over S' T
unfolding sum_over
over_agree S S' (weight w) e = refl
over_agree {d = suc d} S S' (split l h) e =
    rw (
      e 0 (omega arith),
      over_agree (tail S) (tail S') l (λ k p. e (suc k) (suc-le-suc p)),
      over_agree (tail S)
          (tail S') h (λ k p. e (suc k) (suc-le-suc p)),
    )

over_none : {d : ℕ} (T : Tensor d) → sum_over (λ k. false) T ≡ T
unfolding sum_over add_or_keep
over_none (weight w) = refl
over_none (split l h) = ap₂ split (over_none l) (over_none h)

settings_over : {d : ℕ} (n : ℕ) → n ≤ d → (S : Bits) (T : Tensor d) (f : Bits)
    → at (sum_over (only n S) T) f ≡ settings n S (at T) f
unfolding settings only
settings_over zero p S T f = ap (λ X. at X f) (over_none T)
settings_over (suc n) p S T f = go (S n) (settings_over n (omega arith) S T)
  where
    rest : only n S n ≡ false
    rest = only_none n n S (omega arith)

    in_part : (b : Bool) → at (sum_over (only n S) (fix n b T)) f ≡ at (sum_over (only n S) T) (assign n b f)
    in_part b = ap (λ X. at X f) (sym (fix_over_out n b (only n S) T rest)) ∙ at_fix n b (sum_over (only n S) T) f

    go : (b : Bool) → ((f : Bits) → at (sum_over (only n S) T) f ≡ settings n S (at T) f)
        → at (sum_over (assign n b (only n S)) T) f
        ≡ cond b (plus_w (settings n S (at T) (assign n false f)) (settings n S (at T) (assign n true f)))
        (settings n S (at T) f)
    go false ih = rw (assign_same n (only n S) false rest) (ih f)
    go true ih =
        ap (λ X. at X f) (sym (sum_over_in n (assign n true (only n S)) T p (assign_at n true (only n S))))
        ∙ rw (assign_twice n false true (only n S), assign_same n (only n S) false rest)
        (at_plus _ _ f ∙ ap₂ plus_w (in_part false ∙ ih (assign n false f)) (in_part true ∙ ih (assign n true f)))

-- adding over S is, at each assignment, the sum over all settings of S
pub at_sum_over : {d : ℕ} (S : Bits) (T : Tensor d) (f : Bits) → at (sum_over S T) f ≡ settings d S (at T) f
at_sum_over {d} S T f =
    ap (λ X. at X f) (over_agree S (only d S) T (λ k p. sym (only_some d k S p))) ∙ settings_over d (omega arith) S T f
