-- What the tally's set always is: only normal tensors, none twice, and so none a multiple of another.
use Rattle.std.specs.Prelude.{◌≡◌, Bool, cond, ◌||◌, ℕ, zero, suc, ◌<◌, length, get_or}
use Rattle.std.proofs.Math.Path.{refl}
use Rattle.std.proofs.Common.{ap, sym, ◌∙◌, true≢false, not-suc-le-zero, le_of_suc-le-suc}
use Rattle.std.proofs.Math.Bool.{true, false}
use mathlib.Core.List.{[], ◌∷◌}
use Rattle.field.specs.Weight.{Weight, 0w, 1w}
use Rattle.field.specs.RingLaws.{not_zero, one_nonzero, nonzero_not}
use Rattle.diagram.specs.Tensor.{Tensor, Normal, same, scale, first}
use Rattle.diagram.specs.TensorLaws.{scale_one, zero_scale, first_constant}
use Rattle.diagram.specs.TensorScaleLaws.{unique_tensor}
use Rattle.diagram.specs.Tally.{Set, Step, member, keep_only, collect, keeps}
use Rattle.diagram.specs.Sets.{Distinct, AllNormal, NormalSet}
use Rattle.diagram.specs.SetsLaws.{member_at}
use Rattle.diagram.specs.TallyStepLaws.{writes_distinct, writes_normal}
use Rattle.diagram.specs.TallyStep.{Writes}

pub normal_set_empty : {d : ℕ} → NormalSet {d = d} []
normal_set_empty = record { distinct = tt; normal = tt }

-- after join, sum, cont, low and build, which all are such steps
pub normal_set_step : {d : ℕ} {T : Tensor d} {f : Step d} (s : Set d) → Writes T f → NormalSet s → NormalSet (f s).1
normal_set_step s w c = record { distinct = writes_distinct w s c.distinct; normal = writes_normal w s c.normal }

-- after collect

module _ {d : ℕ} (l : Set d) where
  absent : (x : Tensor d) (s : Set d) → member x s ≡ false → member x (keep_only l s) ≡ false
  unfolding member keep_only
  absent x [] e = refl
  absent x (y ∷ s) e = go (member y l) (same x y) refl e (absent x s)
    where
      go : (b c : Bool) → same x y ≡ c → (c || member x s) ≡ false
          → (member x s ≡ false → member x (keep_only l s) ≡ false)
          → member x (cond b (y ∷ keep_only l s) (keep_only l s)) ≡ false
      go b true q e ih = absurd (true≢false e)
      go true false q e ih = rw q (ih e)
      go false false q e ih = ih e

  distinct_keep_only : (s : Set d) → Distinct s → Distinct (keep_only l s)
  unfolding keep_only
  distinct_keep_only [] p = tt
  distinct_keep_only (x ∷ s) p = go (member x l) (distinct_keep_only s p.1)
    where
      go : (b : Bool) → Distinct (keep_only l s) → Distinct (cond b (x ∷ keep_only l s) (keep_only l s))
      go true h = (absent x s p.0, h)
      go false h = h

  normal_keep_only : (s : Set d) → AllNormal s → AllNormal (keep_only l s)
  unfolding keep_only
  normal_keep_only [] p = tt
  normal_keep_only (x ∷ s) p = go (member x l) (normal_keep_only s p.1)
    where
      go : (b : Bool) → AllNormal (keep_only l s) → AllNormal (cond b (x ∷ keep_only l s) (keep_only l s))
      go true h = (p.0, h)
      go false h = h

pub normal_set_collect : {d : ℕ} (filled s : Set d) → NormalSet s → NormalSet (collect filled s)
unfolding collect
normal_set_collect {d} filled s c =
    record {
      distinct = distinct_keep_only (keeps d filled) s c.distinct;
      normal = normal_keep_only (keeps d filled) s c.normal;
    }

-- no tensor of the set is a multiple of another

distinct_at : {d : ℕ} (s : Set d) (i j : ℕ) (z : Tensor d) → Distinct s → i < length s → j < length s
    → get_or s i z ≡ get_or s j z → i ≡ j
distinct_at [] i j z p a b e = absurd (not-suc-le-zero a)
distinct_at (x ∷ s) zero zero z p a b e = refl
distinct_at (x ∷ s) zero (suc j) z p a b e =
    absurd (true≢false (sym (rw e (member_at (get_or s j z) s j z (le_of_suc-le-suc b) refl)) ∙ p.0))
distinct_at (x ∷ s) (suc i) zero z p a b e =
    absurd (true≢false (sym (rw (← e) (member_at (get_or s i z) s i z (le_of_suc-le-suc a) refl)) ∙ p.0))
distinct_at (x ∷ s) (suc i) (suc j) z p a b e =
    ap suc (distinct_at s i j z p.1 (le_of_suc-le-suc a) (le_of_suc-le-suc b) e)

normal_at_lem : {d : ℕ} (s : Set d) (i : ℕ) (z : Tensor d) → AllNormal s → i < length s → Normal (get_or s i z)
normal_at_lem [] i z p a = absurd (not-suc-le-zero a)
normal_at_lem (x ∷ s) zero z p a = p.0
normal_at_lem (x ∷ s) (suc i) z p a = normal_at_lem s i z p.1 (le_of_suc-le-suc a)

pub normal_set_apart : {d : ℕ} (s : Set d) → NormalSet s → (i j : ℕ) (z : Tensor d) (c : Weight) → i < length s
    → j < length s
    → get_or s i z ≡ scale c (get_or s j z) → i ≡ j
normal_set_apart {d} s k i j z c a b e =
    distinct_at s i j z k.distinct a b (unique_tensor 1w c x y one_nonzero (not_zero c zero) nx.one ny.one
    (scale_one x ∙ e))
  where
    x : Tensor d
    x = get_or s i z

    y : Tensor d
    y = get_or s j z

    nx : Normal x
    nx = normal_at_lem s i z k.normal a

    ny : Normal y
    ny = normal_at_lem s j z k.normal b

    zero : c ≡ 0w → ⊥
    zero q = nonzero_not one_nonzero (sym nx.one ∙ ap first (e ∙ ap (λ w. scale w y) q ∙ zero_scale y)
        ∙ first_constant d 0w)
