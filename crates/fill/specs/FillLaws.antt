-- A leaf, a pair of leaves, and one pair more.
use Rattle.std.specs.Prelude.{false, ◌≡◌, refl, ℕ, ◌<◌, Result, Ok, Err, is_err, MatchResult}
use Rattle.std.proofs.Common.{ap, sym, subst, ◌∙◌, arith}
use Rattle.diagram.specs.Weights.{modulus}
use Rattle.diagram.specs.Tensor.{index_count, indices, Tensor}
use Rattle.diagram.specs.Tally.{Step}
use Rattle.diagram.specs.Store.{set_of}
use Rattle.diagram.specs.Diagram.{IsSound, tensor, Joinable, KeepsCache, Does}
use Rattle.diagram.specs.Top.{FreeBelow}
use Rattle.diagram.specs.TopLaws.{free_below_constant, free_below_joined}
use Rattle.diagram.specs.SetsLaws.{prefix_trans}
use Rattle.diagram.specs.TallyStepLaws.{join_meaning}
use Rattle.diagram.specs.MeaningLaws.{valid_more}
use Rattle.diagram.specs.StoreLaws.{tensor_kept, kept_after, refines_count}
use Rattle.diagram.specs.BuildLaws.{constant_valid, constant_tensor}
use Rattle.diagram.specs.CacheLaws.{remembers_more, remembers_nothing}
use Rattle.diagram.specs.Restore.{RollbackRequires, RollbackEnsures}
use Rattle.diagram.specs.RestoreLaws.{rollback_of}
use Rattle.diagram.specs.declared.node.Edge.{Edge}
use Rattle.diagram.specs.declared.diagram.Diagram.{Diagram}
use Rattle.diagram.specs.declared.diagram.Full.{Full}
use Rattle.fill.specs.Fill.{FillInvariant, constant_edge, LeafEnsures, NodesGrown, NodesSame, PairEnsures}

-- a leaf joins two constants

pub leaf_joinable : (d : Diagram) {w : ℕ} → IsSound d → w < modulus → Joinable d 23 (constant_edge 1) (constant_edge w)
leaf_joinable d {w} h p =
    record {
      inside = omega arith;
      low = constant_valid (omega arith);
      high = constant_valid p;
      from_low = rw (constant_tensor 1 h) (free_below_constant index_count indices _);
      from_high = rw (constant_tensor w h) (free_below_constant index_count indices _);
    }

leaf_from : (d d' : Diagram) {e : Edge} (w : ℕ) → IsSound d → LeafEnsures d d' w (Ok e) → FreeBelow 23 (tensor d' e)
leaf_from d d' w h r =
    let L : Tensor indices = tensor d (constant_edge 1) in
    let H : Tensor indices = tensor d (constant_edge w) in
    subst (FreeBelow 23) (sym (ap (λ r. r.0) (sym r.is) ∙ join_meaning 23 L H (set_of d.store.now d.state)))
    (free_below_joined 23 23 L H (omega arith) (rw (constant_tensor 1 h) (free_below_constant 23 indices _))
    (rw (constant_tensor w h) (free_below_constant 23 indices _)))

-- a pair: two leaves and their join, of which each may not fit

module _ (d d₁ d₂ : Diagram) (a : ℕ) {l : Edge} (first : LeafEnsures d d₁ a (Ok l)) (b : ℕ) where
  pub second_full : {x : Full} → LeafEnsures d₁ d₂ b (Err x) → NodesSame d d₂
  second_full r = record {
    long = r.long ∙ first.long;
    kept =
        kept_after d.store.now d₁.store.now d₂.store.now d.state d₁.state (refines_count first) first.grown r.kept;
  }

  -- the nodes so far, and what is left to join
  pub both : {h : Edge} → IsSound d → LeafEnsures d₁ d₂ b (Ok h) → NodesGrown d d₂ × Joinable d₂ 22 l h
  both held second = (
    record {
      long = second.long ∙ first.long;
      sound = second.sound;
      epoch = second.epoch ∙ first.epoch;
      count = omega (arith, refines_count first, refines_count second);
      grown = prefix_trans first.grown second.grown;
    },
    record {
      inside = omega arith;
      low = valid_more _ (refines_count second) first.valid;
      high = second.valid;
      from_low =
          rw (tensor_kept d₁.store.now d₂.store.now d₁.state d₂.state second.grown first.valid)
          (leaf_from d d₁ a held first);
      from_high = leaf_from d₁ d₂ b first.sound second;
    },
  )

pub pair_does : (d d₂ d₃ : Diagram) (f : Step indices) (r : Result Edge Full) → NodesGrown d d₂ → Does d₂ d₃ f r
    → PairEnsures d d₃ r
pair_does d d₂ d₃ f (Ok e) m t =
    record {
      long = t.long ∙ m.long;
      sound = t.sound;
      epoch = t.epoch ∙ m.epoch;
      count = omega (arith, m.count, refines_count t);
      grown = prefix_trans m.grown t.grown;
    }
pair_does d d₂ d₃ f (Err x) m t =
    record {
      long = t.long ∙ m.long;
      kept = kept_after d.store.now d₂.store.now d₃.store.now d.state d₂.state m.count m.grown t.kept;
    }

-- one pair more

pub invariant_more : {d d' : Diagram} (r : Result Edge Full) → FillInvariant d → KeepsCache d d' → PairEnsures d d' r
    → is_err r ≡ false → FillInvariant d'
invariant_more {d} {d'} (Ok e) p k m q =
    record {
      sound = m.sound;
      cache =
          rw k.same_words
          (remembers_more d.store.now d'.store.now d.state d'.state m.grown m.epoch m.count p.cache);
    }
invariant_more (Err x) p k m q = absurd (cc)

-- a pair that was attempted
-- a pair that did not fit can be taken back
pub invariant_left : (d d' : Diagram) {x : Full} (r : Result Edge Full) → FillInvariant d → PairEnsures d d' r
    → r ≡ Err x
    → RollbackRequires d.cache.now d'.store.now d.state
invariant_left d d' {x} r p q e =
    let m : NodesSame d d' = subst (PairEnsures d d') e q in
    rollback_of p.sound m.long m.kept p.cache.past

pub invariant_attempted : {d t d' : Diagram} (r : Result Edge Full) → FillInvariant d → KeepsCache d t
    → PairEnsures d t r
    → MatchResult r (λ _. d' ≡ t) (λ _. RollbackEnsures d'.cache.now t.store.now d'.store.now d.state d'.state)
    → FillInvariant d'
invariant_attempted (Ok e) p k m q = rw q (invariant_more (Ok e) p k m refl)
invariant_attempted {d' = d'} (Err x) p k m b =
    record { sound = b.sound; cache = remembers_nothing d'.store.now d'.state b.forgotten }
