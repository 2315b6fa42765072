-- Laws of operations: how the promises of their parts make the promise of the whole, and when an answer may be
-- remembered.
use Rattle.std.specs.Prelude.{◌≡◌, ◌≢◌, List, ℕ, ◌≤◌, ◌<◌, Result, Ok, Err}
use Rattle.std.proofs.Common.{ap, sym, ◌∙◌, arith}
use Rattle.field.specs.Weight.{modulus, Weight, to_weight}
use Rattle.diagram.specs.Tensor.{Tensor, scale, indices}
use Rattle.diagram.specs.Tally.{Step}
use Rattle.diagram.specs.Sets.{PrefixOf}
use Rattle.diagram.specs.TallyStepLaws.{writes_again, writes_answer}
use Rattle.diagram.specs.TallyStep.{Writes, ScaledStep}
use Rattle.diagram.specs.Meaning.{Valid}
use Rattle.diagram.specs.Store.{set_of, tensor_of, Refines}
use Rattle.diagram.specs.Edge.{IsMultiple}
use Rattle.diagram.specs.EdgeLaws.{multiple_valid, multiple_tensor}
use Rattle.diagram.specs.StoreLaws.{refines_as, refines_stays, refines_count, refines_then, refines_full_more}
use Rattle.diagram.specs.Cache.{EdgeFits, HasEntry, RememberEnsures, key_step}
use Rattle.diagram.specs.CacheLaws.{key_step_kept, remembers_kept, remembers_more}
use Rattle.diagram.specs.Operation.{RefinesCached, OperationRequires}
use Rattle.diagram.specs.declared.node.Edge.{Edge}
use Rattle.diagram.specs.declared.make.State.{State}
use Rattle.diagram.specs.declared.cache.Key.{Key}
use Rattle.diagram.specs.declared.diagram.Full.{Full}

-- nothing is put in
pub cached_stays : {c s : List ℕ} {st : State} {a b e : Edge} {f : Step indices} → OperationRequires c s st a b
    → Valid st.count e
    → f (set_of s st) ≡ (tensor_of s st e, set_of s st)
    → RefinesCached c s s st st f (Ok e)
cached_stays g v q = record { step = refines_stays g.sound v q; cache = g.cache }

-- one step that leaves the cache alone, as a join does
pub cached_step : {c c' s : List ℕ} {st : State} {a b : Edge} (s' : List ℕ) (t : State) (f : Step indices)
    (r : Result Edge Full)
    → OperationRequires c s st a b → c' ≡ c → Refines s s' st t f r
    → RefinesCached c' s s' st t f r
cached_step {s = s} {st} s' t f (Ok e) g q d =
    record { step = d; cache = rw q (remembers_more s s' st t d.grown d.epoch (refines_count d) g.cache) }
cached_step s' t f (Err x) g q d = record { step = d; cache = rw q g.cache.past }

pub cached_fits : {c' s s' : List ℕ} {st t : State} {f : Step indices} {e : Edge} → RefinesCached c' s s' st t f (Ok e)
    → EdgeFits e
cached_fits w = record {
  weight = w.step.valid.small;
  node = omega (arith, w.step.valid.within, w.step.sound.stored.numbered);
}

-- the same step under another name
pub cached_as : (c' s s' : List ℕ) (st t : State) (f g : Step indices) (r : Result Edge Full)
    → f (set_of s st) ≡ g (set_of s st)
    → RefinesCached c' s s' st t g r → RefinesCached c' s s' st t f r
cached_as c' s s' st t f g r q w = record { step = refines_as s s' st t f g r q w.step; cache = w.cache }

-- F is f, which was done, and then G
pub cached_then : {c₁ s s₁ : List ℕ} {st t : State} {f : Step indices} {e : Edge} (c₂ s₂ : List ℕ) (u : State)
    (F G : Step indices) (r : Result Edge Full)
    → RefinesCached c₁ s s₁ st t f (Ok e) → F (set_of s st) ≡ G (set_of s₁ t) → RefinesCached c₂ s₁ s₂ t u G r
    → RefinesCached c₂ s s₂ st u F r
cached_then c₂ s₂ u F G (Ok e) w q h =
    record { step = refines_then w.step F G q s₂ u (Ok e) h.step; cache = h.cache }
cached_then c₂ s₂ u F G (Err x) w q h =
    record { step = refines_then w.step F G q s₂ u (Err x) h.step; cache = rw (← w.step.epoch) h.cache }

-- F is f, which would exceed the capacity, and then more
pub cached_full_more : {c₁ s s₁ : List ℕ} {st t : State} {f : Step indices} {x : Full} (F : Step indices)
    → RefinesCached c₁ s s₁ st t f (Err x)
    → PrefixOf (f (set_of s st)).1 (F (set_of s st)).1 → RefinesCached c₁ s s₁ st t F (Err x)
cached_full_more F w g = record { step = refines_full_more w.step F g; cache = w.cache }

-- the weight w was taken out of the step f, which left the step g

multiple_edge : {w : ℕ} {e e' : Edge} (s : List ℕ) (st : State) → IsMultiple w e e'
    → tensor_of s st e' ≡ scale (to_weight w) (tensor_of s st e)
unfolding tensor_of
multiple_edge s st t = multiple_tensor (set_of s st) t

module _ {c' s s' : List ℕ} {st t : State} {f g : Step indices} where
  pub cached_scaled : {w : ℕ} {e r : Edge} → ScaledStep (to_weight w) g f → w < modulus → w ≢ 0
      → RefinesCached c' s s' st t g (Ok e) → IsMultiple w e r
      → RefinesCached c' s s' st t f (Ok r)
  cached_scaled c p n d m =
      record {
        step = record {
          long = d.step.long;
          sound = d.step.sound;
          epoch = d.step.epoch;
          grown = d.step.grown;
          valid = multiple_valid p n d.step.valid m;
          is = c.is (set_of s st) ∙ rw d.step.is (ap (λ T. (T, set_of s' t)) (sym (multiple_edge s' t m)));
        };
        cache = d.cache;
      }

  pub cached_scaled_full : {W : Weight} {x : Full} → ScaledStep W g f → RefinesCached c' s s' st t g (Err x)
      → RefinesCached c' s s' st t f (Err x)
  cached_scaled_full c d =
      record {
        step = record {
          long = d.step.long;
          kept = d.step.kept;
          full = rw (c.is (set_of s st)) d.step.full;
        };
        cache = d.cache;
      }

-- the step f is the one that the key k asks for

-- a remembered answer is the answer, and nothing is put in
pub cached_hit : {c s : List ℕ} {st : State} {a b e : Edge} {k : Key} {f : Step indices} → OperationRequires c s st a b
    → f ≡ key_step s st k → HasEntry c st.epoch k e
    → RefinesCached c s s st st f (Ok e)
cached_hit {s = s} {st} {e = e} {k = k} g q h =
    let n = g.cache.entries k e h in cached_stays g n.valid (ap (λ x. x (set_of s st)) q ∙ n.is)

-- an answer may be remembered as soon as it is there: done again, the step puts nothing in
pub cached_kept : {c s c' c'' s' : List ℕ} {st t : State} {a b e : Edge} {k : Key} {f : Step indices}
    → OperationRequires c s st a b → f ≡ key_step s st k
    → k.left ≤ st.count → k.right ≤ st.count → (T : Tensor indices) × Writes T f
    → RefinesCached c' s s' st t f (Ok e) → RememberEnsures c' c'' t.epoch k e → RefinesCached c'' s s' st t f (Ok e)
cached_kept {s = s} {s' = s'} {st = st} {t} {e = e} {k} {f} g q p r v d w =
    let plain : f (set_of s st) ≡ (tensor_of s' t e, set_of s' t) = d.step.is in
    let again : f (set_of s' t) ≡ (tensor_of s' t e, set_of s' t) = rw plain at (writes_again v.1 (set_of s st))
    ∙ ap (λ T. (T, set_of s' t)) (sym (writes_answer v.1 (set_of s st)) ∙ ap (λ x. x.0) plain) in
    let same : f ≡ key_step s' t k = q ∙ sym (key_step_kept s s' st t d.step.grown k p r) in
    record {
      step = d.step;
      cache = remembers_kept {k = k} d.cache
          record {
            left = omega (arith, refines_count d.step);
            right = omega (arith, refines_count d.step);
            valid = d.step.valid;
            known = rw (← same) v;
            is = rw (← same) again;
          }
          w;
    }

-- of a step that did not fit nothing is remembered
pub cached_kept_full : {c' c'' s s' : List ℕ} {st t : State} {f : Step indices} {x : Full}
    → RefinesCached c' s s' st t f (Err x) → c'' ≡ c' → RefinesCached c'' s s' st t f (Err x)
cached_kept_full d w = record { step = d.step; cache = rw w d.cache }
