-- Laws of operations in two parts, at the lower of the tops: what sum, contraction and lowering share.
use Rattle.std.specs.Prelude.{◌≡◌, ◌≢◌, Bool, true, false, cond, List, ℕ, suc, ◌<◌, min, leb, Result, Ok, Err}
use Rattle.std.proofs.Math.Path.{refl, ap}
use Rattle.std.proofs.Common.{ap₂, sym, subst, ◌∙◌, leb-true, leb-false}
use Rattle.std.proofs.Math.Option.{none, some}
use native.Mathlib.Omega.{arith}
use Rattle.std.proofs.Math.Decide.{ℕ_discrete}
use Rattle.field.specs.Weight.{1w}
use Rattle.field.specs.RingLaws.{weight_one}
use Rattle.diagram.specs.Tensor.{Tensor, top, top2, lower_top, fix, indices, index_count}
use Rattle.diagram.specs.TensorLaws.{scale_constant, scale_one}
use Rattle.diagram.specs.TopLaws.{top_constant}
use Rattle.diagram.specs.Top.{FreeBelow}
use Rattle.diagram.specs.Tally.{Set, Step, Binary, ◌>>=◌, both}
use Rattle.diagram.specs.Reach.{Covers}
use Rattle.diagram.specs.Sets.{PrefixOf}
use Rattle.diagram.specs.SetsLaws.{prefix_trans}
use Rattle.diagram.specs.Meaning.{tensor_at, edge_in, Valid}
use Rattle.diagram.specs.MeaningLaws.{valid_more, level_same, level_kept}
use Rattle.diagram.specs.CanonicalLaws.{edge_constant, edge_top, sound_covers}
use Rattle.diagram.specs.Store.{nodes_of, set_of, tensor_of, level_of, Sound}
use Rattle.diagram.specs.StoreLaws.{nodes_length, tensor_kept, refines_count}
use Rattle.diagram.specs.EdgeLaws.{level_none, index_inside, level_most}
use Rattle.diagram.specs.Edge.{CofactorRequires, IsCofactor}
use Rattle.diagram.specs.Join.{JoinRequires}
use Rattle.diagram.specs.Operation.{OperationRequires, RefinesCached, lowest_of, edges_measure, high_step}
use Rattle.diagram.specs.Operation.{HighRequires, PartsGrow}
use Rattle.diagram.specs.OperationLaws.{cached_then, cached_full_more}
use Rattle.diagram.specs.declared.node.Edge.{Edge}
use Rattle.diagram.specs.declared.make.State.{State}
use Rattle.diagram.specs.declared.diagram.Full.{Full}

-- a weight taken out changes no level
pub measure_same : (s : List ℕ) (st : State) (a b a' b' : Edge) → a'.node ≡ a.node → b'.node ≡ b.node
    → edges_measure s st a' b' ≡ edges_measure s st a b
unfolding edges_measure level_of
measure_same s st a b a' b' p q =
    rw (level_same indices (nodes_of s st) a' a p, level_same indices (nodes_of s st) b' b q)

-- the top of an edge's tensor is its level

module _ {s : List ℕ} {st : State} (held : Sound s st) where
  pub top_node : {e : Edge} → Valid st.count e → e.node ≢ 0 → top (tensor_of s st e) ≡ some (level_of s st e)
  unfolding tensor_of set_of level_of
  top_node {e} v n = edge_top indices (nodes_of s st) held.nodes e (rw (nodes_length s st) v) (omega arith)

  top_leaf : (e : Edge) → e.node ≡ 0 → top (tensor_of s st e) ≡ none
  unfolding tensor_of set_of
  top_leaf e z =
      rw (edge_constant indices (nodes_of s st) held.nodes e z, scale_constant indices _ 1w) (top_constant indices _)

  -- what an edge reaches is among the nodes
  pub edge_covers : {e : Edge} → Valid st.count e → Covers (set_of s st) (tensor_of s st e)
  unfolding tensor_of set_of
  edge_covers {e} v = sound_covers indices (nodes_of s st) held.nodes e (rw (nodes_length s st) v)

-- an edge of weight 1 has its node's tensor
pub one_tensor : (s : List ℕ) (st : State) (n : ℕ)
    → tensor_of s st (record { weight = 1; node = n }) ≡ tensor_at (set_of s st) n
unfolding tensor_of edge_in
one_tensor s st n = rw weight_one (scale_one _)

both_levels : (i j : ℕ) → lower_top (some i) (some j) ≡ some (min i j)
both_levels i j = go (leb i j) refl
  where
    go : (t : Bool) → leb i j ≡ t → some (cond t i j) ≡ some (min i j)
    go true q = let e : i ≡ min i j = omega (arith, leb-true i j q) in ap some e
    go false q = let e : j ≡ min i j = omega (arith, leb-false i j q) in ap some e

-- two edges of which not both are constant
module _ {c s : List ℕ} {st : State} {a b : Edge} (g : OperationRequires c s st a b) (p : a.node ≡ 0 → b.node ≢ 0)
    {k : ℕ} (m : k ≡ lowest_of s st a b) where
  pub inside : k < index_count
  inside = go (ℕ_discrete a.node 0) (ℕ_discrete b.node 0)
    where
      go : Dec (a.node ≡ 0) → Dec (b.node ≡ 0) → k < index_count
      go (yes x) (yes y) = absurd (p x y)
      go (yes x) (no y) = omega (arith, index_inside s st g.sound b g.right y)
      go (no x) y = omega (arith, index_inside s st g.sound a g.left x)

  -- the lower of the levels is the lower of the tops
  pub tops : top2 (tensor_of s st a) (tensor_of s st b) ≡ some k
  unfolding top2
  tops = go (ℕ_discrete a.node 0) (ℕ_discrete b.node 0)
    where
      go : Dec (a.node ≡ 0) → Dec (b.node ≡ 0) → lower_top (top (tensor_of s st a)) (top (tensor_of s st b)) ≡ some k
      go (yes x) (yes y) = absurd (p x y)
      go (yes x) (no y) =
          let e : level_of s st b ≡ k = omega (
            arith,
            m,
            level_none s st g.sound a x,
            index_inside s st g.sound b g.right y,
          ) in
          rw (top_leaf g.sound a x, top_node g.sound g.right y, e) refl
      go (no x) (yes y) =
          let e : level_of s st a ≡ k = omega (
            arith,
            m,
            level_none s st g.sound b y,
            index_inside s st g.sound a g.left x,
          ) in
          rw (top_leaf g.sound b y, top_node g.sound g.left x, e) refl
      go (no x) (no y) =
          rw (top_node g.sound g.left x, top_node g.sound g.right y) (both_levels _ _ ∙ ap some (sym m))

-- parts at an index that is the lower top
module _ {c s : List ℕ} {st : State} {a b : Edge} {k : ℕ} (g : OperationRequires c s st a b) (i : k < index_count)
    (m : k ≡ lowest_of s st a b) where
  pub fixable_left : CofactorRequires s st a k
  fixable_left = record { valid = g.left; inside = i; level = omega (arith, m) }

  pub fixable_right : CofactorRequires s st b k
  fixable_right = record { valid = g.right; inside = i; level = omega (arith, m) }

  module _ {x : Bool} {a' b' : Edge} (ca : IsCofactor s st a k x a') (cb : IsCofactor s st b k x b') where
    pub part_ready : OperationRequires c s st a' b'
    part_ready = record { sound = g.sound; left = ca.valid; right = cb.valid; cache = g.cache }

    pub part_less : edges_measure s st a' b' < edges_measure s st a b
    unfolding edges_measure
    part_less = omega (
      arith,
      m,
      i,
      ca.above,
      cb.above,
      level_most s st g.sound a' ca.valid,
      level_most s st g.sound b' cb.valid,
    )

    -- so a recursion may go down to them
    pub part : (edges_measure s st a' b' < edges_measure s st a b) × OperationRequires c s st a' b'
    part = (part_less, part_ready)

high_grows : {A B : Tensor indices} {k j : ℕ} {rec final : Binary indices} → PartsGrow A B k j rec final
    → (L : Tensor indices) (z : Set indices)
    → PrefixOf z (high_step rec final k A B L z).1
unfolding high_step ◌>>=◌
high_grows v L z = prefix_trans (v.rec_grows true z) (v.final_grows L _ _)

-- both parts: the low part, then the high part
low_high : (A B : Tensor indices) (k : ℕ) (F : Step indices) (rec final : Binary indices) → F ≡ both rec k A B final
    → (z : Set indices)
    → F z ≡ high_step rec final k A B (rec (fix k false A) (fix k false B) z).0
    (rec (fix k false A) (fix k false B) z).1
unfolding both high_step ◌>>=◌
low_high A B k F rec final e z = ap (λ f. f z) e

-- the low part
module _ {c s : List ℕ} {st : State} {a b a' b' : Edge} {k j : ℕ} {F : Step indices} {rec final : Binary indices}
    (g : OperationRequires c s st a b) (i : k < index_count) (m : k ≡ lowest_of s st a b)
    (v : PartsGrow (tensor_of s st a) (tensor_of s st b) k j rec final)
    (whole : F ≡ both rec k (tensor_of s st a) (tensor_of s st b) final) (ca : IsCofactor s st a k false a')
    (cb : IsCofactor s st b k false b') where
  low_is : rec (tensor_of s st a') (tensor_of s st b') ≡ rec (fix k false (tensor_of s st a))
      (fix k false (tensor_of s st b))
  low_is = ap₂ rec ca.is cb.is

  pub low_part_full : {c₁ s₁ : List ℕ} {t : State} {x : Full}
      → RefinesCached c₁ s s₁ st t (rec (tensor_of s st a') (tensor_of s st b')) (Err x)
      → RefinesCached c₁ s s₁ st t F (Err x)
  low_part_full w =
      cached_full_more F w (rw (low_is, low_high _ _ k F rec final whole (set_of s st)) (high_grows v _ _))

  module _ {c₁ s₁ : List ℕ} {t : State} {l : Edge}
      (w : RefinesCached c₁ s s₁ st t (rec (tensor_of s st a') (tensor_of s st b')) (Ok l)) where
    low_done : rec (fix k false (tensor_of s st a)) (fix k false (tensor_of s st b)) (set_of s st)
        ≡ (tensor_of s₁ t l, set_of s₁ t)
    low_done = rw low_is at w.step.is

    kept : (x : Edge) → Valid st.count x → level_of s₁ t x ≡ level_of s st x
    unfolding level_of
    kept x u = level_kept indices w.step.grown (rw (nodes_length s st) u)

    pub high_part_ready : HighRequires c₁ s₁ t a b k j l
    high_part_ready = record {
      ready = record {
        sound = w.step.sound;
        left = valid_more _ (refines_count w.step) g.left;
        right = valid_more _ (refines_count w.step) g.right;
        cache = w.cache;
      };
      inside = i;
      lowest = omega (arith, m, kept a g.left, kept b g.right);
      low = w.step.valid;
      not_above = v.not_above;
      from_low = subst (FreeBelow (suc j)) (ap (λ q. q.0) low_done) (v.rec_from false (set_of s st));
    }

    pub high_part_measure : edges_measure s₁ t a b ≡ edges_measure s st a b
    unfolding edges_measure
    high_part_measure = omega (arith, kept a g.left, kept b g.right)

    pub low_part_refines : (c₂ s₂ : List ℕ) (u : State) (q : Result Edge Full)
        → RefinesCached c₂ s₁ s₂ t u
        (high_step rec final k (tensor_of s₁ t a) (tensor_of s₁ t b) (tensor_of s₁ t l)) q
        → RefinesCached c₂ s s₂ st u F q
    low_part_refines c₂ s₂ u q h =
        cached_then c₂ s₂ u F _ q w
        (low_high _ _ k F rec final whole (set_of s st) ∙ rw (
          low_done,
          tensor_kept s s₁ st t w.step.grown g.left,
          tensor_kept s s₁ st t w.step.grown g.right,
        )) h

-- the high part
module _ {c s : List ℕ} {st : State} {a b a' b' l : Edge} {k j : ℕ} {rec final : Binary indices}
    (w : HighRequires c s st a b k j l) (v : PartsGrow (tensor_of s st a) (tensor_of s st b) k j rec final)
    (ca : IsCofactor s st a k true a') (cb : IsCofactor s st b k true b') where
  high_is : rec (tensor_of s st a') (tensor_of s st b') ≡ rec (fix k true (tensor_of s st a))
      (fix k true (tensor_of s st b))
  high_is = ap₂ rec ca.is cb.is

  pub high_part_full : {c₁ s₁ : List ℕ} {t : State} {x : Full}
      → RefinesCached c₁ s s₁ st t (rec (tensor_of s st a') (tensor_of s st b')) (Err x)
      → RefinesCached c₁ s s₁ st t
      (high_step rec final k (tensor_of s st a) (tensor_of s st b) (tensor_of s st l)) (Err x)
  unfolding high_step ◌>>=◌
  high_part_full h = cached_full_more _ h (rw high_is (v.final_grows _ _ _))

  module _ {c₁ s₁ : List ℕ} {t : State} {x : Edge}
      (h : RefinesCached c₁ s s₁ st t (rec (tensor_of s st a') (tensor_of s st b')) (Ok x)) where
    high_done : rec (fix k true (tensor_of s st a)) (fix k true (tensor_of s st b)) (set_of s st)
        ≡ (tensor_of s₁ t x, set_of s₁ t)
    high_done = rw high_is at h.step.is

    low_kept : tensor_of s₁ t l ≡ tensor_of s st l
    low_kept = tensor_kept s s₁ st t h.step.grown w.low

    pub high_ready : OperationRequires c₁ s₁ t l x
    high_ready = record {
      sound = h.step.sound;
      left = valid_more _ (refines_count h.step) w.low;
      right = h.step.valid;
      cache = h.cache;
    }

    pub high_joinable : JoinRequires s₁ t j l x
    high_joinable = record {
      inside = omega (arith, w.inside, w.not_above);
      low = valid_more _ (refines_count h.step) w.low;
      high = h.step.valid;
      from_low = rw low_kept w.from_low;
      from_high = subst (FreeBelow (suc j)) (ap (λ q. q.0) high_done) (v.rec_from true (set_of s st));
    }

    pub high_part_refines : (c₂ s₂ : List ℕ) (u : State) (q : Result Edge Full)
        → RefinesCached c₂ s₁ s₂ t u (final (tensor_of s₁ t l) (tensor_of s₁ t x)) q
        → RefinesCached c₂ s s₂ st u
        (high_step rec final k (tensor_of s st a) (tensor_of s st b) (tensor_of s st l)) q
    unfolding high_step ◌>>=◌
    high_part_refines c₂ s₂ u q f = cached_then c₂ s₂ u _ _ q h (rw (high_done, low_kept)) f
