-- Laws of sum in the store: what each of its cases gives.
use Rattle.std.specs.Prelude.{◌≡◌, refl, ◌≢◌, true, false, List, ℕ, suc, length, Result, Ok, Err}
use Rattle.std.proofs.Common.{ap, sym, ◌∙◌, arith, le_refl}
use Rattle.field.specs.Weight.{to_weight, times_w, inverse_w, Nonzero}
use Rattle.field.specs.Field.{Represents}
use Rattle.field.specs.RingLaws.{nonzero_weight, weight_one, weight_zero, nonzero_not}
use Rattle.field.specs.InverseLaws.{times_nonzero, inverse_nonzero}
use Rattle.diagram.specs.Tensor.{Tensor, is_zero, plus, fix, multiple, indices}
use Rattle.diagram.specs.TensorLaws.{scale_one}
use Rattle.diagram.specs.TopLaws.{free_below_fix, free_below_plus}
use Rattle.diagram.specs.Tally.{join, both, sum}
use Rattle.diagram.specs.TallyStep.{ScaledStep, Writes}
use Rattle.diagram.specs.TallySumLaws.{sum_meaning, sum_grows, sum_writes}
use Rattle.diagram.specs.TallyCasesLaws.{sum_zero_left, sum_zero_right, sum_multiple, sum_both}
use Rattle.diagram.specs.TallyShareLaws.{sum_ratio}
use Rattle.diagram.specs.Meaning.{edge_in, Valid}
use Rattle.diagram.specs.CanonicalLaws.{edge_is_zero, edge_nonzero}
use Rattle.diagram.specs.Store.{nodes_of, set_of, tensor_of, Sound, Refines}
use Rattle.diagram.specs.StoreLaws.{nodes_length, join_grows}
use Rattle.diagram.specs.Edge.{IsMultiple, IsSum, IsCofactor}
use Rattle.diagram.specs.EdgeLaws.{edge_sum_valid, edge_sum_tensor, multiple_one, multiple_two, free_below_level}
use Rattle.diagram.specs.Cache.{KeyFits, op_step, key_step}
use Rattle.diagram.specs.Operation.{OperationRequires, RefinesCached, lowest_of, high_step}
use Rattle.diagram.specs.Operation.{HighRequires, edges_measure, PartsGrow}
use Rattle.diagram.specs.OperationLaws.{cached_stays, cached_step, cached_scaled, cached_scaled_full}
use Rattle.diagram.specs.Join.{JoinRequires}
use Rattle.diagram.specs.OperationHalvesLaws.{measure_same, inside, tops}
use Rattle.diagram.specs.OperationHalvesLaws.{low_part_full, high_part_ready, high_part_measure, low_part_refines}
use Rattle.diagram.specs.OperationHalvesLaws.{high_part_full, high_ready, high_joinable, high_part_refines}
use Rattle.diagram.specs.Sum.{SumReduced}
use Rattle.diagram.specs.declared.node.Edge.{Edge}
use Rattle.diagram.specs.declared.make.State.{State}
use Rattle.diagram.specs.declared.cache.Op.TheVariants as ops
use Rattle.diagram.specs.declared.diagram.Full.{Full}

-- an edge of weight 0 has the tensor zero, and no other has

module _ {s : List ℕ} {st : State} (held : Sound s st) where
  pub zero_tensor : (a : Edge) → a.weight ≡ 0 → is_zero (tensor_of s st a) ≡ true
  unfolding tensor_of set_of
  zero_tensor a z = edge_is_zero indices (nodes_of s st) held.nodes a z

  pub nonzero_tensor : {a : Edge} → Valid st.count a → a.weight ≢ 0 → is_zero (tensor_of s st a) ≡ false
  unfolding tensor_of set_of
  nonzero_tensor {a} v n = edge_nonzero indices (nodes_of s st) held.nodes a (rw (nodes_length s st) v) n

module _ {c s : List ℕ} {st : State} {a b : Edge} (g : OperationRequires c s st a b) where
  -- "if A is zero, B. If B is zero, A."
  pub sum_left : a.weight ≡ 0 → RefinesCached c s s st st (sum (tensor_of s st a) (tensor_of s st b)) (Ok b)
  sum_left z = cached_stays g g.right (sum_zero_left _ _ _ (zero_tensor g.sound a z))

  pub sum_right : a.weight ≢ 0 → b.weight ≡ 0
      → RefinesCached c s s st st (sum (tensor_of s st a) (tensor_of s st b)) (Ok a)
  sum_right n z = cached_stays g g.left (sum_zero_right _ _ _ (nonzero_tensor g.sound g.left n)
      (zero_tensor g.sound b z))

  module _ (na : a.weight ≢ 0) (nb : b.weight ≢ 0) where
    va : Valid (length (nodes_of s st)) a
    va = rw (nodes_length s st) g.left

    vb : Valid (length (nodes_of s st)) b
    vb = rw (nodes_length s st) g.right

    one_node : a.node ≡ b.node → multiple (tensor_of s st a) (tensor_of s st b) ≡ true
    unfolding tensor_of set_of
    one_node e = multiple_one indices (nodes_of s st) g.sound.nodes a b va vb na nb e

    two_nodes : a.node ≢ b.node → multiple (tensor_of s st a) (tensor_of s st b) ≡ false
    unfolding tensor_of set_of
    two_nodes e = multiple_two indices (nodes_of s st) g.sound.nodes a b va vb na nb e

    added_is : {r : Edge} → a.node ≡ b.node → IsSum a b r
        → tensor_of s st r ≡ plus (tensor_of s st a) (tensor_of s st b)
    unfolding tensor_of
    added_is e t = edge_sum_tensor (set_of s st) e t

    -- "If one is a multiple of the other, their sum, nothing put in."
    pub sum_one : {r : Edge} → a.node ≡ b.node → IsSum a b r
        → RefinesCached c s s st st (sum (tensor_of s st a) (tensor_of s st b)) (Ok r)
    sum_one e t =
        cached_stays g (edge_sum_valid g.left t)
        (sum_multiple _ _ _ (nonzero_tensor g.sound g.left na) (nonzero_tensor g.sound g.right nb)
        (one_node e)
        ∙ ap (λ T. (T, set_of s st)) (sym (added_is e t)))

    -- a's weight taken out: i is its inverse, r the ratio of the weights
    module _ {i r : ℕ} (apart : a.node ≢ b.node) (inv : Represents i (inverse_w (to_weight a.weight)))
        (ratio : Represents r (times_w (to_weight i) (to_weight b.weight))) where
      wn : Nonzero (to_weight a.weight)
      wn = nonzero_weight a.weight g.left.small na

      ratio_nonzero : r ≢ 0
      ratio_nonzero z =
          nonzero_not (times_nonzero (inverse_nonzero wn) (nonzero_weight b.weight g.right.small nb))
          (ap (λ x. times_w x (to_weight b.weight)) (sym inv.is) ∙ sym ratio.is ∙ ap to_weight z ∙ weight_zero)

      pub sum_reduced_ready : OperationRequires c s st (record { weight = 1; node = a.node })
          (record { weight = r; node = b.node })
      sum_reduced_ready = record {
        sound = g.sound;
        left = record { small = omega arith; within = g.left.within; zero = λ z. absurd (omega arith) };
        right = record { small = ratio.small; within = g.right.within; zero = λ z. absurd (ratio_nonzero z) };
        cache = g.cache;
      }

      pub sum_reduced : SumReduced (record { weight = 1; node = a.node }) (record { weight = r; node = b.node })
      sum_reduced = record { left = refl; right = ratio_nonzero; nodes = apart }

      pub sum_reduced_measure : edges_measure s st (record { weight = 1; node = a.node })
          (record { weight = r; node = b.node }) ≡ edges_measure s st a b
      sum_reduced_measure = measure_same s st a b _ _ refl refl

      scaled : ScaledStep (to_weight a.weight)
          (sum (tensor_of s st (record { weight = 1; node = a.node }))
          (tensor_of s st (record { weight = r; node = b.node })))
          (sum (tensor_of s st a) (tensor_of s st b))
      unfolding tensor_of edge_in
      scaled = rw (ratio.is, inv.is, weight_one, scale_one)
          (sum_ratio (to_weight a.weight) (to_weight b.weight) wn _ _)

      module _ {c' s' : List ℕ} {t : State} where
        pub sum_times : {e q : Edge}
            → RefinesCached c' s s' st t (sum (tensor_of s st (record { weight = 1; node = a.node }))
            (tensor_of s st (record { weight = r; node = b.node }))) (Ok e)
            → IsMultiple a.weight e q
            → RefinesCached c' s s' st t (sum (tensor_of s st a) (tensor_of s st b)) (Ok q)
        sum_times w x = cached_scaled scaled g.left.small na w x

        pub sum_times_full : {x : Full}
            → RefinesCached c' s s' st t (sum (tensor_of s st (record { weight = 1; node = a.node }))
            (tensor_of s st (record { weight = r; node = b.node }))) (Err x)
            → RefinesCached c' s s' st t (sum (tensor_of s st a) (tensor_of s st b)) (Err x)
        sum_times_full w = cached_scaled_full scaled w

-- edges to different nodes
module _ {c s : List ℕ} {st : State} {a b : Edge} (g : OperationRequires c s st a b) (p : SumReduced a b) where
  -- the key
  pub sum_key_fits : KeyFits (record { op = ops.Sum; left = a.node; right = b.node; arg = b.weight })
  sum_key_fits = record {
    left = omega (arith, g.left.within, g.sound.stored.numbered);
    right = omega (arith, g.right.within, g.sound.stored.numbered);
    arg = omega (arith, g.right.small);
  }

  pub sum_key_step : sum (tensor_of s st a) (tensor_of s st b) ≡ key_step s st
      (record { op = ops.Sum; left = a.node; right = b.node; arg = b.weight })
  unfolding key_step op_step tensor_of edge_in
  sum_key_step = rw (p.left, weight_one, scale_one)

  pub sum_known : (T : Tensor indices) × Writes T (sum (tensor_of s st a) (tensor_of s st b))
  sum_known = (_, sum_writes _ _)

  -- "Else k is the lower top, and join(k, sum(A0,B0), sum(A1,B1))."
  pub sum_some : a.node ≡ 0 → b.node ≢ 0
  sum_some z y = p.nodes (z ∙ sym y)

  left_some : a.weight ≢ 0
  left_some z = omega (arith, p.left)

  pub sum_whole : {k : ℕ} → k ≡ lowest_of s st a b
      → sum (tensor_of s st a) (tensor_of s st b) ≡ both sum k (tensor_of s st a) (tensor_of s st b) (join k)
  sum_whole {k} m =
      sum_both _ _ (set_of s st) (nonzero_tensor g.sound g.left left_some)
      (nonzero_tensor g.sound g.right p.right)
      (two_nodes g left_some p.right p.nodes) k (tops g sum_some m)

pub sum_parts_at : {c s : List ℕ} {st : State} {a b : Edge} {k : ℕ} → OperationRequires c s st a b
    → k ≡ lowest_of s st a b
    → PartsGrow (tensor_of s st a) (tensor_of s st b) k k sum (join k)
sum_parts_at {s = s} {st} {a} {b} {k} g m = record {
  not_above = le_refl k;
  rec_grows = λ x z. sum_grows _ _ z;
  final_grows = λ X Y z. join_grows k X Y z;
  rec_from = λ x z. rw (sum_meaning (fix k x (tensor_of s st a)) (fix k x (tensor_of s st b)) z)
      (free_below_plus (suc k) _ _ (free_below_fix k x _ (free_below_level s st g.sound a k g.left
      (omega (arith, m))))
      (free_below_fix k x _ (free_below_level s st g.sound b k g.right (omega (arith, m)))));
}

-- the low parts
module _ {c s : List ℕ} {st : State} {a b a0 b0 : Edge} {k : ℕ} (g : OperationRequires c s st a b) (p : SumReduced a b)
    (m : k ≡ lowest_of s st a b)
    (ca : IsCofactor s st a k false a0) (cb : IsCofactor s st b k false b0) where
  pub sum_low_full : {c₁ s₁ : List ℕ} {t : State} {x : Full}
      → RefinesCached c₁ s s₁ st t (sum (tensor_of s st a0) (tensor_of s st b0)) (Err x)
      → RefinesCached c₁ s s₁ st t (sum (tensor_of s st a) (tensor_of s st b)) (Err x)
  sum_low_full w = low_part_full g (inside g (sum_some g p) m) m (sum_parts_at g m) (sum_whole g p m) ca cb w

  module _ {c₁ s₁ : List ℕ} {t : State} {l : Edge}
      (w : RefinesCached c₁ s s₁ st t (sum (tensor_of s st a0) (tensor_of s st b0)) (Ok l)) where
    pub sum_high_ready : HighRequires c₁ s₁ t a b k k l
    sum_high_ready =
        high_part_ready g (inside g (sum_some g p) m) m (sum_parts_at g m) (sum_whole g p m) ca cb w

    pub sum_measure : edges_measure s₁ t a b ≡ edges_measure s st a b
    sum_measure =
        high_part_measure g (inside g (sum_some g p) m) m (sum_parts_at g m) (sum_whole g p m) ca cb w

    pub sum_low_refines : (c₂ s₂ : List ℕ) (u : State) (q : Result Edge Full)
        → RefinesCached c₂ s₁ s₂ t u
        (high_step sum (join k) k (tensor_of s₁ t a) (tensor_of s₁ t b) (tensor_of s₁ t l)) q
        → RefinesCached c₂ s s₂ st u (sum (tensor_of s st a) (tensor_of s st b)) q
    sum_low_refines c₂ s₂ u q h =
        low_part_refines g (inside g (sum_some g p) m) m (sum_parts_at g m) (sum_whole g p m) ca cb w c₂ s₂ u q h

-- the high parts
module _ {c s : List ℕ} {st : State} {a b a1 b1 l : Edge} {k : ℕ} (w : HighRequires c s st a b k k l)
    (ca : IsCofactor s st a k true a1) (cb : IsCofactor s st b k true b1) where
  v : PartsGrow (tensor_of s st a) (tensor_of s st b) k k sum (join k)
  v = sum_parts_at w.ready w.lowest

  pub sum_high_full : {c₁ s₁ : List ℕ} {t : State} {x : Full}
      → RefinesCached c₁ s s₁ st t (sum (tensor_of s st a1) (tensor_of s st b1)) (Err x)
      → RefinesCached c₁ s s₁ st t
      (high_step sum (join k) k (tensor_of s st a) (tensor_of s st b) (tensor_of s st l)) (Err x)
  sum_high_full h = high_part_full w v ca cb h

  module _ {c₁ s₁ : List ℕ} {t : State} {x : Edge}
      (h : RefinesCached c₁ s s₁ st t (sum (tensor_of s st a1) (tensor_of s st b1)) (Ok x)) where
    pub sum_joinable : Sound s₁ t × JoinRequires s₁ t k l x
    sum_joinable = ((high_ready w v ca cb h).sound, high_joinable w v ca cb h)

    pub sum_high_refines : (c₂ s₂ : List ℕ) (u : State) (q : Result Edge Full) → c₂ ≡ c₁
        → Refines s₁ s₂ t u (join k (tensor_of s₁ t l) (tensor_of s₁ t x)) q
        → RefinesCached c₂ s s₂ st u
        (high_step sum (join k) k (tensor_of s st a) (tensor_of s st b) (tensor_of s st l)) q
    sum_high_refines c₂ s₂ u q e d =
        high_part_refines w v ca cb h c₂ s₂ u q (cached_step s₂ u _ q (high_ready w v ca cb h) e d)
