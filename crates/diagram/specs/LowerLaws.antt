-- Laws of lowering in the store: what each of its cases gives; one index as a set.
use Rattle.std.specs.Prelude.{◌≡◌, refl, ◌≢◌, Bool, true, false, not, List, ℕ, ◌-◌, ◌/◌, ◌^◌, ◌≤◌, ◌<◌, eqb}
use Rattle.std.specs.Prelude.{Result, Ok, Err}
use Rattle.std.proofs.Common.{ap, sym, ◌∙◌, true≢false, arith, eqb-true}
use Rattle.std.proofs.Math.Option.{some}
use Rattle.std.specs.Int.Bits.{bit_and, and_zero_r}
use Rattle.std.proofs.lemmas.Bool.{eqb-false}
use Rattle.field.specs.Weight.{to_weight, Nonzero}
use Rattle.field.specs.RingLaws.{nonzero_weight, weight_one}
use Rattle.std.proofs.Math.Pow.{pow-lt}
use Rattle.diagram.specs.Tensor.{Tensor, bits, top, fix, indices, indices_count, index_count, masks}
use Rattle.diagram.specs.TensorLaws.{scale_one}
use Rattle.diagram.specs.TestLaws.{cases}
use Rattle.diagram.specs.Tally.{both, join, low}
use Rattle.diagram.specs.TallyStepLaws.{writes_answer, writes_grows}
use Rattle.diagram.specs.TallyStep.{Writes, ScaledStep}
use Rattle.diagram.specs.Support.{support_mask}
use Rattle.diagram.specs.SupportStoreLaws.{support_leaf, masks_power}
use Rattle.diagram.specs.Lows.{lower_in, lows, clash}
use Rattle.diagram.specs.TallyLowsLaws.{clash_exactly, clash_masks, clash_fix, clash_unscale, lows_writes}
use Rattle.diagram.specs.TallyLowsLaws.{lows_scaled, lows_same, none_common, lowered_part, lows_both}
use Rattle.diagram.specs.TallyLowsOneLaws.{one_zero, one_no_clash, one_low}
use Rattle.diagram.specs.Meaning.{tensor_at, edge_in, Valid}
use Rattle.diagram.specs.Store.{set_of, tensor_of, level_of, Sound, Refines}
use Rattle.diagram.specs.EdgeLaws.{index_inside}
use Rattle.diagram.specs.Edge.{IsMultiple, CofactorRequires, IsCofactor}
use Rattle.diagram.specs.Join.{JoinRequires}
use Rattle.diagram.specs.StoreLaws.{join_grows, tensor_kept}
use Rattle.diagram.specs.Cache.{KeyFits, op_step, key_step}
use Rattle.diagram.specs.Operation.{OperationRequires, RefinesCached, lowest_of, high_step}
use Rattle.diagram.specs.Operation.{HighRequires, edges_measure, PartsGrow}
use Rattle.diagram.specs.OperationLaws.{cached_stays, cached_step, cached_as, cached_scaled, cached_scaled_full}
use Rattle.diagram.specs.OperationHalvesLaws.{measure_same, top_node, edge_covers, one_tensor}
use Rattle.diagram.specs.OperationHalvesLaws.{low_part_full, high_part_ready, high_part_measure, low_part_refines}
use Rattle.diagram.specs.OperationHalvesLaws.{high_part_full, high_ready, high_joinable, high_part_refines}
use Rattle.diagram.specs.Lower.{LowerRequires, LowsRequires, LowsReduced, lows_first}
use Rattle.diagram.specs.declared.node.Edge.{Edge}
use Rattle.diagram.specs.declared.make.State.{State}
use Rattle.diagram.specs.declared.cache.Op.TheVariants as ops
use Rattle.diagram.specs.declared.diagram.Full.{Full}

-- one index, as a set
module _ {c s : List ℕ} {st : State} {a : Edge} {k m : ℕ} (g : OperationRequires c s st a a)
    (x : LowerRequires s st a k) (e : m ≡ 2 ^ k) where
  below : k < indices
  below = rw indices_count (omega (arith, x.last))

  pub lower_as_set : LowsRequires s st a m
  lower_as_set = record {
    small = rw (e, ← masks_power) (pow-lt below);
    zero = rw e (one_zero k x.first below);
    no_clash = rw e (one_no_clash k x.first below _ x.free);
  }

  pub lower_refines : (c' s' : List ℕ) (t : State) (r : Result Edge Full)
      → RefinesCached c' s s' st t (lows (bits m) (tensor_of s st a)) r
      → RefinesCached c' s s' st t (low k (tensor_of s st a)) r
  lower_refines c' s' t r w =
      cached_as c' s s' st t _ _ r
      (one_low k x.first below _ (set_of s st) x.free (edge_covers g.sound g.left)) (rw e at w)

-- the test for 7, on the masks of m and of a
pub clash_is : (s : List ℕ) (st : State) (a : Edge) {m u : ℕ} → m < masks → u ≡ support_mask (tensor_of s st a)
    → not (eqb (bit_and (bit_and (m / 2) u) m) (bit_and (m / 2) u)) ≡ clash (bits m) (tensor_of s st a)
clash_is s st a {m} {u} small is = cases (eqb (bit_and (bit_and (m / 2) u) m) (bit_and (m / 2) u)) apart clashes
  where
    within : m < 2 ^ indices
    within = rw masks_power small

    apart : eqb (bit_and (bit_and (m / 2) u) m) (bit_and (m / 2) u) ≡ true
        → not (eqb (bit_and (bit_and (m / 2) u) m) (bit_and (m / 2) u)) ≡ clash (bits m) (tensor_of s st a)
    apart q =
        rw q (sym ((clash_exactly (bits m) _).1 ((clash_masks m _ within).1 (rw (← is) (eqb-true _ _ q)))))

    clashes : eqb (bit_and (bit_and (m / 2) u) m) (bit_and (m / 2) u) ≡ false
        → not (eqb (bit_and (bit_and (m / 2) u) m) (bit_and (m / 2) u)) ≡ clash (bits m) (tensor_of s st a)
    clashes q =
        rw q (sym (cases (clash (bits m) (tensor_of s st a)) (λ y. y) (λ y. absurd (eqb-false _ _ q
        (rw (← is) at ((clash_masks m _ within).0 ((clash_exactly (bits m) _).0 y)))))))

-- a part of an edge may go as the edge may
pub lows_part : {s : List ℕ} {st : State} {a a' : Edge} {m k : ℕ} {b : Bool} → LowsRequires s st a m
    → IsCofactor s st a k b a' → LowsRequires s st a' m
lows_part {m = m} {k} {b} x p =
    record { small = x.small; zero = x.zero; no_clash = rw p.is (clash_fix (bits m) _ k b x.no_clash) }

module _ {c s : List ℕ} {st : State} {a : Edge} {m u : ℕ} (g : OperationRequires c s st a a) (x : LowsRequires s st a m)
    (is : u ≡ support_mask (tensor_of s st a)) where
  -- a depends on no index of m: a itself
  pub lows_none : bit_and m u ≡ 0 → RefinesCached c s s st st (lows (bits m) (tensor_of s st a)) (Ok a)
  lows_none z =
      cached_stays g g.left
      (lows_same (bits m) _ (none_common m _ (rw (← is) z)) (set_of s st) (edge_covers g.sound g.left))

  -- the weight taken out
  module _ (some : bit_and m u ≢ 0) where
    has_node : a.node ≢ 0
    has_node z = some (rw (is ∙ sym (support_leaf s st a z)) (and_zero_r m))

    has_weight : a.weight ≢ 0
    has_weight z = has_node (g.left.zero z)

    wn : Nonzero (to_weight a.weight)
    wn = nonzero_weight a.weight g.left.small has_weight

    pub lows_reduced_ready : OperationRequires c s st (record { weight = 1; node = a.node })
        (record { weight = 1; node = a.node })
    lows_reduced_ready =
        let v : Valid st.count (record { weight = 1; node = a.node }) = record {
          small = omega arith;
          within = g.left.within;
          zero = λ z. absurd (omega arith);
        } in
        record { sound = g.sound; left = v; right = v; cache = g.cache }

    reduced_no_clash : clash (bits m) (tensor_at (set_of s st) a.node) ≡ false
    unfolding tensor_of edge_in
    reduced_no_clash = clash_unscale (bits m) (to_weight a.weight) _ wn x.no_clash

    pub lows_reduced : LowsReduced s st (record { weight = 1; node = a.node }) m
    lows_reduced = record {
      one = refl;
      requires = record {
        small = x.small;
        zero = x.zero;
        no_clash = rw (one_tensor s st a.node) reduced_no_clash;
      };
      node = has_node;
    }

    pub lows_reduced_measure : edges_measure s st (record { weight = 1; node = a.node })
        (record { weight = 1; node = a.node }) ≡ edges_measure s st a a
    lows_reduced_measure = measure_same s st a a _ _ refl refl

    scaled : ScaledStep (to_weight a.weight) (lows (bits m) (tensor_at (set_of s st) a.node))
        (lows (bits m) (tensor_of s st a))
    unfolding tensor_of edge_in
    scaled = lows_scaled (to_weight a.weight) wn (bits m) _

    reduced_scaled : ScaledStep (to_weight a.weight)
        (lows (bits m) (tensor_of s st (record { weight = 1; node = a.node }))) (lows (bits m) (tensor_of s st a))
    reduced_scaled = rw (one_tensor s st a.node) scaled

    module _ {c' s' : List ℕ} {t : State} where
      pub lows_times : {e q : Edge}
          → RefinesCached c' s s' st t (lows (bits m) (tensor_of s st (record { weight = 1; node = a.node }))) (Ok e)
          → IsMultiple a.weight e q → RefinesCached c' s s' st t (lows (bits m) (tensor_of s st a)) (Ok q)
      lows_times w y = cached_scaled reduced_scaled g.left.small has_weight w y

      pub lows_times_full : {x : Full}
          → RefinesCached c' s s' st t (lows (bits m) (tensor_of s st (record { weight = 1; node = a.node }))) (Err x)
          → RefinesCached c' s s' st t (lows (bits m) (tensor_of s st a)) (Err x)
      lows_times_full w = cached_scaled_full reduced_scaled w

-- where the top goes
pub lower_in_member : (m k : ℕ) {x : Bool} → x ≡ bits m k → x ≡ true → k - 1 ≡ lower_in (bits m) k
lower_in_member m k h e = rw (sym h ∙ e)

pub lower_in_other : (m k : ℕ) {x : Bool} → x ≡ bits m k → x ≡ false → k ≡ lower_in (bits m) k
lower_in_other m k h e = rw (sym h ∙ e)

pub lower_in_some : (m k : ℕ) {x : Bool} → bits m 0 ≡ false → x ≡ bits m k → x ≡ true → 1 ≤ k
lower_in_some m k z h e = let n : k ≢ 0 = λ q. true≢false (sym e ∙ h ∙ ap (bits m) q ∙ z) in omega (arith, n)

lower_in_most : (m k : ℕ) → lower_in (bits m) k ≤ k
lower_in_most m k =
    cases (bits m k) (λ e. rw e (omega arith)) (λ e. rw e (omega arith))

-- an edge of weight 1 to a node
module _ {c s : List ℕ} {st : State} {a : Edge} {m : ℕ} (g : OperationRequires c s st a a)
    (x : LowsReduced s st a m) where
  pub lows_key_fits : KeyFits (record { op = ops.Lows; left = a.node; right = a.node; arg = m })
  lows_key_fits = record {
    left = omega (arith, g.left.within, g.sound.stored.numbered);
    right = omega (arith, g.left.within, g.sound.stored.numbered);
    arg = x.requires.small;
  }

  pub lows_key_step : lows (bits m) (tensor_of s st a)
      ≡ key_step s st (record { op = ops.Lows; left = a.node; right = a.node; arg = m })
  unfolding key_step op_step tensor_of edge_in
  lows_key_step = rw (x.one, weight_one, scale_one)

  pub lows_known : (T : Tensor indices) × Writes T (lows (bits m) (tensor_of s st a))
  lows_known = (_, lows_writes (bits m) (tensor_of s st a))

  module _ {k : ℕ} (level : k ≡ level_of s st a) where
    pub lows_inside : k < index_count
    lows_inside = omega (arith, level, index_inside s st g.sound a g.left x.node)

    pub lows_lowest : k ≡ lowest_of s st a a
    lows_lowest = omega (arith, level)

    pub lows_fixable : CofactorRequires s st a k
    lows_fixable = record { valid = g.left; inside = lows_inside; level = omega (arith, level) }

    top_k : top (tensor_of s st a) ≡ some k
    top_k = top_node g.sound g.left x.node ∙ ap some (sym level)

    -- low part, high part, joined where k goes
    pub lows_whole : lows (bits m) (tensor_of s st a)
        ≡ both (lows_first (bits m)) k (tensor_of s st a) (tensor_of s st a) (join (lower_in (bits m) k))
    lows_whole = lows_both (bits m) k _ x.requires.zero x.requires.no_clash top_k

    pub lows_parts_at : PartsGrow (tensor_of s st a) (tensor_of s st a) k (lower_in (bits m) k) (lows_first (bits m))
        (join (lower_in (bits m) k))
    lows_parts_at = record {
      not_above = lower_in_most m k;
      rec_grows = λ b z. writes_grows (lows_writes (bits m) _) z;
      final_grows = λ X Y z. join_grows _ X Y z;
      rec_from = λ b z. rw (writes_answer (lows_writes (bits m) (fix k b (tensor_of s st a))) z)
          (lowered_part (bits m) k _ x.requires.zero x.requires.no_clash top_k b);
    }

-- the low part
module _ {c s : List ℕ} {st : State} {a a0 : Edge} {m k : ℕ} (g : OperationRequires c s st a a)
    (x : LowsReduced s st a m) (level : k ≡ level_of s st a)
    (c0 : IsCofactor s st a k false a0) where
  pub lows_low_full : {c₁ s₁ : List ℕ} {t : State} {y : Full}
      → RefinesCached c₁ s s₁ st t (lows (bits m) (tensor_of s st a0)) (Err y)
      → RefinesCached c₁ s s₁ st t (lows (bits m) (tensor_of s st a)) (Err y)
  lows_low_full w = low_part_full g (lows_inside g x level) (lows_lowest g x level) (lows_parts_at g x level)
      (lows_whole g x level) c0 c0 w

  module _ {c₁ s₁ : List ℕ} {t : State} {l : Edge}
      (w : RefinesCached c₁ s s₁ st t (lows (bits m) (tensor_of s st a0)) (Ok l)) where
    pub lows_high_ready : HighRequires c₁ s₁ t a a k (lower_in (bits m) k) l
    lows_high_ready = high_part_ready g (lows_inside g x level) (lows_lowest g x level) (lows_parts_at g x level)
        (lows_whole g x level) c0 c0 w

    pub lows_measure : edges_measure s₁ t a a ≡ edges_measure s st a a
    lows_measure = high_part_measure g (lows_inside g x level) (lows_lowest g x level) (lows_parts_at g x level)
        (lows_whole g x level) c0 c0 w

    -- a keeps its tensor
    pub lows_still : LowsReduced s₁ t a m
    lows_still = record {
      one = x.one;
      requires = record {
        small = x.requires.small;
        zero = x.requires.zero;
        no_clash = rw (tensor_kept s s₁ st t w.step.grown g.left) x.requires.no_clash;
      };
      node = x.node;
    }

    pub lows_low_refines : (c₂ s₂ : List ℕ) (u : State) (y : Result Edge Full)
        → RefinesCached c₂ s₁ s₂ t u (high_step (lows_first (bits m)) (join (lower_in (bits m) k)) k (tensor_of s₁ t a)
        (tensor_of s₁ t a) (tensor_of s₁ t l)) y
        → RefinesCached c₂ s s₂ st u (lows (bits m) (tensor_of s st a)) y
    lows_low_refines c₂ s₂ u y h = low_part_refines g (lows_inside g x level) (lows_lowest g x level)
        (lows_parts_at g x level) (lows_whole g x level) c0 c0 w c₂ s₂ u y h

-- the high part
module _ {c s : List ℕ} {st : State} {a a1 l : Edge} {m k : ℕ} (w : HighRequires c s st a a k (lower_in (bits m) k) l)
    (x : LowsReduced s st a m) (c1 : IsCofactor s st a k true a1) where
  level : k ≡ level_of s st a
  level = omega (arith, w.lowest)

  u : PartsGrow (tensor_of s st a) (tensor_of s st a) k (lower_in (bits m) k) (lows_first (bits m))
      (join (lower_in (bits m) k))
  u = lows_parts_at w.ready x level

  pub lows_high_full : {c₁ s₁ : List ℕ} {t : State} {y : Full}
      → RefinesCached c₁ s s₁ st t (lows (bits m) (tensor_of s st a1)) (Err y)
      → RefinesCached c₁ s s₁ st t (high_step (lows_first (bits m)) (join (lower_in (bits m) k)) k (tensor_of s st a)
      (tensor_of s st a) (tensor_of s st l)) (Err y)
  lows_high_full h = high_part_full w u c1 c1 h

  module _ {c₁ s₁ : List ℕ} {t : State} {y : Edge}
      (h : RefinesCached c₁ s s₁ st t (lows (bits m) (tensor_of s st a1)) (Ok y)) {j : ℕ}
      (to : j ≡ lower_in (bits m) k) where
    pub lows_joinable : Sound s₁ t × JoinRequires s₁ t j l y
    lows_joinable = rw to ((high_ready w u c1 c1 h).sound, high_joinable w u c1 c1 h)

    pub lows_high_refines : (c₂ s₂ : List ℕ) (q : State) (z : Result Edge Full) → c₂ ≡ c₁
        → Refines s₁ s₂ t q (join j (tensor_of s₁ t l) (tensor_of s₁ t y)) z
        → RefinesCached c₂ s s₂ st q (high_step (lows_first (bits m)) (join (lower_in (bits m) k)) k (tensor_of s st a)
        (tensor_of s st a) (tensor_of s st l)) z
    lows_high_refines c₂ s₂ q z e d = high_part_refines w u c1 c1 h c₂ s₂ q z
        (cached_step s₂ q _ z (high_ready w u c1 c1 h) e (rw to at d))
