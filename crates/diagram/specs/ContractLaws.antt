-- Laws of contraction in the store: what each of its cases gives.
use Rattle.std.specs.Prelude.{◌≡◌, refl, ◌≢◌, Bool, true, false, cond, ◌||◌, List, ℕ, zero, suc, ◌≤◌, ◌<◌}
use Rattle.std.specs.Prelude.{Result, Ok, Err}
use Rattle.std.proofs.Math.Path.{ap}
use Rattle.std.proofs.Common.{sym, ◌∙◌, arith, le_refl}
use Rattle.field.specs.Weight.{to_weight, 1w, times_w, Nonzero}
use Rattle.field.specs.Field.{Represents}
use Rattle.field.specs.RingLaws.{nonzero_weight, weight_one, weight_zero, one_nonzero, nonzero_not}
use Rattle.field.specs.InverseLaws.{times_nonzero}
use Rattle.std.proofs.lemmas.Bool.{or_right}
use Rattle.diagram.specs.TabulateLaws.{bits_none}
use Rattle.diagram.specs.Tensor.{Tensor, bits, constant, is_zero, scale, fix, without, members, power2, indices}
use Rattle.diagram.specs.Tensor.{indices_count, members_from, masks, index_count}
use Rattle.diagram.specs.TensorLaws.{scale_one}
use Rattle.diagram.specs.TopLaws.{free_below_fix, free_below_times}
use Rattle.diagram.specs.SumOverLaws.{free_below_over}
use Rattle.diagram.specs.Tally.{Set, both, join, sum, cont}
use Rattle.diagram.specs.Sets.{PrefixOf}
use Rattle.diagram.specs.TallyStep.{ScaledStep, Writes}
use Rattle.diagram.specs.TallySumLaws.{sum_grows}
use Rattle.diagram.specs.TallyContLaws.{cont_meaning, cont_grows, cont_scaled, cont_writes, cont_comm}
use Rattle.diagram.specs.TallyCasesLaws.{cont_zero, cont_both}
use Rattle.diagram.specs.TallyShareLaws.{two_nonzero, cont_constant, cont_below, scaled_trans, two_power}
use Rattle.diagram.specs.Reach.{Covers}
use Rattle.diagram.specs.Meaning.{tensor_at, edge_in, nought}
use Rattle.diagram.specs.MeaningLaws.{at_zero}
use Rattle.diagram.specs.Store.{set_of, tensor_of, Refines}
use Rattle.diagram.specs.StoreLaws.{zero_edge, join_grows}
use Rattle.diagram.specs.EdgeLaws.{free_below_level, level_most, level_none}
use Rattle.diagram.specs.Cache.{KeyFits, op_step, key_step}
use Rattle.diagram.specs.Mask.{MaskWithout, MaskFrom}
use Rattle.diagram.specs.Operation.{OperationRequires, RefinesCached, lowest_of, high_step}
use Rattle.diagram.specs.Operation.{HighRequires, edges_measure, PartsGrow}
use Rattle.diagram.specs.OperationLaws.{cached_stays, cached_step, cached_scaled, cached_scaled_full}
use Rattle.diagram.specs.Edge.{IsMultiple, IsCofactor}
use Rattle.diagram.specs.Join.{JoinRequires}
use Rattle.diagram.specs.OperationHalvesLaws.{measure_same, inside, tops, edge_covers, one_tensor}
use Rattle.diagram.specs.OperationHalvesLaws.{low_part_full, high_part_ready, high_part_measure, low_part_refines}
use Rattle.diagram.specs.OperationHalvesLaws.{high_part_full, high_ready, high_joinable, high_part_refines}
use Rattle.diagram.specs.SumLaws.{zero_tensor, nonzero_tensor}
use Rattle.diagram.specs.Contract.{ContractReduced, combine, FactoredEnsures, cont_without}
use Rattle.diagram.specs.declared.node.Edge.{Edge}
use Rattle.diagram.specs.declared.make.State.{State}
use Rattle.diagram.specs.declared.cache.Op.TheVariants as ops
use Rattle.diagram.specs.declared.diagram.Full.{Full}

pub factored_by : (p u v w m k r : ℕ) → Represents p (power2 (members k (bits m)))
    → Represents u (times_w (to_weight v) (to_weight w))
    → Represents r (times_w (to_weight p) (to_weight u)) → FactoredEnsures v w m k r
factored_by p u v w m k r x y z = rw (← x.is, ← y.is) z

-- "zero if either is zero"

module _ {c s : List ℕ} {st : State} {a b : Edge} (g : OperationRequires c s st a b) (m : ℕ) where
  nothing : (is_zero (tensor_of s st a) || is_zero (tensor_of s st b)) ≡ true
      → RefinesCached c s s st st (cont (tensor_of s st a) (tensor_of s st b) (bits m))
      (Ok nought)
  nothing z =
      cached_stays g (record { small = omega arith; within = omega arith; zero = λ _. refl })
      (cont_zero _ _ _ (bits m) z ∙ ap (λ T. (T, set_of s st)) (sym (zero_edge g.sound nought refl)))

  pub contract_left : a.weight ≡ 0
      → RefinesCached c s s st st (cont (tensor_of s st a) (tensor_of s st b) (bits m))
      (Ok nought)
  contract_left z = nothing (rw (zero_tensor g.sound a z) refl)

  pub contract_right : b.weight ≡ 0
      → RefinesCached c s s st st (cont (tensor_of s st a) (tensor_of s st b) (bits m))
      (Ok nought)
  contract_right z = nothing (or_right (is_zero (tensor_of s st a)) _ (zero_tensor g.sound b z))

-- the weights and the members of S below both tops taken out

power_nonzero : (n : ℕ) → Nonzero (power2 n)
power_nonzero zero = unfold power2 in one_nonzero
power_nonzero (suc n) = rw (← two_power n) (times_nonzero (power_nonzero n) two_nonzero)

module _ {c s : List ℕ} {st : State} {a b : Edge} {m k v rest : ℕ} (g : OperationRequires c s st a b) (l : m < masks)
    (na : a.weight ≢ 0) (nb : b.weight ≢ 0)
    (kl : k ≡ lowest_of s st a b) (vis : FactoredEnsures a.weight b.weight m k v) (ris : MaskFrom m k rest) where
  abbrev TA : Tensor indices
  TA = tensor_at (set_of s st) a.node

  abbrev TB : Tensor indices
  TB = tensor_at (set_of s st) b.node

  wa : Nonzero (to_weight a.weight)
  wa = nonzero_weight a.weight g.left.small na

  wb : Nonzero (to_weight b.weight)
  wb = nonzero_weight b.weight g.right.small nb

  pub factor_nonzero : v ≢ 0
  factor_nonzero z =
      nonzero_not (times_nonzero (power_nonzero (members k (bits m))) (times_nonzero wa wb))
      (sym vis.is ∙ ap to_weight z ∙ weight_zero)

  factors : ScaledStep (times_w (to_weight a.weight) (to_weight b.weight)) (cont TA TB (members_from k (bits m)))
      (cont (tensor_of s st a) (tensor_of s st b) (members_from k (bits m)))
  unfolding tensor_of edge_in
  factors = cont_scaled _ _ wa wb _ _ _

  scaled : ScaledStep (to_weight v) (cont TA TB (bits rest)) (cont (tensor_of s st a) (tensor_of s st b) (bits m))
  scaled = rw (vis.is, ris.is) (scaled_trans factors
      (cont_below k (rw indices_count (omega (arith, level_most s st g.sound a g.left))) _ _ (bits m)
      (free_below_level s st g.sound a k g.left (omega arith))
      (free_below_level s st g.sound b k g.right (omega arith))))

  -- a constant, and no index left: all that the other reaches is among the nodes, so nothing is put in

  covers : (n : ℕ) → n ≤ st.count → Covers (set_of s st) (tensor_at (set_of s st) n)
  covers n q = rw (← one_tensor s st n) (edge_covers g.sound
      (record { small = omega arith; within = q; zero = λ z. absurd (omega arith) }))

  node_edge : (n : ℕ)
      → scale (to_weight v) (scale 1w (tensor_at (set_of s st) n)) ≡ tensor_of s st (record { weight = v; node = n })
  unfolding tensor_of edge_in
  node_edge n = ap (scale (to_weight v)) (scale_one _)

  one_left : (n : ℕ) → n ≤ st.count
      → cont TA TB (bits rest) (set_of s st) ≡ (scale 1w (tensor_at (set_of s st) n), set_of s st)
      → RefinesCached c s s st st (cont (tensor_of s st a) (tensor_of s st b) (bits m))
      (Ok (record { weight = v; node = n }))
  one_left n q e =
      cached_stays g (record { small = vis.small; within = q; zero = λ z. absurd (factor_nonzero z) })
      (scaled.is (set_of s st) ∙ rw e (ap (λ T. (T, set_of s st)) (node_edge n)))

  pub constant_right : b.node ≡ 0 → rest ≡ 0
      → RefinesCached c s s st st (cont (tensor_of s st a) (tensor_of s st b) (bits m))
      (Ok (record { weight = v; node = a.node }))
  constant_right y z =
      one_left a.node g.left.within
      (rw (y, z, at_zero (set_of s st)) (cont_constant 1w one_nonzero (bits 0) bits_none (set_of s st) _
      (covers a.node g.left.within)))

  pub constant_left : a.node ≡ 0 → rest ≡ 0
      → RefinesCached c s s st st (cont (tensor_of s st a) (tensor_of s st b) (bits m))
      (Ok (record { weight = v; node = b.node }))
  constant_left y z =
      one_left b.node g.right.within
      (rw (y, z, at_zero (set_of s st), cont_comm (constant indices 1w))
      (cont_constant 1w one_nonzero (bits 0) bits_none (set_of s st) _ (covers b.node g.right.within)))

  -- two constants have no index left, so what comes here has a node
  both_constant : a.node ≡ 0 → b.node ≡ 0 → rest ≡ 0
  both_constant x y =
      let top : k ≡ index_count = omega (arith, kl, level_none s st g.sound a x, level_none s st g.sound b y) in
      ris.none (rw top l)

  pub contract_reduced_some : (rest ≡ 0 → b.node ≢ 0)
      → ContractReduced (record { weight = 1; node = a.node }) (record { weight = 1; node = b.node }) rest
  contract_reduced_some h =
      record { left = refl; right = refl; some = λ x y. h (both_constant x y) y; mask = omega (arith, ris.most, l) }

  pub contract_reduced_ready : OperationRequires c s st (record { weight = 1; node = a.node })
      (record { weight = 1; node = b.node })
  contract_reduced_ready = record {
    sound = g.sound;
    left = record { small = omega arith; within = g.left.within; zero = λ z. absurd (omega arith) };
    right = record { small = omega arith; within = g.right.within; zero = λ z. absurd (omega arith) };
    cache = g.cache;
  }

  pub contract_reduced_measure : edges_measure s st (record { weight = 1; node = a.node })
      (record { weight = 1; node = b.node }) ≡ edges_measure s st a b
  contract_reduced_measure = measure_same s st a b _ _ refl refl

  reduced_is : (n : ℕ) → tensor_of s st (record { weight = 1; node = n }) ≡ tensor_at (set_of s st) n
  unfolding tensor_of edge_in
  reduced_is n = rw weight_one (scale_one _)

  reduced_scaled : ScaledStep (to_weight v) (cont (tensor_of s st (record { weight = 1; node = a.node }))
      (tensor_of s st (record { weight = 1; node = b.node })) (bits rest))
      (cont (tensor_of s st a) (tensor_of s st b) (bits m))
  reduced_scaled = rw (reduced_is, reduced_is) scaled

  module _ {c' s' : List ℕ} {t : State} where
    pub contract_times : {e q : Edge}
        → RefinesCached c' s s' st t (cont (tensor_of s st (record { weight = 1; node = a.node }))
        (tensor_of s st (record { weight = 1; node = b.node })) (bits rest)) (Ok e)
        → IsMultiple v e q
        → RefinesCached c' s s' st t (cont (tensor_of s st a) (tensor_of s st b) (bits m)) (Ok q)
    contract_times w x = cached_scaled reduced_scaled vis.small factor_nonzero w x

    pub contract_times_full : {x : Full}
        → RefinesCached c' s s' st t (cont (tensor_of s st (record { weight = 1; node = a.node }))
        (tensor_of s st (record { weight = 1; node = b.node })) (bits rest)) (Err x)
        → RefinesCached c' s s' st t (cont (tensor_of s st a) (tensor_of s st b) (bits m)) (Err x)
    contract_times_full w = cached_scaled_full reduced_scaled w

-- edges of weight 1
module _ {c s : List ℕ} {st : State} {a b : Edge} {m : ℕ} (g : OperationRequires c s st a b)
    (p : ContractReduced a b m) where
  pub contract_key_fits : KeyFits (record { op = ops.Contract; left = a.node; right = b.node; arg = m })
  contract_key_fits = record {
    left = omega (arith, g.left.within, g.sound.stored.numbered);
    right = omega (arith, g.right.within, g.sound.stored.numbered);
    arg = p.mask;
  }

  pub contract_key_step : cont (tensor_of s st a) (tensor_of s st b) (bits m) ≡ key_step s st
      (record { op = ops.Contract; left = a.node; right = b.node; arg = m })
  unfolding key_step op_step tensor_of edge_in
  contract_key_step = simp (p.left, p.right, weight_one, scale_one)

  pub contract_known : (T : Tensor indices) × Writes T (cont (tensor_of s st a) (tensor_of s st b) (bits m))
  contract_known = (_, cont_writes _ _ _)

  one_not : {w : ℕ} → w ≡ 1 → w ≢ 0
  one_not e z = omega arith

  pub contract_whole : {k : ℕ} → k ≡ lowest_of s st a b
      → cont (tensor_of s st a) (tensor_of s st b) (bits m)
      ≡ both (cont_without k m) k (tensor_of s st a) (tensor_of s st b)
      (combine k m)
  contract_whole {k} q =
      cont_both _ _ (set_of s st) (bits m)
      (rw (nonzero_tensor g.sound g.left (one_not p.left))
      (nonzero_tensor g.sound g.right (one_not p.right)))
      k (tops g p.some q)

pub contract_parts_at : {c s : List ℕ} {st : State} {a b : Edge} {k : ℕ} (m : ℕ) → OperationRequires c s st a b
    → k ≡ lowest_of s st a b
    → PartsGrow (tensor_of s st a) (tensor_of s st b) k k (cont_without k m) (combine k m)
contract_parts_at {s = s} {st} {a} {b} {k} m g e = record {
  not_above = le_refl k;
  rec_grows = λ x z. cont_grows _ _ _ z;
  final_grows = λ X Y z. final (bits m k) X Y z;
  rec_from = λ x z. rw (cont_meaning (fix k x (tensor_of s st a)) (fix k x (tensor_of s st b)) (without k (bits m)) z)
      (free_below_over (suc k) _ _ (free_below_times (suc k) _ _
      (free_below_fix k x _ (free_below_level s st g.sound a k g.left (omega (arith, e))))
      (free_below_fix k x _ (free_below_level s st g.sound b k g.right (omega (arith, e))))));
}
  where
    final : (x : Bool) (X Y : Tensor indices) (z : Set indices) → PrefixOf z (cond x sum (join k) X Y z).1
    final true X Y z = sum_grows X Y z
    final false X Y z = join_grows k X Y z

-- the low parts, over the set r, which is S without k
module _ {c s : List ℕ} {st : State} {a b a0 b0 : Edge} {m k r : ℕ} (g : OperationRequires c s st a b)
    (p : ContractReduced a b m) (e : k ≡ lowest_of s st a b) (o : MaskWithout m k r)
    (ca : IsCofactor s st a k false a0) (cb : IsCofactor s st b k false b0) where
  v : PartsGrow (tensor_of s st a) (tensor_of s st b) k k (cont_without k m) (combine k m)
  v = contract_parts_at m g e

  pub contract_low_full : {c₁ s₁ : List ℕ} {t : State} {x : Full}
      → RefinesCached c₁ s s₁ st t (cont (tensor_of s st a0) (tensor_of s st b0) (bits r)) (Err x)
      → RefinesCached c₁ s s₁ st t (cont (tensor_of s st a) (tensor_of s st b) (bits m)) (Err x)
  contract_low_full w =
      low_part_full g (inside g p.some e) e v (contract_whole g p e) ca cb (rw o.is at w)

  module _ {c₁ s₁ : List ℕ} {t : State} {l : Edge}
      (w : RefinesCached c₁ s s₁ st t (cont (tensor_of s st a0) (tensor_of s st b0) (bits r)) (Ok l)) where
    low_reduced : RefinesCached c₁ s s₁ st t (cont_without k m (tensor_of s st a0) (tensor_of s st b0)) (Ok l)
    low_reduced = rw o.is at w

    pub contract_high_ready : HighRequires c₁ s₁ t a b k k l
    contract_high_ready = high_part_ready g (inside g p.some e) e v (contract_whole g p e) ca cb low_reduced

    pub contract_measure : edges_measure s₁ t a b ≡ edges_measure s st a b
    contract_measure = high_part_measure g (inside g p.some e) e v (contract_whole g p e) ca cb low_reduced

    pub contract_low_refines : (c₂ s₂ : List ℕ) (u : State) (y : Result Edge Full)
        → RefinesCached c₂ s₁ s₂ t u (high_step (cont_without k m) (combine k m) k (tensor_of s₁ t a)
        (tensor_of s₁ t b) (tensor_of s₁ t l)) y
        → RefinesCached c₂ s s₂ st u (cont (tensor_of s st a) (tensor_of s st b) (bits m)) y
    contract_low_refines c₂ s₂ u y h =
        low_part_refines g (inside g p.some e) e v (contract_whole g p e) ca cb low_reduced c₂ s₂ u y h

-- the high parts
module _ {c s : List ℕ} {st : State} {a b a1 b1 l : Edge} {m k r : ℕ} (w : HighRequires c s st a b k k l)
    (o : MaskWithout m k r)
    (ca : IsCofactor s st a k true a1) (cb : IsCofactor s st b k true b1) where
  u : PartsGrow (tensor_of s st a) (tensor_of s st b) k k (cont_without k m) (combine k m)
  u = contract_parts_at m w.ready w.lowest

  pub contract_high_full : {c₁ s₁ : List ℕ} {t : State} {x : Full}
      → RefinesCached c₁ s s₁ st t (cont (tensor_of s st a1) (tensor_of s st b1) (bits r)) (Err x)
      → RefinesCached c₁ s s₁ st t (high_step (cont_without k m) (combine k m) k (tensor_of s st a) (tensor_of s st b)
      (tensor_of s st l)) (Err x)
  contract_high_full h = high_part_full w u ca cb (rw o.is at h)

  module _ {c₁ s₁ : List ℕ} {t : State} {y : Edge}
      (h : RefinesCached c₁ s s₁ st t (cont (tensor_of s st a1) (tensor_of s st b1) (bits r)) (Ok y)) where
    high_reduced : RefinesCached c₁ s s₁ st t (cont_without k m (tensor_of s st a1) (tensor_of s st b1)) (Ok y)
    high_reduced = rw o.is at h

    pub contract_combine_requires : OperationRequires c₁ s₁ t l y × JoinRequires s₁ t k l y
    contract_combine_requires = (high_ready w u ca cb high_reduced, high_joinable w u ca cb high_reduced)

    pub contract_high_refines : (c₂ s₂ : List ℕ) (q : State) (z : Result Edge Full)
        → RefinesCached c₂ s₁ s₂ t q (combine k m (tensor_of s₁ t l) (tensor_of s₁ t y)) z
        → RefinesCached c₂ s s₂ st q (high_step (cont_without k m) (combine k m) k (tensor_of s st a) (tensor_of s st b)
        (tensor_of s st l)) z
    contract_high_refines c₂ s₂ q z d = high_part_refines w u ca cb high_reduced c₂ s₂ q z d

-- "the answer is sum(L,H) if k is in S, else join(k,L,H)"
module _ (m k : ℕ) {x : Bool} (e : x ≡ bits m k) where
  pub combine_sum : (c' s s' : List ℕ) (st t : State) (L H : Tensor indices) (r : Result Edge Full) → x ≡ true
      → RefinesCached c' s s' st t (sum L H) r
      → RefinesCached c' s s' st t (combine k m L H) r
  combine_sum c' s s' st t L H r q w = rw (sym e ∙ q) w

  pub combine_join : {c c' s : List ℕ} {st : State} {l h : Edge} (s' : List ℕ) (t : State) (L H : Tensor indices)
      (r : Result Edge Full)
      → x ≡ false → OperationRequires c s st l h → c' ≡ c
      → Refines s s' st t (join k L H) r
      → RefinesCached c' s s' st t (combine k m L H) r
  combine_join s' t L H r q g p d = rw (sym e ∙ q) (cached_step s' t _ r g p d)
