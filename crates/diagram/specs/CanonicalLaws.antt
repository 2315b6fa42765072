-- Laws of canonical lists: a node more, normal tensors and tops of nodes, an edge is determined by its tensor, all that
-- edges reach is there.
use Rattle.std.specs.Prelude.{◌≡◌, ◌≢◌, true, false, Bool, List, [], ◌∷◌, ◌++◌, ℕ, suc, ◌-◌, ◌≤◌, zero, length}
use Rattle.std.proofs.Math.Path.{refl, ap₂, sym}
use Rattle.std.proofs.Common.{ap, ◌∙◌, true≢false, arith, length-append}
use Rattle.std.proofs.Math.Option.{some}
use Rattle.std.proofs.Math.Decide.{ℕ_discrete}
use Rattle.field.specs.Weight.{Weight, to_weight, 0w, 1w, Nonzero, times_w, same_w}
use Rattle.field.specs.RingLaws.{weight_injective, nonzero_weight, weight_zero, one_nonzero, not_zero, same_w_eq}
use Rattle.std.proofs.Math.Option.{some-injective}
use Rattle.diagram.specs.Tensor.{top, fix, joined, constant, is_zero, scale, first, Normal, Tensor, normal}
use Rattle.diagram.specs.TopLaws.{top_joined, free_below_constant, top_free_below, free_below_less, top_is}
use Rattle.diagram.specs.TopLaws.{top_constant}
use Rattle.diagram.specs.TopFreeLaws.{joined_low, joined_high, first_one, free_below_scale}
use Rattle.diagram.specs.Tally.{Set, member}
use Rattle.diagram.specs.Sets.{PrefixOf}
use Rattle.diagram.specs.Meaning.{tensor_at, edge_in, node_tensor, tensors, node_in, level, Valid}
use Rattle.diagram.specs.MeaningLaws.{at_kept, at_new, edge_kept, node_kept, node_new, tensors_more}
use Rattle.diagram.specs.MeaningLaws.{tensors_length, level_constant, at_zero, member_node}
use Rattle.diagram.specs.Canonical.{NormalNode, Canonical}
use Rattle.diagram.specs.TensorLaws.{first_constant, scale_one, zero_scale, is_zero_constant, scale_scale}
use Rattle.diagram.specs.TensorLaws.{fix_scale}
use Rattle.diagram.specs.Top.{FreeBelow}
use Rattle.diagram.specs.TensorScaleLaws.{is_zero_scale, top_scale, unique_weight, unique_tensor, normal_scale}
use Rattle.diagram.specs.TensorScaleLaws.{normal_same}
use Rattle.diagram.specs.NodeLaws.{edge_eq}
use Rattle.diagram.specs.TestLaws.{cases, no_some}
use Rattle.diagram.specs.Reach.{Reachable, itself, part, Covers}
use Rattle.diagram.specs.declared.node.Node.{Node}
use Rattle.diagram.specs.declared.node.Edge.{Edge}

-- a node in normal form: its top is its index, its cofactors are its edges' tensors

module _ {d m : ℕ} {ts : Set d} {x : Node} (h : NormalNode ts m x) where
  pub normal_node_top : top (node_tensor ts x) ≡ some x.index
  unfolding node_tensor
  normal_node_top = top_joined x.index _ _ h.index h.from_low h.from_high h.differ

  pub normal_node_low : fix x.index false (node_tensor ts x) ≡ edge_in ts x.low
  unfolding node_tensor
  normal_node_low = joined_low x.index _ _ h.index h.from_low

  pub normal_node_high : fix x.index true (node_tensor ts x) ≡ edge_in ts x.high
  unfolding node_tensor
  normal_node_high = joined_high x.index _ _ h.index h.from_high

-- it stays so while the list grows
module _ {d m : ℕ} {ts us : Set d} {x : Node} (p : m ≤ length ts) (h : NormalNode ts m x) (g : PrefixOf ts us) where
  pub node_tensor_kept : node_tensor us x ≡ node_tensor ts x
  unfolding node_tensor
  node_tensor_kept = ap₂ (joined x.index) (edge_kept p h.low g) (edge_kept p h.high g)

  pub normal_node_kept : NormalNode us m x
  normal_node_kept =
      let low = edge_kept p h.low g in
      let high = edge_kept p h.high g in
      record {
        index = h.index;
        low = h.low;
        high = h.high;
        from_low = rw low h.from_low;
        from_high = rw high h.from_high;
        differ = rw (low, high) h.differ;
        one = rw node_tensor_kept h.one;
        mask = rw node_tensor_kept h.mask;
      }

-- building a canonical list

pub canonical_none : (d : ℕ) → Canonical d []
canonical_none d = record {
  each = λ n p q. absurd (omega arith);
  meaning = λ n p q. absurd (omega arith);
  unique = λ n m p q e. omega arith;
}

-- one more node, of a tensor that no node has
module _ (d : ℕ) (xs : List Node) (x : Node) (c : Canonical d xs) (h : NormalNode (tensors d xs) (length xs) x)
    (new : (n : ℕ) → n ≤ length xs → tensor_at (tensors d xs) n ≢ node_tensor (tensors d xs) x) where
  abbrev ts : Set d
  ts = tensors d xs

  abbrev us : Set d
  us = ts ++ (node_tensor ts x ∷ [])

  abbrev ys : List Node
  ys = xs ++ (x ∷ [])

  g : PrefixOf ts us
  g = record { more = node_tensor ts x ∷ []; is = refl }

  len : length ts ≡ length xs
  len = tensors_length d xs

  here : tensor_at us (suc (length xs)) ≡ node_tensor ts x
  here = at_new ts (node_tensor ts x) (suc (length xs)) (ap suc len)

  old : (n : ℕ) → n ≤ length xs → tensor_at us n ≡ tensor_at ts n
  old n p = at_kept n (omega (arith, len)) g

  -- what node n of the longer list says
  record AtNode (n : ℕ) : Type 0 where
    pub each : NormalNode us (n - 1) (node_in d ys n)
    pub meaning : tensor_at us n ≡ node_tensor us (node_in d ys n)

  at_node : (n : ℕ) → 1 ≤ n → n ≤ suc (length xs) → Dec (n ≡ suc (length xs)) → AtNode n
  at_node n p q (yes e) =
      let back : suc (length xs) - 1 ≡ length xs = omega arith in
      let l : length xs ≤ length ts = omega (arith, len) in
      rw e record {
        each = rw (node_new d xs x (suc (length xs)) refl, back) (normal_node_kept l h g);
        meaning = rw (node_new d xs x (suc (length xs)) refl) (here ∙ sym (node_tensor_kept l h g));
      }
  at_node n p q (no e) =
      let l : n ≤ length xs = omega arith in
      let k : n - 1 ≤ length ts = omega (arith, len) in
      record {
        each = rw (node_kept d xs (x ∷ []) n l) (normal_node_kept k (c.each n p l) g);
        meaning = rw (node_kept d xs (x ∷ []) n l) (old n l ∙ c.meaning n p l
            ∙ sym (node_tensor_kept k (c.each n p l) g));
      }

  apart : (n m : ℕ) → n ≤ suc (length xs) → m ≤ suc (length xs) → Dec (n ≡ suc (length xs)) → Dec (m ≡ suc (length xs))
      → tensor_at us n ≡ tensor_at us m → n ≡ m
  apart n m p q (yes a) (yes b) e = omega arith
  apart n m p q (yes a) (no b) e = absurd (new m (omega arith) (sym (old m (omega arith)) ∙ sym e ∙ rw a here))
  apart n m p q (no a) (yes b) e = absurd (new n (omega arith) (sym (old n (omega arith)) ∙ e ∙ rw b here))
  apart n m p q (no a) (no b) e =
      c.unique n m (omega arith) (omega arith) (sym (old n (omega arith)) ∙ e ∙ old m (omega arith))

  pub canonical_more : Canonical d (xs ++ (x ∷ []))
  canonical_more =
      let last : ℕ = suc (length xs) in
      let long : length ys ≡ last = length-append xs (x ∷ []) ∙ omega arith in
      record {
        each = λ n p q. rw (tensors_more d xs x) (at_node n p (rw long at q) (ℕ_discrete n last)).each;
        meaning = λ n p q. rw (tensors_more d xs x) (at_node n p (rw long at q) (ℕ_discrete n last)).meaning;
        unique = λ n m p q e. apart n m (rw long at p) (rw long at q) (ℕ_discrete n last) (ℕ_discrete m last)
            (rw (tensors_more d xs x) at e);
      }

module _ (d : ℕ) (xs : List Node) (c : Canonical d xs) where
  -- nodes

  -- node 0 too
  pub node_first : (n : ℕ) → n ≤ length xs → first (tensor_at (tensors d xs) n) ≡ 1w
  node_first zero p = rw (at_zero (tensors d xs)) (first_constant d 1w)
  node_first (suc n) p = rw (c.meaning (suc n) (omega arith) p) (c.each (suc n) (omega arith) p).one

  pub canonical_node_top : (n : ℕ) → 1 ≤ n → n ≤ length xs → top (tensor_at (tensors d xs) n) ≡ some
      (node_in d xs n).index
  canonical_node_top n p q = rw (c.meaning n p q) (normal_node_top (c.each n p q))

  pub canonical_node_normal : (n : ℕ) → 1 ≤ n → n ≤ length xs → Normal (tensor_at (tensors d xs) n)
  canonical_node_normal n p q = record {
    index = (node_in d xs n).index;
    depends = canonical_node_top n p q;
    one = node_first n q;
  }

  -- "No node's tensor is a multiple of another node's."
  pub canonical_node_multiple : (n m : ℕ) (f : Weight) → n ≤ length xs → m ≤ length xs
      → tensor_at (tensors d xs) n ≡ scale f (tensor_at (tensors d xs) m) → n ≡ m
  canonical_node_multiple n m f p q e =
      let nonzero : Nonzero f = not_zero f (λ z. true≢false (sym (is_zero_constant d)
      ∙ ap is_zero (sym (e ∙ ap (λ w. scale w (tensor_at (tensors d xs) m)) z ∙ zero_scale _))
      ∙ first_one _ (node_first n p))) in
      c.unique n m p q (unique_tensor 1w f _ _ one_nonzero nonzero (node_first n p) (node_first m q) (scale_one _ ∙ e))

  -- edges

  pub zero_weight : (e : Edge) → e.weight ≡ 0 → edge_in (tensors d xs) e ≡ constant d 0w
  unfolding edge_in
  zero_weight e z = rw (z, weight_zero) (zero_scale _)

  pub edge_is_zero : (e : Edge) → e.weight ≡ 0 → is_zero (edge_in (tensors d xs) e) ≡ true
  edge_is_zero e z = rw (zero_weight e z) (is_zero_constant d)

  pub edge_nonzero : (e : Edge) → Valid (length xs) e → e.weight ≢ 0 → is_zero (edge_in (tensors d xs) e) ≡ false
  unfolding edge_in
  edge_nonzero e v n =
      is_zero_scale _ _ (nonzero_weight e.weight v.small n) ∙ first_one _ (node_first e.node v.within)

  pub edge_zero_weight : (e : Edge) → Valid (length xs) e → is_zero (edge_in (tensors d xs) e) ≡ true → e.weight ≡ 0
  edge_zero_weight e v z =
      elim (ℕ_discrete e.weight 0) [ yes p ↦ p | no n ↦ absurd (true≢false (sym z ∙ edge_nonzero e v n)) ]

  -- an edge's tensor determines its weight and its node
  pub canonical_edge_unique : {e f : Edge} → Valid (length xs) e → Valid (length xs) f
      → edge_in (tensors d xs) e ≡ edge_in (tensors d xs) f → e ≡ f
  unfolding edge_in
  canonical_edge_unique {e} {f} v w q = go (ℕ_discrete e.weight 0) (ℕ_discrete f.weight 0)
    where
      go : Dec (e.weight ≡ 0) → Dec (f.weight ≡ 0) → e ≡ f
      go (yes a) b = let z = edge_zero_weight f w (ap is_zero (sym q) ∙ edge_is_zero e a) in edge_eq (a ∙ sym z)
          (v.zero a ∙ sym (w.zero z))
      go (no a) (yes b) = absurd (a (edge_zero_weight e v (ap is_zero q ∙ edge_is_zero f b)))
      go (no a) (no b) =
          let na = nonzero_weight e.weight v.small a in
          let nb = nonzero_weight f.weight w.small b in
          let fa = node_first e.node v.within in
          let fb = node_first f.node w.within in
          edge_eq (weight_injective _ _ v.small w.small (unique_weight _ _ _ _ na nb fa fb q))
          (c.unique _ _ v.within w.within (unique_tensor _ _ _ _ na nb fa fb q))

  -- the edge's tensor has the edge's level for its top
  pub edge_top : (e : Edge) → Valid (length xs) e → 1 ≤ e.node → top (edge_in (tensors d xs) e) ≡ some (level d xs e)
  unfolding edge_in level
  edge_top e v p =
      top_scale _ _ (nonzero_weight e.weight v.small (λ z. omega (arith, v.zero z)))
      ∙ canonical_node_top e.node p v.within

  pub edge_constant : (e : Edge) → e.node ≡ 0 → edge_in (tensors d xs) e ≡ scale (to_weight e.weight) (constant d 1w)
  unfolding edge_in
  edge_constant e z = rw (z, at_zero (tensors d xs))

  -- it depends on no index below its level, and the level is the most of these
  pub edge_free_below : (e : Edge) (j : ℕ) → Valid (length xs) e → j ≤ level d xs e
      → FreeBelow j (edge_in (tensors d xs) e)
  edge_free_below e j v p = go (ℕ_discrete e.node 0)
    where
      go : Dec (e.node ≡ 0) → FreeBelow j (edge_in (tensors d xs) e)
      go (yes z) = rw (edge_constant e z) (free_below_scale j _ _ (free_below_constant j d 1w))
      go (no n) = free_below_less j (level d xs e) _ p (top_is (level d xs e) _ (edge_top e v (omega arith)))

  pub edge_level : (e : Edge) (j : ℕ) → Valid (length xs) e → j ≤ d → FreeBelow j (edge_in (tensors d xs) e)
      → j ≤ level d xs e
  edge_level e j v p f = go (ℕ_discrete e.node 0)
    where
      go : Dec (e.node ≡ 0) → j ≤ level d xs e
      go (yes z) = rw (level_constant d xs e z) p
      go (no n) = rw (edge_top e v (omega arith)) at (top_free_below j (edge_in (tensors d xs) e) f)

module _ (d : ℕ) (xs : List Node) (s : Canonical d xs) where
  -- a multiple of a node's tensor that depends on k: the node has the index k
  seen : (c : Weight) (n k : ℕ) → n ≤ length xs → top (scale c (tensor_at (tensors d xs) n)) ≡ some k
      → Nonzero c × ((1 ≤ n) × ((node_in d xs n).index ≡ k))
  seen c n k p e = cases (same_w c 0w)
      (λ z. no_some (sym e ∙ ap (λ w. top (scale w (tensor_at (tensors d xs) n))) (same_w_eq c 0w z)
      ∙ ap top (zero_scale (tensor_at (tensors d xs) n)) ∙ top_constant d 0w))
      (λ z. go (record { is = z }) n p e)
    where
      go : Nonzero c → (n : ℕ) → n ≤ length xs → top (scale c (tensor_at (tensors d xs) n)) ≡ some k
          → Nonzero c × ((1 ≤ n) × ((node_in d xs n).index ≡ k))
      go z zero p e = no_some (sym e ∙ top_scale c (tensor_at (tensors d xs) zero) z ∙ ap top (at_zero (tensors d xs))
          ∙ top_constant d 1w)
      go z (suc n) p e = (
        z,
        (
          omega arith,
          some-injective _ _ (sym (canonical_node_top d xs s (suc n) (omega arith) p)
              ∙ sym (top_scale c (tensor_at (tensors d xs) (suc n)) z) ∙ e),
        ),
      )

  child : (b : Bool) (n : ℕ) → 1 ≤ n → n ≤ length xs
      → (e : Edge) × ((e.node ≤ length xs) × (fix (node_in d xs n).index b (tensor_at (tensors d xs) n) ≡ edge_in
      (tensors d xs) e))
  child false n p q = let h = s.each n p q in (
    (node_in d xs n).low,
    (omega (arith, h.low.within), ap (fix _ false) (s.meaning n p q) ∙ normal_node_low h),
  )
  child true n p q = let h = s.each n p q in (
    (node_in d xs n).high,
    (omega (arith, h.high.within), ap (fix _ true) (s.meaning n p q) ∙ normal_node_high h),
  )

  covered : (x T : Tensor d) → Reachable x T → (c : Weight) (n : ℕ) → n ≤ length xs
      → T ≡ scale c (tensor_at (tensors d xs) n) → member x (tensors d xs) ≡ true
  covered x T (itself k e q) c n p t =
      let v = seen c n k p (ap top (sym t) ∙ e) in
      member_node x (tensors d xs) n v.1.0 (omega (arith, p, tensors_length d xs))
      (sym (q ∙ ap normal t ∙ normal_scale c _ v.0 ∙ normal_same _ (node_first d xs s n p)))
  covered x T (part k e b r) c n p t =
      let v = seen c n k p (ap top (sym t) ∙ e) in
      let w = child b n v.1.0 p in
      covered x (fix k b T) r (times_w c (to_weight w.0.weight)) w.0.node w.1.0
      (ap (fix k b) t ∙ fix_scale k b c _ ∙ ap (scale c) (ap (λ i. fix i b (tensor_at (tensors d xs) n)) (sym v.1.1)
      ∙ w.1.1) ∙ (unfold edge_in in scale_scale _ _ _))

  -- what an edge of a sound list reaches is among its tensors
  pub sound_covers : (e : Edge) → Valid (length xs) e → Covers (tensors d xs) (edge_in (tensors d xs) e)
  unfolding edge_in
  sound_covers e v = record { is = λ x r. covered x _ r (to_weight e.weight) e.node v.within refl }
