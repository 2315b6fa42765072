-- Laws of joining two edges: the node in normal form is one of the list, or a new one that keeps it canonical.
use Rattle.std.specs.Prelude.{◌≡◌, ◌≢◌, ◌⊎◌, true, false, cond, Bool, List, [], ◌∷◌, ◌++◌, length}
use Rattle.std.proofs.Math.Path.{refl, ap, subst}
use Rattle.std.proofs.Common.{ap₂, sym, ◌∙◌, inl, inr, arith, length-append}
use Prim.Native.Nat.{ℕ, zero, suc, ◌^◌, ◌≤◌, ◌<◌}
use Rattle.std.specs.Int.Bits.{bit_or}
use Rattle.std.proofs.lemmas.Nat.{or_lt}
use Rattle.field.specs.Weight.{modulus, to_weight, 1w, times_w, inverse_w, Nonzero}
use Rattle.field.specs.RingLaws.{weight_injective, nonzero_weight, weight_one}
use Rattle.std.proofs.lemmas.Bool.{false≢true}
use Rattle.std.proofs.Math.Option.{some-injective}
use Rattle.std.proofs.Math.Pow.{pow-lt}
use Rattle.diagram.specs.Node.{same_edge}
use Rattle.diagram.specs.Tensor.{same, is_zero, scale, first, top, fix, joined, normal, indices, indices_count}
use Rattle.diagram.specs.Tensor.{index_count, masks}
use Rattle.diagram.specs.TensorLaws.{scale_scale, scale_one, joined_scale, same_eq, eq_same}
use Rattle.diagram.specs.TopLaws.{top_constant}
use Rattle.diagram.specs.Top.{FreeBelow}
use Rattle.diagram.specs.TensorScaleLaws.{same_scale, unscale, normal_scale, normal_same}
use Rattle.diagram.specs.TopFreeLaws.{free_below_scale, first_joined}
use Rattle.diagram.specs.Tally.{Set, member, join, Step}
use Rattle.diagram.specs.TallyCasesLaws.{join_present, join_new, join_same}
use Rattle.diagram.specs.NodeLaws.{node_eq, edge_eq, edge_told}
use Rattle.diagram.specs.Meaning.{tensor_at, edge_in, node_tensor, tensors, node_in, Valid}
use Rattle.diagram.specs.MeaningLaws.{valid_more, at_new, at_zero, tensors_more, tensors_length, member_node}
use Rattle.diagram.specs.MeaningLaws.{member_none}
use Rattle.diagram.specs.Canonical.{NormalNode, Canonical}
use Rattle.diagram.specs.CanonicalLaws.{normal_node_top, normal_node_low, normal_node_high, canonical_more}
use Rattle.diagram.specs.CanonicalLaws.{node_first, edge_is_zero, edge_nonzero, canonical_edge_unique}
use Rattle.diagram.specs.Normalise.{NormaliseEnsures, NormaliseRequires}
use Rattle.diagram.specs.NormaliseLaws.{weight_times_zero}
use Rattle.diagram.specs.Sets.{PrefixOf}
use Rattle.diagram.specs.SetsLaws.{prefix_refl}
use Rattle.diagram.specs.Node.{node_at}
use Rattle.diagram.specs.Table.{Absent}
use Rattle.diagram.specs.Make.{MakeAt, MakeFull, FoundOrAdded, old, new}
use Rattle.diagram.specs.Store.{nodes_of, set_of, tensor_of, Sound, RefinesEdge, RefinesFull}
use Rattle.diagram.specs.StoreLaws.{nodes_length, node_at_lem, refines_stays}
use Rattle.diagram.specs.Join.{JoinRequires, NodeMaskEnsures}
use Rattle.diagram.specs.Support.{support_mask}
use Rattle.diagram.specs.SupportLaws.{support_joined, support_scale}
use Rattle.diagram.specs.TestLaws.{cases, no_some}
use Rattle.diagram.specs.declared.node.Node.{Node}
use Rattle.diagram.specs.declared.node.Edge.{Edge}
use Rattle.diagram.specs.declared.make.State.{State}

module _ (d : ℕ) (xs : List Node) (c : Canonical d xs) where
  abbrev ts : Set d
  ts = tensors d xs

  -- none of the nodes is x
  abbrev Missing : Node → Type 0
  Missing x = (n : ℕ) → 1 ≤ n → n ≤ length xs → node_in d xs n ≢ x

  -- a node is seen from its tensor
  pub normal_node_unique : {m n : ℕ} (x y : Node) → m ≤ length xs → n ≤ length xs → NormalNode ts m x
      → NormalNode ts n y → node_tensor ts x ≡ node_tensor ts y → x ≡ y
  normal_node_unique x y p q h g e =
      let i : x.index ≡ y.index = some-injective _ _ (sym (normal_node_top h) ∙ ap top e ∙ normal_node_top g) in
      node_eq i
      (canonical_edge_unique d xs c (valid_more _ p h.low) (valid_more _ q g.low)
      (sym (normal_node_low h) ∙ ap₂ (λ k T. fix k false T) i e ∙ normal_node_low g))
      (canonical_edge_unique d xs c (valid_more _ p h.high) (valid_more _ q g.high)
      (sym (normal_node_high h) ∙ ap₂ (λ k T. fix k true T) i e ∙ normal_node_high g))
      (h.mask ∙ ap support_mask e ∙ sym g.mask)

  -- a node in normal form that is none of the nodes has a tensor that none of them has
  normal_node_new : (x : Node) → NormalNode ts (length xs) x → Missing x → (n : ℕ) → n ≤ length xs
      → tensor_at ts n ≢ node_tensor ts x
  normal_node_new x h a zero p e = no_some (sym (normal_node_top h) ∙ ap top (sym e ∙ at_zero ts) ∙ top_constant d 1w)
  normal_node_new x h a (suc n) p e =
      let g = c.each (suc n) (omega arith) p in
      a (suc n) (omega arith) p (normal_node_unique {n = length xs} _ x (omega arith) (omega arith) g h
      (sym (c.meaning (suc n) (omega arith) p) ∙ e))

  -- w times x is l and h joined at k, and the mask is that of the parts
  module _ (k : ℕ) (l h : Edge) (mask w : ℕ) (x : Node) (inside : k < d) (vl : Valid (length xs) l)
      (vh : Valid (length xs) h)
      (fl : FreeBelow (suc k) (edge_in ts l)) (fh : FreeBelow (suc k) (edge_in ts h)) (ne : l ≢ h)
      (z : NormaliseEnsures k l h mask w x)
      (is : mask ≡ bit_or (2 ^ k) (bit_or (support_mask (edge_in ts l)) (support_mask (edge_in ts h)))) where
    nonzero : Nonzero (to_weight w)
    nonzero = nonzero_weight w z.small z.nonzero

    -- w times the edge e is f
    record Part (e f : Edge) : Type 0 where
      pub scaled : scale (to_weight w) (edge_in ts e) ≡ edge_in ts f
      pub valid : Valid (length xs) e
      pub from : FreeBelow (suc k) (edge_in ts e)

    part : (e f : Edge) → e.weight < modulus → e.node ≡ f.node
        → times_w (to_weight w) (to_weight e.weight) ≡ to_weight f.weight
        → Valid (length xs) f → FreeBelow (suc k) (edge_in ts f) → Part e f
    part e f p q r v g =
        let s : scale (to_weight w) (edge_in ts e) ≡ edge_in ts f = unfold edge_in in scale_scale _ _ _
        ∙ rw (r, q) refl in
        record {
          scaled = s;
          valid = record {
            small = p;
            within = omega (arith, v.within);
            zero = λ y. q ∙ v.zero (weight_injective _ _ v.small (omega arith)
                (sym r ∙ rw y (weight_times_zero w)));
          };
          from = subst (FreeBelow (suc k)) (ap (scale (inverse_w (to_weight w))) (sym s)
              ∙ unscale (edge_in ts e) nonzero)
              (free_below_scale (suc k) _ _ g);
        }

    low : Part x.low l
    low = part x.low l z.low_small z.low_node z.low_weight vl fl

    high : Part x.high h
    high = part x.high h z.high_small z.high_node z.high_weight vh fh

    scaled : joined k (edge_in ts l) (edge_in ts h) ≡ scale (to_weight w) (node_tensor ts x)
    unfolding node_tensor
    scaled = rw (z.index, ← low.scaled, ← high.scaled) (joined_scale k _ _ _)

    differ : same (edge_in ts l) (edge_in ts h) ≡ false
    differ =
        cases (same (edge_in ts l) (edge_in ts h))
        (λ e. absurd (ne (canonical_edge_unique d xs c vl vh (same_eq _ _ e))))
        (λ e. e)

    -- the first nonzero value of the node's tensor is 1
    first_edge : (e : Edge) → Valid (length xs) e → e.weight ≡ 1 → first (edge_in ts e) ≡ 1w
    unfolding edge_in
    first_edge e v o = rw (o, weight_one, scale_one) (node_first d xs c e.node v.within)

    leads : (x.low.weight ≡ 1) ⊎ ((x.low.weight ≡ 0) × (x.high.weight ≡ 1))
        → cond (is_zero (edge_in ts x.low)) (first (edge_in ts x.high)) (first (edge_in ts x.low)) ≡ 1w
    leads (inl e) =
        rw (edge_nonzero d xs c x.low low.valid (λ q. omega arith)) (first_edge x.low low.valid e)
    leads (inr e) = rw (edge_is_zero d xs c x.low e.0) (first_edge x.high high.valid e.1)

    first_node : first (node_tensor ts x) ≡ 1w
    unfolding node_tensor
    first_node = rw z.index (first_joined k _ _ inside low.from high.from ∙ leads z.leading)

    node_mask : x.mask ≡ support_mask (node_tensor ts x)
    node_mask =
        z.same_mask ∙ is ∙ sym (support_joined k _ _ inside fl fh differ) ∙ ap support_mask scaled
        ∙ support_scale (to_weight w) (node_tensor ts x) nonzero

    in_form : NormalNode ts (length xs) x
    in_form =
        record {
          index = rw z.index inside;
          low = low.valid;
          high = high.valid;
          from_low = rw z.index low.from;
          from_high = rw z.index high.from;
          differ = sym (same_scale (to_weight w) _ _ nonzero) ∙ rw (low.scaled, high.scaled) differ;
          one = first_node;
          mask = node_mask;
        }

    normal_is : normal (joined k (edge_in ts l) (edge_in ts h)) ≡ node_tensor ts x
    normal_is = rw scaled (normal_scale _ _ nonzero ∙ normal_same _ first_node)

    edge_of : (us : Set d) (n : ℕ) → tensor_at us n ≡ node_tensor ts x
        → joined k (edge_in ts l) (edge_in ts h) ≡ edge_in us (record { weight = w; node = n })
    unfolding edge_in
    edge_of us n e = scaled ∙ ap (scale (to_weight w)) (sym e)

    -- the node is there
    pub join_old : (n : ℕ) → 1 ≤ n → n ≤ length xs → node_in d xs n ≡ x
        → join k (edge_in ts l) (edge_in ts h) ts ≡ (edge_in ts (record { weight = w; node = n }), ts)
    join_old n p q e =
        let m : tensor_at ts n ≡ node_tensor ts x = c.meaning n p q ∙ ap (node_tensor ts) e in
        join_present k _ _ ts differ (rw normal_is (member_node _ ts n p (omega (arith, q, tensors_length d xs)) m))
        ∙ ap (λ T. (T, ts)) (edge_of ts n m)

    -- the node is new
    module _ (a : Missing x) where
      absent : member (normal (joined k (edge_in ts l) (edge_in ts h))) ts ≡ false
      absent = rw normal_is (member_none _ ts (λ n p. normal_node_new x in_form a n
          (omega (arith, p, tensors_length d xs))))

      pub join_more : let us = tensors d (xs ++ (x ∷ [])) in
          join k (edge_in ts l) (edge_in ts h) ts ≡ (edge_in us (record { weight = w; node = suc (length xs) }), us)
      join_more =
          let us : Set d = ts ++ (node_tensor ts x ∷ []) in
          join_new k _ _ ts differ absent ∙ rw (tensors_more d xs x, normal_is)
          (ap (λ T. (T, us)) (edge_of us (suc (length xs)) (at_new ts (node_tensor ts x) (suc (length xs))
          (ap suc (tensors_length d xs)))))

      pub join_canonical : Canonical d (xs ++ (x ∷ []))
      join_canonical = canonical_more d xs x c in_form (normal_node_new x in_form a)

-- the mask made from the masks of the parts
pub node_mask_ensures : {s : List ℕ} {st : State} {k : ℕ} {l h : Edge} {own low high : ℕ} → k < index_count
    → own ≡ 2 ^ k
    → (low ≡ support_mask (tensor_of s st l)) × (low < masks)
    → (high ≡ support_mask (tensor_of s st h)) × (high < masks)
    → NodeMaskEnsures s st k l h (bit_or own (bit_or low high))
node_mask_ensures {k = k} {low = low} {high} p o m n =
    record {
      is = rw (o, m.0, n.0);
      small = rw o (or_lt 24 _ _ (pow-lt {i = k} {j = 24} p) (or_lt 24 low high m.1 n.1));
    }

module _ {s : List ℕ} {st : State} {k : ℕ} {l h : Edge} (held : Sound s st) (j : JoinRequires s st k l h) (b : Bool)
    (told : b ≡ same_edge l h) where
  -- the step that is done
  abbrev does : Step indices
  does = join k (tensor_of s st l) (tensor_of s st h)

  -- equal edges give the edge back
  pub join_equal : b ≡ true → RefinesEdge s s st st (join k (tensor_of s st l) (tensor_of s st h)) l
  join_equal e =
      refines_stays held j.low (join_same k _ _ _ (eq_same (ap (tensor_of s st) ((edge_told l h).0 (sym told ∙ e)))))

  module _ (differ : b ≡ false) where
    ne : l ≢ h
    ne q = false≢true (sym differ ∙ told ∙ (edge_told l h).1 q)

    pub normalise_allowed : {mask : ℕ} → NodeMaskEnsures s st k l h mask → NormaliseRequires k l h mask
    normalise_allowed m =
        record {
          index = omega (arith, j.inside);
          low_small = j.low.small;
          high_small = j.high.small;
          low_node = omega (arith, j.low.within, held.stored.numbered);
          high_node = omega (arith, j.high.within, held.stored.numbered);
          mask_small = m.small;
          either = λ a b. ne (edge_eq (a ∙ sym b) (j.low.zero a ∙ sym (j.high.zero b)));
        }

    module _ {mask w : ℕ} {x : Node} (m : NodeMaskEnsures s st k l h mask) (z : NormaliseEnsures k l h mask w x) where
      abbrev xs : List Node
      xs = nodes_of s st

      len : length xs ≡ st.count
      len = nodes_length s st

      inside : k < indices
      inside = rw indices_count j.inside

      vl : Valid (length xs) l
      vl = rw len j.low

      vh : Valid (length xs) h
      vh = rw len j.high

      fl : FreeBelow (suc k) (edge_in (tensors indices xs) l)
      fl = unfold tensor_of set_of in j.from_low

      fh : FreeBelow (suc k) (edge_in (tensors indices xs) h)
      fh = unfold tensor_of set_of in j.from_high

      mask_is : mask ≡ bit_or (2 ^ k)
          (bit_or (support_mask (edge_in (tensors indices xs) l)) (support_mask (edge_in (tensors indices xs) h)))
      mask_is = unfold tensor_of set_of in m.is

      missing : Absent (node_at s) st.count x → (n : ℕ) → 1 ≤ n → n ≤ length xs → node_in indices xs n ≢ x
      missing a n p q e =
          let q' : n ≤ st.count = omega (arith, q, len) in a.not n p q' (sym (node_at_lem indices s st n p q') ∙ e)

      -- the set after: the nodes ys, with x at n
      record After (ys : List Node) (n : ℕ) : Type 0 where
        pub canonical : Canonical indices ys
        pub grown : PrefixOf xs ys
        pub is : does (set_of s st)
            ≡ (edge_in (tensors indices ys) (record { weight = w; node = n }), tensors indices ys)

      there : (n : ℕ) → 1 ≤ n → n ≤ length xs → node_in indices xs n ≡ x → After xs n
      unfolding tensor_of set_of
      there n p q e =
          record {
            canonical = held.nodes;
            grown = prefix_refl _;
            is = join_old indices xs held.nodes k l h mask w x inside vl vh fl fh ne z mask_is n p q e;
          }

      more : Absent (node_at s) st.count x → After (xs ++ (x ∷ [])) (suc (length xs))
      unfolding tensor_of set_of
      more a =
          record {
            canonical =
                join_canonical indices xs held.nodes k l h mask w x inside vl vh fl fh ne z mask_is (missing a);
            grown = record { more = x ∷ []; is = refl };
            is = join_more indices xs held.nodes k l h mask w x inside vl vh fl fh ne z mask_is (missing a);
          }

      module _ {s' : List ℕ} where
        pub join_full : MakeFull s s' st x → RefinesFull s s' st (join k (tensor_of s st l) (tensor_of s st h))
        join_full n =
            rw n.same record {
              long = refl;
              kept = refl;
              full = rw ((more n.absent).is, tensors_length indices (xs ++ (x ∷ [])), length-append xs (x ∷ []))
                  (omega (arith, len, n.full));
            }

        pub join_made : {n : ℕ} {st' : State} → MakeAt s s' st st' x n
            → RefinesEdge s s' st st' (join k (tensor_of s st l) (tensor_of s st h)) (record { weight = w; node = n })
        unfolding tensor_of set_of nodes_of
        join_made {n} {st'} at = go at.entered
          where
            done : (ys : List Node) → nodes_of s' st' ≡ ys → After ys n
                → RefinesEdge s s' st st' does (record { weight = w; node = n })
            done ys q a =
                record {
                  long = at.long;
                  sound = record { stored = at.stored; nodes = rw q a.canonical };
                  epoch = at.epoch;
                  grown = rw q a.grown;
                  valid = record { small = z.small; within = at.within; zero = λ y. absurd (z.nonzero y) };
                  is = rw q a.is;
                }

            go : FoundOrAdded (node_at s) st.count x (node_at s') st'.count n
                → RefinesEdge s s' st st' does (record { weight = w; node = n })
            go (old c q) =
                done xs q (there n at.first (omega (arith, len, at.within))
                (ap (λ zs. node_in indices zs n) (sym q) ∙ node_at_lem indices s' st' n at.first at.within ∙ at.here))
            go (new c p a q) =
                let i : n ≡ suc (length xs) = omega (arith, len) in done (xs ++ (x ∷ [])) q (rw i (more a))
