-- Laws of edges: multiples, sums, levels and cofactors.
use Rattle.std.specs.Prelude.{◌≡◌, refl, ◌≢◌, Bool, List, ℕ, ◌≤◌, ◌<◌, suc, ◌-◌, length}
use Rattle.std.proofs.Math.Path.{ap, ap₂, sym}
use Rattle.std.proofs.Common.{◌∙◌, arith}
use Rattle.std.proofs.Math.Bool.{true, false}
use Rattle.std.proofs.Math.Decide.{ℕ_discrete}
use Rattle.field.specs.Weight.{modulus, to_weight, plus_w}
use Rattle.field.specs.Field.{Represents}
use Rattle.field.specs.RingLaws.{nonzero_weight, weight_zero, nonzero_not}
use Rattle.field.specs.InverseLaws.{times_nonzero}
use Rattle.diagram.specs.Tensor.{same, scale, plus, multiple, indices, indices_count, fix, index_count}
use Rattle.diagram.specs.TensorLaws.{scale_scale, zero_scale, same_refl, same_eq, fix_scale}
use Rattle.diagram.specs.Top.{FreeBelow}
use Rattle.diagram.specs.SumOverLaws.{plus_scale}
use Rattle.diagram.specs.TensorScaleLaws.{normal_same, multiple_scale}
use Rattle.diagram.specs.Tally.{Set}
use Rattle.diagram.specs.Node.{node_at}
use Rattle.diagram.specs.Meaning.{tensor_at, edge_in, tensors, node_in, level, Valid, nought, node_tensor}
use Rattle.diagram.specs.MeaningLaws.{level_constant, valid_more}
use Rattle.diagram.specs.Canonical.{Canonical, NormalNode}
use Rattle.diagram.specs.CanonicalLaws.{node_first, edge_free_below, edge_level, normal_node_low}
use Rattle.diagram.specs.CanonicalLaws.{normal_node_high}
use Rattle.diagram.specs.Store.{nodes_of, set_of, tensor_of, level_of, Sound}
use Rattle.diagram.specs.StoreLaws.{nodes_length, node_at_lem}
use Rattle.diagram.specs.Edge.{IsMultiple, IsSum, child, IsCofactor, CofactorRequires}
use Rattle.diagram.specs.TopLaws.{fix_free_below, free_below_fix}
use Rattle.diagram.specs.TestLaws.{cases}
use Rattle.diagram.specs.declared.node.Node.{Node}
use Rattle.diagram.specs.declared.node.Edge.{Edge}
use Rattle.diagram.specs.declared.make.State.{State}

pub multiple_valid : {m w : ℕ} {e r : Edge} → w < modulus → w ≢ 0 → Valid m e → IsMultiple w e r → Valid m r
multiple_valid {m} {w} {e} {r} p n v t =
    record {
      small = t.small;
      within = omega (arith, v.within, t.node);
      zero = λ z. t.node ∙ v.zero (go z (ℕ_discrete e.weight 0));
    }
  where
    go : r.weight ≡ 0 → Dec (e.weight ≡ 0) → e.weight ≡ 0
    go z (yes q) = q
    go z (no q) =
        let y = times_nonzero (nonzero_weight w p n) (nonzero_weight e.weight v.small q) in
        absurd (nonzero_not y (sym t.weight ∙ ap to_weight z ∙ weight_zero))

pub multiple_tensor : {d w : ℕ} {e r : Edge} (ts : Set d) → IsMultiple w e r
    → edge_in ts r ≡ scale (to_weight w) (edge_in ts e)
unfolding edge_in
multiple_tensor ts t = rw (t.weight, t.node) (sym (scale_scale _ _ _))

pub edge_sum_none : {a b : Edge} {p : ℕ} → Represents p (plus_w (to_weight a.weight) (to_weight b.weight)) → p ≡ 0
    → IsSum a b nought
edge_sum_none s z =
    record { small = omega arith; weight = ap to_weight (sym z) ∙ s.is; none = λ _. refl; node = λ n. absurd (n refl) }

pub edge_sum_valid : {m : ℕ} {a b r : Edge} → Valid m a → IsSum a b r → Valid m r
edge_sum_valid {m} {r = r} v t = record { small = t.small; within = go (ℕ_discrete r.weight 0); zero = t.none }
  where
    go : Dec (r.weight ≡ 0) → r.node ≤ m
    go (yes q) = omega (arith, t.none q)
    go (no q) = omega (arith, t.node q, v.within)

pub edge_sum_tensor : {d : ℕ} {a b r : Edge} (ts : Set d) → a.node ≡ b.node → IsSum a b r
    → edge_in ts r ≡ plus (edge_in ts a) (edge_in ts b)
unfolding edge_in
edge_sum_tensor {a = a} {b} {r} ts e t =
    go (ℕ_discrete r.weight 0) ∙ ap (λ x. scale x (tensor_at ts a.node)) t.weight ∙ sym (plus_scale _ _ _)
    ∙ ap (λ n. plus (scale (to_weight a.weight) (tensor_at ts a.node))
    (scale (to_weight b.weight) (tensor_at ts n))) e
  where
    go : Dec (r.weight ≡ 0)
        → scale (to_weight r.weight) (tensor_at ts r.node) ≡ scale (to_weight r.weight) (tensor_at ts a.node)
    go (yes q) = rw (q, weight_zero) (zero_scale _ ∙ sym (zero_scale _))
    go (no q) = ap (λ n. scale (to_weight r.weight) (tensor_at ts n)) (t.node q)

-- nonzero edges have multiples of one tensor where they lead to one node
module _ (d : ℕ) (xs : List Node) (c : Canonical d xs) (a b : Edge) (va : Valid (length xs) a)
    (vb : Valid (length xs) b)
    (na : a.weight ≢ 0) (nb : b.weight ≢ 0) where
  abbrev ts : Set d
  ts = tensors d xs

  multiple_of_nodes : multiple (edge_in ts a) (edge_in ts b) ≡ same (tensor_at ts a.node) (tensor_at ts b.node)
  unfolding edge_in multiple
  multiple_of_nodes = multiple_scale _ _ _ _ (nonzero_weight _ va.small na) (nonzero_weight _ vb.small nb)
      ∙ ap₂ same (normal_same _ (node_first d xs c a.node va.within))
      (normal_same _ (node_first d xs c b.node vb.within))

  pub multiple_one : a.node ≡ b.node → multiple (edge_in ts a) (edge_in ts b) ≡ true
  multiple_one e = multiple_of_nodes ∙ rw e (same_refl _)

  pub multiple_two : a.node ≢ b.node → multiple (edge_in ts a) (edge_in ts b) ≡ false
  multiple_two n =
      multiple_of_nodes ∙ cases (same (tensor_at ts a.node) (tensor_at ts b.node))
      (λ q. absurd (n (c.unique _ _ va.within vb.within (same_eq _ _ q)))) (λ q. q)

-- levels: the index of the edge's node, 24 for a constant
module _ (s : List ℕ) (st : State) (held : Sound s st) where
  long : {e : Edge} → Valid st.count e → Valid (length (nodes_of s st)) e
  long v = rw (nodes_length s st) v

  pub level_none : (a : Edge) → a.node ≡ 0 → level_of s st a ≡ index_count
  unfolding level_of
  level_none a z = level_constant indices (nodes_of s st) a z ∙ indices_count

  pub level_node : (a : Edge) (x : Node) → Valid st.count a → a.node ≢ 0 → x ≡ node_at s a.node
      → level_of s st a ≡ x.index
  unfolding level_of level
  level_node a x v n e = ap (λ (y : Node). y.index) (node_at_lem indices s st a.node (omega arith) v.within ∙ sym e)

  pub index_inside : (a : Edge) → Valid st.count a → a.node ≢ 0 → level_of s st a < index_count
  unfolding level_of level
  index_inside a v n =
      let h : (node_in indices (nodes_of s st) a.node).index < indices = (held.nodes.each a.node (omega arith)
      (long v).within).index in
      omega (arith, h, indices_count)

  pub level_most : (a : Edge) → Valid st.count a → level_of s st a ≤ index_count
  level_most a v =
      elim (ℕ_discrete a.node 0) [ yes z ↦ omega (arith, level_none a z) | no n ↦ omega (arith, index_inside a v n) ]

  -- the tensor does not depend on the indices below the level, and the level is the most of these
  pub free_below_level : (a : Edge) (j : ℕ) → Valid st.count a → j ≤ level_of s st a → FreeBelow j (tensor_of s st a)
  unfolding level_of tensor_of set_of
  free_below_level a j v p = edge_free_below indices (nodes_of s st) held.nodes a j (long v) p

  pub level_free_below : (a : Edge) (j : ℕ) → Valid st.count a → j ≤ index_count → FreeBelow j (tensor_of s st a)
      → j ≤ level_of s st a
  unfolding level_of tensor_of set_of
  level_free_below a j v p f = edge_level indices (nodes_of s st) held.nodes a j (long v) (rw indices_count p) f

-- the level, as the code reads it
module _ {s : List ℕ} {st : State} {a : Edge} (held : Sound s st) (v : Valid st.count a) where
  pub level_of_constant : a.node ≡ 0 → index_count ≡ level_of s st a
  level_of_constant z = sym (level_none s st held a z)

  module _ {x : Node} (n : a.node ≢ 0) (read : x ≡ node_at s a.node) where
    pub level_of_node : x.index ≡ level_of s st a
    level_of_node = sym (level_node s st held a x v n read)

    pub level_inside : x.index ≤ index_count
    level_inside = omega (arith, level_of_node, index_inside s st held a v n)

module _ {s : List ℕ} {st : State} {a : Edge} {k : ℕ} (held : Sound s st) (f : CofactorRequires s st a k) where
  cofactor_of : {b : Bool} {r : Edge} → Valid st.count r → tensor_of s st r ≡ fix k b (tensor_of s st a)
      → IsCofactor s st a k b r
  cofactor_of {b} {r} v e =
      record {
        valid = v;
        is = e;
        above = level_free_below s st held r (suc k) v f.inside
            (rw e (free_below_fix k b _ (free_below_level s st held a k f.valid f.level)));
      }

  -- a does not depend on k
  itself : (b : Bool) → k < level_of s st a → IsCofactor s st a k b a
  itself b p = cofactor_of f.valid (sym (fix_free_below k b _ (free_below_level s st held a (suc k) f.valid p)))

  pub cofactor_constant : {b : Bool} → a.node ≡ 0 → IsCofactor s st a k b a
  cofactor_constant {b} z = itself b (omega (arith, level_none s st held a z, f.inside))

  module _ {x : Node} (n : a.node ≢ 0) (read : x ≡ node_at s a.node) where
    pub cofactor_above : {b : Bool} → x.index ≢ k → IsCofactor s st a k b a
    cofactor_above {b} d = itself b (omega (arith, level_node s st held a x f.valid n read, f.level))

    abbrev xs : List Node
    xs = nodes_of s st

    inside : a.node ≤ length xs
    inside = rw (nodes_length s st) f.valid.within

    here : node_in indices xs a.node ≡ x
    here = node_at_lem indices s st a.node (omega arith) f.valid.within ∙ sym read

    in_form : NormalNode (tensors indices xs) (a.node - 1) x
    in_form = rw here at (held.nodes.each a.node (omega arith) inside)

    -- a's node has the index k
    module _ (own : x.index ≡ k) where
      part : (b : Bool) → edge_in (tensors indices xs) (child b x) ≡ fix k b (tensor_at (tensors indices xs) a.node)
      unfolding child
      part b = rw (held.nodes.meaning a.node (omega arith) inside, here, ← own) (go b)
        where
          go : (b : Bool)
              → edge_in (tensors indices xs) (child b x) ≡ fix x.index b (node_tensor (tensors indices xs) x)
          go false = sym (normal_node_low in_form)
          go true = sym (normal_node_high in_form)

      child_valid : (b : Bool) → Valid st.count (child b x)
      unfolding child
      child_valid false = valid_more _ (omega (arith, f.valid.within)) in_form.low
      child_valid true = valid_more _ (omega (arith, f.valid.within)) in_form.high

      times_child : (b : Bool) (r : Edge) → IsMultiple a.weight (child b x) r → IsCofactor s st a k b r
      unfolding tensor_of set_of edge_in
      times_child b r t =
          cofactor_of (multiple_valid f.valid.small (λ z. n (f.valid.zero z)) (child_valid b) t)
          (multiple_tensor (tensors indices xs) t ∙ rw (part b) (sym (fix_scale k b _ _)))

      pub cofactor_low : {b : Bool} {r : Edge} → b ≡ false → IsMultiple a.weight x.low r → IsCofactor s st a k b r
      unfolding child
      cofactor_low {r = r} q t = rw q (times_child false r t)

      pub cofactor_high : {b : Bool} {r : Edge} → b ≡ true → IsMultiple a.weight x.high r
          → IsCofactor s st a k b r
      unfolding child
      cofactor_high {r = r} q t = rw q (times_child true r t)

    pub high_small : x.high.weight < modulus
    high_small = in_form.high.small
