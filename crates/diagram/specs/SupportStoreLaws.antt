-- Laws of the masks of a store: an edge's, a node's record, and the test of one bit.
use Rattle.std.specs.Prelude.{◌≡◌, refl, Bool, List, ◌≢◌, ℕ, ◌^◌, ◌≤◌, ◌<◌, length}
use Rattle.std.proofs.Math.Path.{ap, sym}
use Rattle.std.proofs.Common.{◌∙◌, arith}
use Rattle.std.proofs.Math.Decide.{ℕ_discrete}
use Rattle.field.specs.Weight.{to_weight, 1w}
use Rattle.field.specs.RingLaws.{nonzero_weight}
use Rattle.diagram.specs.Tensor.{Tensor, bits, depends, scale, indices, indices_count, masks}
use Rattle.diagram.specs.TensorLaws.{scale_constant}
use Rattle.diagram.specs.Tally.{Set}
use Rattle.diagram.specs.Node.{node_at}
use Rattle.diagram.specs.Meaning.{tensor_at, edge_in, Valid}
use Rattle.diagram.specs.MeaningLaws.{at_zero}
use Rattle.diagram.specs.Store.{nodes_of, set_of, tensor_of, Sound}
use Rattle.diagram.specs.StoreLaws.{nodes_length, node_at_lem}
use Rattle.diagram.specs.Support.{support_mask}
use Rattle.diagram.specs.SupportLaws.{support_below, support_bits, support_constant, support_scale}
use Rattle.diagram.specs.declared.node.Node.{Node}
use Rattle.diagram.specs.declared.node.Edge.{Edge}
use Rattle.diagram.specs.declared.make.State.{State}

-- an edge has the mask of its node
support_edge : {d m : ℕ} (ts : Set d) {e : Edge} → Valid m e
    → support_mask (edge_in ts e) ≡ support_mask (tensor_at ts e.node)
unfolding edge_in
support_edge {d} ts {e} v = go (ℕ_discrete e.weight 0)
  where
    go : Dec (e.weight ≡ 0)
        → support_mask (scale (to_weight e.weight) (tensor_at ts e.node)) ≡ support_mask (tensor_at ts e.node)
    go (yes z) =
        rw (v.zero z, at_zero ts, scale_constant d (to_weight e.weight) 1w)
        (support_constant d _ ∙ sym (support_constant d 1w))
    go (no n) = support_scale (to_weight e.weight) _ (nonzero_weight e.weight v.small n)

-- node n's is in its record
pub support_record : (s : List ℕ) (st : State) → Sound s st → (n : ℕ) → 1 ≤ n → n ≤ st.count
    → (node_at s n).mask ≡ support_mask (tensor_at (set_of s st) n)
unfolding set_of
support_record s st h n p q =
    let l : n ≤ length (nodes_of s st) = rw (nodes_length s st) q in
    ap (λ (x : Node). x.mask) (sym (node_at_lem indices s st n p q)) ∙ (h.nodes.each n p l).mask
    ∙ ap support_mask (sym (h.nodes.meaning n p l))

-- masks of the store's edges are below 2 to the power 24
pub masks_power : 2 ^ indices ≡ masks
masks_power = rw indices_count refl

support_small : (T : Tensor indices) → support_mask T < masks
support_small T = rw (← masks_power) (support_below T)

module _ (s : List ℕ) (st : State) (a : Edge) where
  pub support_leaf : a.node ≡ 0 → 0 ≡ support_mask (tensor_of s st a)
  unfolding tensor_of edge_in
  support_leaf z =
      sym (rw (z, at_zero (set_of s st), scale_constant indices (to_weight a.weight) 1w) (support_constant indices _))

  module _ (x : Node) (h : Sound s st) (v : Valid st.count a) (n : a.node ≢ 0) (e : x ≡ node_at s a.node) where
    pub support_read : x.mask ≡ support_mask (tensor_of s st a)
    unfolding tensor_of
    support_read =
        ap (λ (y : Node). y.mask) e ∙ support_record s st h a.node (omega arith) v.within
        ∙ sym (support_edge (set_of s st) v)

    pub support_read_small : x.mask < masks
    support_read_small = rw support_read (support_small _)

  -- one bit says whether it depends on an index
  pub support_has : (m k : ℕ) {r : Bool} → m ≡ support_mask (tensor_of s st a) → r ≡ bits m k
      → r ≡ depends k (tensor_of s st a)
  support_has m k e q = q ∙ ap (λ n. bits n k) e ∙ support_bits (tensor_of s st a) k
