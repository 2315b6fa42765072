-- Laws of reading a value.
use Rattle.std.specs.Prelude.{◌≡◌, refl, ◌≢◌, Bool, List, ℕ, ◌<◌, ◌-◌}
use Rattle.std.proofs.Common.{ap, sym, ◌∙◌, arith}
use Rattle.field.specs.Weight.{to_weight, 1w, times_w}
use Rattle.field.specs.Field.{Represents}
use Rattle.field.specs.RingLaws.{times_w_one, times_w_comm}
use Rattle.diagram.specs.Tensor.{Tensor, bits, at, value, fix, scale, constant, indices, index_count}
use Rattle.diagram.specs.TensorLaws.{at_fix, at_scale, at_constant}
use Rattle.diagram.specs.Meaning.{Valid}
use Rattle.diagram.specs.CanonicalLaws.{edge_constant}
use Rattle.diagram.specs.Store.{nodes_of, set_of, tensor_of, level_of, Sound}
use Rattle.diagram.specs.EdgeLaws.{index_inside}
use Rattle.diagram.specs.Edge.{CofactorRequires, IsCofactor}
use Rattle.diagram.specs.TensorBitsLaws.{assign_same}
use Rattle.diagram.specs.Value.{ValueLoop}
use Rattle.diagram.specs.declared.node.Edge.{Edge}
use Rattle.diagram.specs.declared.make.State.{State}

pub value_start : {s : List ℕ} {st : State} {a : Edge} (v : ℕ) → Valid st.count a → ValueLoop s st a v a
value_start v h = record { valid = h; is = refl }

value_fix : {d : ℕ} (T : Tensor d) (k v : ℕ) (b : Bool) → b ≡ bits v k → value (fix k b T) v ≡ value T v
unfolding value
value_fix T k v b e = at_fix k b T (bits v) ∙ ap (at T) (assign_same k (bits v) b (sym e))

module _ {s : List ℕ} {st : State} {a e : Edge} {v : ℕ} (held : Sound s st) (r : ValueLoop s st a v e)
    (some : e.node ≢ 0) {k : ℕ} (top : k ≡ level_of s st e) where
  pub value_inside : k < index_count
  value_inside = omega (arith, index_inside s st held e r.valid some)

  pub value_index : k < 64
  value_index = omega (arith, value_inside)

  pub value_fixable : CofactorRequires s st e k
  value_fixable = record { valid = r.valid; inside = value_inside; level = omega arith }

  module _ {b : Bool} {f : Edge} (c : IsCofactor s st e k b f) where
    pub value_on : b ≡ bits v k → ValueLoop s st a v f
    value_on q = record { valid = c.valid; is = ap (λ T. value T v) c.is ∙ value_fix _ k v b q ∙ r.is }

    pub value_less : index_count - level_of s st f < index_count - level_of s st e
    value_less = omega (arith, c.above, value_inside)

pub value_end : {s : List ℕ} {st : State} {a : Edge} {v : ℕ} (e : Edge) → Sound s st → ValueLoop s st a v e
    → e.node ≡ 0
    → Represents e.weight (value (tensor_of s st a) v)
unfolding value
value_end {s} {st} {a} {v} e held r z = record {
  small = r.valid.small;
  is = sym (times_w_comm (to_weight e.weight) 1w ∙ times_w_one (to_weight e.weight))
      ∙ ap (times_w (to_weight e.weight)) (sym (at_constant indices 1w (bits v)))
      ∙ sym (at_scale (to_weight e.weight) (constant indices 1w) (bits v)) ∙ ap (λ T. at T (bits v)) (sym leaf)
      ∙ r.is;
}
  where
    leaf : tensor_of s st e ≡ scale (to_weight e.weight) (constant indices 1w)
    leaf = unfold tensor_of set_of in edge_constant indices (nodes_of s st) held.nodes e z
