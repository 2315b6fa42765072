-- Laws of comparing: what each answer says, and that edges of one store compare by weight and node.
use Rattle.std.specs.Prelude.{◌≡◌, ◌≢◌, ◌⊎◌, Bool, ◌&&◌, not, List, ℕ, length}
use Rattle.std.proofs.Math.Path.{refl, ap, ap₂, sym}
use Rattle.std.proofs.Common.{◌∙◌, inl, inr}
use Rattle.std.proofs.Math.Bool.{true, false, cond, true≢false}
use Rattle.std.proofs.Math.Decide.{ℕ_discrete}
use Rattle.field.specs.Weight.{Weight, to_weight, 0w, 1w, times_w, inverse_w, Nonzero}
use Rattle.field.specs.Field.{Represents}
use Rattle.field.specs.RingLaws.{weight_number, number_weight, not_zero, nonzero_weight, times_w_comm, times_w_assoc}
use Rattle.field.specs.RingLaws.{times_w_one}
use Rattle.field.specs.InverseLaws.{inverse, times_nonzero, inverse_nonzero}
use Rattle.diagram.specs.Tensor.{Tensor, same, constant, is_zero, scale, first, indices}
use Rattle.diagram.specs.TensorLaws.{same_eq, eq_same, scale_scale, scale_zero, zero_scale, is_zero_eq}
use Rattle.diagram.specs.TensorLaws.{is_zero_constant}
use Rattle.diagram.specs.TensorScaleLaws.{is_zero_scale, first_scale, first_nonzero, unique_tensor}
use Rattle.diagram.specs.Grow.{grow}
use Rattle.diagram.specs.GrowLaws.{grow_same, grow_is_zero, grow_first, grow_scale}
use Rattle.diagram.specs.Meaning.{tensor_at, edge_in, tensors, Valid}
use Rattle.diagram.specs.NodeLaws.{edge_eq}
use Rattle.diagram.specs.Canonical.{Canonical}
use Rattle.diagram.specs.CanonicalLaws.{node_first, edge_is_zero, edge_zero_weight, canonical_edge_unique}
use Rattle.diagram.specs.Store.{nodes_of, set_of, tensor_of}
use Rattle.diagram.specs.StoreLaws.{nodes_length}
use Rattle.diagram.specs.Compare.{ratio, compared, ComparisonMeans, NoMultiple, CompareEnsures}
use Rattle.diagram.specs.TestLaws.{cases}
use Rattle.diagram.specs.declared.node.Node.{Node}
use Rattle.diagram.specs.declared.node.Edge.{Edge}
use Rattle.diagram.specs.declared.compare.Comparison.{Comparison}
use Rattle.diagram.specs.declared.compare.Comparison.TheVariants.{Same, Factor, Differ}

module _ {d : ℕ} (A B : Tensor d) where
  -- where the tensors stand so, the answer is so

  pub compared_same : A ≡ B → compared A B ≡ Same
  unfolding compared
  compared_same e = rw (eq_same e)

  not_same : A ≢ B → same A B ≡ false
  not_same n = cases (same A B) (λ e. absurd (n (same_eq A B e))) (λ e. e)

  pub ratio_is : (f : Weight) → is_zero B ≡ false → Nonzero f → A ≡ scale f B → ratio A B ≡ f
  unfolding ratio
  ratio_is f z n e =
      rw (e, first_scale f B n) (times_w_assoc f (first B) (inverse_w (first B))
      ∙ ap (times_w f) (times_w_comm (first B) (inverse_w (first B)) ∙ inverse (first_nonzero B z)) ∙ times_w_comm f 1w
      ∙ times_w_one f)

  pub compared_factor : (f : Weight) → A ≢ B → Nonzero f → A ≡ scale f B → compared A B ≡ Factor f.number
  unfolding compared
  compared_factor f ne n e =
      let z : is_zero B
      ≡ false = cases (is_zero B) (λ z. absurd (ne (e ∙ zero_part f z ∙ sym (is_zero_eq B z)))) (λ z. z)
      in
      let y : is_zero A ≡ false = ap is_zero e ∙ is_zero_scale f B n ∙ z in
      rw (not_same ne, y, ratio_is f z n e, eq_same e)
    where
      zero_part : (f : Weight) → is_zero B ≡ true → scale f B ≡ constant d 0w
      zero_part f z = ap (scale f) (is_zero_eq B z) ∙ scale_zero d f

  ratio_nonzero : is_zero A ≡ false → A ≡ scale (ratio A B) B → Nonzero (ratio A B)
  ratio_nonzero y e = not_zero (ratio A B) (λ o. true≢false (sym
      (ap is_zero (e ∙ ap (λ f. scale f B) o ∙ zero_scale B) ∙ is_zero_constant d) ∙ y))

  pub compared_differ : NoMultiple A B → compared A B ≡ Differ
  unfolding compared
  compared_differ p = rw (not_same p.differ) (go (is_zero A) refl (same A (scale (ratio A B) B)) refl)
    where
      go : (z : Bool) → is_zero A ≡ z → (t : Bool) → same A (scale (ratio A B) B) ≡ t
          → cond (not z && t) (Factor (ratio A B).number) Differ ≡ Differ
      go true y t e = refl
      go false y false e = refl
      go false y true e = absurd (p.multiple (ratio A B) (ratio_nonzero y (same_eq _ _ e)) (same_eq _ _ e))

  -- and only there
  pub compared_means : ComparisonMeans A B (compared A B)
  unfolding compared
  compared_means = go (same A B) refl (is_zero A) refl (same A (scale (ratio A B) B)) refl
    where
      differ : same A B ≡ false → A ≢ B
      differ p e = true≢false (sym (eq_same e) ∙ p)

      both_zero : (f : Weight) → same A B ≡ false → is_zero A ≡ true → Nonzero f → A ≢ scale f B
      both_zero f p y n e =
          differ p (is_zero_eq A y ∙ sym (is_zero_eq B (sym (is_zero_scale f B n) ∙ ap is_zero (sym e) ∙ y)))

      not_ratio : (f : Weight) → is_zero A ≡ false → same A (scale (ratio A B) B) ≡ false → Nonzero f → A ≢ scale f B
      not_ratio f y q n e =
          let r : ratio A B ≡ f = ratio_is f (sym (is_zero_scale f B n) ∙ ap is_zero (sym e) ∙ y) n e in
          true≢false (sym (eq_same (e ∙ ap (λ c. scale c B) (sym r))) ∙ q)

      go : (s : Bool) → same A B ≡ s → (z : Bool) → is_zero A ≡ z → (t : Bool) → same A (scale (ratio A B) B) ≡ t
          → ComparisonMeans A B (cond s Same (cond (not z && t) (Factor (ratio A B).number) Differ))
      go true p z y t q = same_eq A B p
      go false p true y t q = record { differ = differ p; multiple = λ f. both_zero f p y }
      go false p false y false q = record { differ = differ p; multiple = λ f. not_ratio f y q }
      go false p false y true q =
          let e : A ≡ scale (ratio A B) B = same_eq _ _ q in
          record {
            differ = differ p;
            small = (ratio A B).small;
            nonzero = rw (weight_number (ratio A B)) (ratio_nonzero y e);
            is = rw (weight_number (ratio A B)) e;
          }

-- two edges of a sound list of nodes

module _ (d : ℕ) (xs : List Node) (s : Canonical d xs) {a b : Edge} (va : Valid (length xs) a)
    (vb : Valid (length xs) b) where
  abbrev A : Tensor d
  A = edge_in (tensors d xs) a

  abbrev B : Tensor d
  B = edge_in (tensors d xs) b

  no_multiple : a.node ≢ b.node → NoMultiple A B
  unfolding edge_in
  no_multiple n = record {
    differ = λ e. n (ap (λ (x : Edge). x.node) (canonical_edge_unique d xs s va vb e));
    multiple = λ f z e. n (one_node f z e);
  }
    where
      one_node : (f : Weight) → Nonzero f → A ≡ scale f B → a.node ≡ b.node
      one_node f m e = go (ℕ_discrete a.weight 0) (ℕ_discrete b.weight 0)
        where
          zeros : is_zero A ≡ is_zero B
          zeros = ap is_zero e ∙ is_zero_scale f B m

          go : Dec (a.weight ≡ 0) → Dec (b.weight ≡ 0) → a.node ≡ b.node
          go (yes p) q =
              va.zero p ∙ sym (vb.zero (edge_zero_weight d xs s b vb (sym zeros ∙ edge_is_zero d xs s a p)))
          go (no p) (yes q) = absurd (p (edge_zero_weight d xs s a va (zeros ∙ edge_is_zero d xs s b q)))
          go (no p) (no q) =
              s.unique _ _ va.within vb.within
              (unique_tensor _ _ _ _ (nonzero_weight _ va.small p) (times_nonzero m (nonzero_weight _ vb.small q))
              (node_first d xs s a.node va.within) (node_first d xs s b.node vb.within)
              (e ∙ scale_scale f _ _))

  tensors_differ : a.weight ≢ b.weight → A ≢ B
  tensors_differ n e = n (ap (λ (x : Edge). x.weight) (canonical_edge_unique d xs s va vb e))

  zero_differs : a.weight ≢ b.weight → (a.weight ≡ 0) ⊎ (b.weight ≡ 0) → NoMultiple A B
  zero_differs n z =
      record { differ = tensors_differ n; multiple = λ f m e. n (go (ap is_zero e ∙ is_zero_scale f B m) z) }
    where
      go : is_zero A ≡ is_zero B → (a.weight ≡ 0) ⊎ (b.weight ≡ 0) → a.weight ≡ b.weight
      go e (inl p) = p ∙ sym (edge_zero_weight d xs s b vb (sym e ∙ edge_is_zero d xs s a p))
      go e (inr q) = edge_zero_weight d xs s a va (e ∙ edge_is_zero d xs s b q) ∙ sym q

  factor_of : (f : ℕ) → a.node ≡ b.node → b.weight ≢ 0
      → to_weight f ≡ times_w (to_weight a.weight) (inverse_w (to_weight b.weight))
      → A ≡ scale (to_weight f) B
  unfolding edge_in
  factor_of f one n q =
      let back : times_w (to_weight f) (to_weight b.weight) ≡ to_weight a.weight =
      rw q (times_w_assoc _ _ _ ∙ ap (times_w _) (inverse (nonzero_weight b.weight vb.small n)) ∙ times_w_comm _ 1w
      ∙ times_w_one _) in
      sym (scale_scale _ _ _ ∙ ap₂ (λ w m. scale w (tensor_at (tensors d xs) m)) back (sym one))

-- the answers, as the code comes to them

pub represents_ratio : (v w i : ℕ) {r : ℕ} → Represents i (inverse_w (to_weight w))
    → Represents r (times_w (to_weight v) (to_weight i))
    → Represents r (times_w (to_weight v) (inverse_w (to_weight w)))
represents_ratio v w i p q = record { small = q.small; is = q.is ∙ ap (times_w (to_weight v)) p.is }

module _ {a b : Edge} where
  in_store : {r : Comparison}
      → ((d : ℕ) (xs : List Node) → Canonical d xs → Valid (length xs) a → Valid (length xs) b
      → compared (edge_in (tensors d xs) a) (edge_in (tensors d xs) b) ≡ r)
      → CompareEnsures a b r
  unfolding tensor_of set_of
  in_store f = record {
    is = λ s st h va vb. f indices (nodes_of s st) h.nodes (rw (nodes_length s st) va) (rw (nodes_length s st) vb);
  }

  pub compare_nodes : a.node ≢ b.node → CompareEnsures a b Differ
  compare_nodes n = in_store (λ d xs s va vb. compared_differ _ _ (no_multiple d xs s va vb n))

  pub compare_same : a.node ≡ b.node → a.weight ≡ b.weight → CompareEnsures a b Same
  compare_same m w = in_store (λ d xs s va vb. compared_same _ _ (ap (edge_in (tensors d xs)) (edge_eq w m)))

  pub compare_zero : a.weight ≢ b.weight → (a.weight ≡ 0) ⊎ (b.weight ≡ 0) → CompareEnsures a b Differ
  compare_zero n z = in_store (λ d xs s va vb. compared_differ _ _ (zero_differs d xs s va vb n z))

  pub compare_factor : {f : ℕ} → a.node ≡ b.node → a.weight ≢ b.weight → a.weight ≢ 0 → b.weight ≢ 0
      → Represents f (times_w (to_weight a.weight) (inverse_w (to_weight b.weight))) → CompareEnsures a b (Factor f)
  compare_factor {f} one n z y q = in_store (λ d xs c va vb. factor d xs c va vb)
    where
      factor : (d : ℕ) (xs : List Node) → Canonical d xs → Valid (length xs) a → Valid (length xs) b
          → compared (edge_in (tensors d xs) a) (edge_in (tensors d xs) b) ≡ Factor f
      factor d xs c va vb =
          let nonzero : Nonzero (to_weight f) =
          rw q.is (times_nonzero (nonzero_weight _ va.small z) (inverse_nonzero (nonzero_weight _ vb.small y)))
          in
          compared_factor _ _ (to_weight f) (tensors_differ d xs c va vb n) nonzero
          (factor_of d xs c va vb f one y q.is)
          ∙ ap Factor (number_weight f q.small)

-- with more indices the answer is the same
pub grow_compared : {d : ℕ} (m : ℕ) (A B : Tensor d) → compared (grow m A) (grow m B) ≡ compared A B
unfolding compared ratio
grow_compared m A B =
    rw (
      grow_same m A B,
      grow_is_zero m A,
      grow_first m A,
      grow_first m B,
      grow_scale m
          (times_w (first A) (inverse_w (first B))) B,
      grow_same m A (scale (times_w (first A) (inverse_w (first B))) B),
    )
