-- A list's tensor is the product of its gates' matrices.
use Rattle.std.proofs.Common.{ap, sym, ◌∙◌, ap₂, arith, eq-eqb, ne_eqb}
use Rattle.std.proofs.Math.Path.{fun_ext}
use Rattle.std.specs.Prelude.{refl, ◌≡◌, List, [], ◌∷◌, Bool, cond, ◌&&◌, ◌↔◌, ℕ, suc, ◌*◌, ◌≤◌, zero, ◌/◌, ◌%◌, ◌+◌}
use Rattle.std.proofs.Math.Decide.{ℕ_discrete}
use Rattle.diagram.specs.Tensor.{Bits, input, middle, fresh, assign, Tensor, bits, at, value, scale}
use Rattle.diagram.specs.Tensor.{indices, indices_count}
use Rattle.diagram.specs.TensorBitsLaws.{assign_at, assign_other}
use Rattle.diagram.specs.Weights.{times_w, 0w, 1w, Weight}
use Rattle.diagram.specs.Tabulate.{Sees}
use Rattle.diagram.specs.Gate.{entry, straight, unit_entry, unit_tensor}
use Rattle.diagram.specs.GateLaws.{unit_at}
use Rattle.diagram.specs.TensorLaws.{eq_value, at_scale}
use Rattle.text.specs.Limits.{most_qubits}
use Rattle.text.specs.Names.{Placed}
use Rattle.text.specs.Check.{AllPlaced}
use Rattle.text.specs.Qubits.{qubits, middles, AllFit}
use Rattle.text.specs.Product.{BasisState, Operator, has_qubit, wires, gate_matrix, product, outputs, inputs}
use Rattle.text.specs.Product.{identity, list_matrix, others, ListMeans}
use Rattle.text.specs.Apply.{applied_tensor, applied_list}
use Rattle.text.specs.GateMatrix.{Wired, Has, raised, spread}
use Rattle.text.specs.QubitsLaws.{placed_fit}
use Rattle.text.specs.VerdictSessionLaws.{list_tensor_lem}
use Rattle.text.specs.ProductMatrixLaws.{states_same, others_sees, product_assoc, identity_left, equal_swap}
use Rattle.text.specs.ProductMatrixLaws.{identity_right}
use Rattle.text.specs.GateMatrixLaws.{each_map, entry_alike, wires_fresh, wires_middle, gate_masked}
use Rattle.text.specs.GateMatrixLaws.{settings_thirds, raised_other, raised_fresh, gate_applied, gate_product}
use Rattle.text.specs.GateMatrixLaws.{gate_matrix_sees}
use Rattle.diagram.specs.declared.gate.Gate.{Gate}

wired_set : (qs : List ℕ) (o i : BasisState) (q : ℕ) (b : Bool) (x : Bits) (m : BasisState) → Wired qs o i x m
    → Wired qs o i (assign (suc (3 * q)) b x) (assign q b m)
wired_set qs o i q b x m w =
    record {
      at_middles = λ p. elim (ℕ_discrete p q) [
        | yes z ↦ rw z (ap (λ k. assign (suc (3 * q)) b x k) (omega arith) ∙ assign_at (suc (3 * q)) b x
            ∙ sym (assign_at q b m))
        | no z ↦ assign_other (middle p) (suc (3 * q)) b x (λ e. z (omega arith)) ∙ w.at_middles p
            ∙ sym (assign_other p q b m z)
      ];
      at_inputs = λ p. assign_other (input p) (suc (3 * q)) b x (λ e. omega arith) ∙ w.at_inputs p;
      at_fresh = each_map qs (λ p e. assign_other (fresh p) (suc (3 * q)) b x (λ u. omega arith) ∙ e) w.at_fresh;
    }

-- A gate applied to a tensor is the gate's matrix on the left of the tensor's.
pub gate_has : {d : ℕ} (n : ℕ) (g : Gate) (T : Tensor d) (M : Operator) → Placed n g → 3 * n ≤ d
    → ((i : BasisState) → Sees n (λ m. M m i))
    → Has T M → Has (applied_tensor g T) (product n (gate_matrix n g) M)
gate_has n g T M p l s has f =
    let qs = qubits g in
    let o = outputs f in
    let i = inputs f in
    gate_applied n g T f p l
    ∙ settings_thirds n (bits (middles qs)) (has_qubit qs) (λ x. times_w (entry g x) (at T x))
    (λ m. times_w (entry g (wires o m)) (M m i)) (Wired qs o i) (wired_set qs o i)
    (λ x m w. ap₂ times_w
    (entry_alike g x (wires o m) (each_map qs (λ q e. (
      e ∙ sym (wires_fresh o m q),
      w.at_middles q
          ∙ sym (wires_middle o m q),
    )) w.at_fresh))
    (has x ∙ ap₂ M (fun_ext w.at_middles) (fun_ext w.at_inputs)))
    (gate_masked n g p) (raised qs f) o
    (record {
      at_middles = λ q. raised_other qs f (middle q) (λ e. omega arith);
      at_inputs = λ q. raised_other qs f (input q) (λ e. omega arith);
      at_fresh = raised_fresh qs f;
    })
    ∙ sym (gate_product n g M o i p (s i))

-- the matrices look at the qubits below n alone

product_sees_output : (n : ℕ) (A B : Operator) (i : BasisState) → ((m : BasisState) → Sees n (λ o. A o m))
    → Sees n (λ o. product n A B o i)
unfolding product
product_sees_output n A B i s a b e = states_same n (λ m. ap (λ w. times_w w (B m i)) (s m a b e))

product_sees_input : (n : ℕ) (A B : Operator) (o : BasisState) → ((m : BasisState) → Sees n (B m))
    → Sees n (product n A B o)
unfolding product
product_sees_input n A B o s a b e = states_same n (λ m. ap (times_w (A o m)) (s m a b e))

identity_sees_output : (n : ℕ) (i : BasisState) → Sees n (λ o. identity n o i)
unfolding identity
identity_sees_output n i a b e = ap (λ c. cond c 1w 0w) (others_sees n [] a b i i e (λ k p. refl))

identity_sees_input : (n : ℕ) (o : BasisState) → Sees n (identity n o)
unfolding identity
identity_sees_input n o a b e = ap (λ c. cond c 1w 0w) (others_sees n [] o o a b (λ k p. refl) e)

list_sees_input : (n : ℕ) (gs : List Gate) → AllPlaced n gs → (o : BasisState) → Sees n (list_matrix n gs o)
unfolding list_matrix
list_sees_input n [] p o = identity_sees_input n o
list_sees_input n (g ∷ gs) p o =
    product_sees_input n (list_matrix n gs) (gate_matrix n g) o
    (λ m a b e. gate_matrix_sees n g p.0 m m a b (λ k p. refl) e)

-- A list of gates applied to a tensor is the list's matrix on the left of the tensor's.
pub list_has : {d : ℕ} (n : ℕ) (gs : List Gate) (T : Tensor d) (M : Operator) → AllPlaced n gs → 3 * n ≤ d
    → ((i : BasisState) → Sees n (λ m. M m i))
    → Has T M → Has (applied_list gs T) (product n (list_matrix n gs) M)
unfolding applied_list list_matrix
list_has n [] T M p l s has f = has f ∙ sym (identity_left n M (outputs f) (inputs f) (s (inputs f)))
list_has n (g ∷ gs) T M p l s has f =
    list_has n gs (applied_tensor g T) (product n (gate_matrix n g) M) p.1 l
    (λ i. product_sees_output n (gate_matrix n g) M i (λ m a b e. gate_matrix_sees n g p.0 a b m m e (λ k p. refl)))
    (gate_has n g T M p.0 l s has) f
    ∙ sym (product_assoc n (list_matrix n gs) (gate_matrix n g) M (outputs f) (inputs f))

straight_others : (n : ℕ) (f : Bits) → straight n f ≡ others n [] (outputs f) (inputs f)
unfolding straight others has_qubit
straight_others zero f = refl
straight_others (suc n) f = ap₂ ◌&&◌ (straight_others n f) (equal_swap (f (input n)) (f (middle n)))

-- the unit is the identity
pub unit_has : (d n : ℕ) → 3 * n ≤ d → Has (unit_tensor d n) (identity n)
unfolding unit_entry identity
unit_has d n l f = unit_at d n l f ∙ ap (λ b. cond b 1w 0w) (straight_others n f)

-- For every list of gates on qubits below n: its tensor's value at an assignment is the entry of the product of the
-- gates' matrices, at the output that stands at the middles and the input that stands at the inputs.
pub list_matrix_lem : (d n : ℕ) (gs : List Gate) → AllPlaced n gs → 3 * n ≤ d → (f : Bits)
    → at (applied_list gs (unit_tensor d n)) f ≡ list_matrix n gs (outputs f) (inputs f)
list_matrix_lem d n gs p l f =
    list_has n gs (unit_tensor d n) (identity n) p l (identity_sees_output n) (unit_has d n l) f
    ∙ identity_right n (list_matrix n gs) (outputs f) (inputs f) (list_sees_input n gs p (outputs f))

spread_outputs : (o i : BasisState) → outputs (spread o i) ≡ o
spread_outputs o i =
    fun_ext (λ q. let e : (3 * q + 1) / 3 ≡ q = omega arith in rw (eq-eqb ((3 * q + 1) % 3) 1 (omega arith), e))

spread_inputs : (o i : BasisState) → inputs (spread o i) ≡ i
spread_inputs o i = fun_ext (λ q. let e : 3 * q / 3 ≡ q = omega arith in rw (ne_eqb (3 * q % 3) 1 (omega arith), e))

has_entry : {d : ℕ} (T : Tensor d) (M : Operator) → Has T M → (o i : BasisState) → at T (spread o i) ≡ M o i
has_entry T M h o i = h (spread o i) ∙ ap₂ M (spread_outputs o i) (spread_inputs o i)

has_exactly : {d : ℕ} (A B : Tensor d) (M N : Operator) → Has A M → Has B N
    → (A ≡ B) ↔ ((o i : BasisState) → M o i ≡ N o i)
unfolding value
has_exactly A B M N h k = (
  λ e o i. sym (has_entry A M h o i) ∙ ap (λ T. at T (spread o i)) e ∙ has_entry B N k o i,
  λ e. eq_value A B (λ v p. h (bits v) ∙ e (outputs (bits v)) (inputs (bits v)) ∙ sym (k (bits v))),
)

module _ (d n : ℕ) (gs hs : List Gate) (p : AllPlaced n gs) (q : AllPlaced n hs) (l : 3 * n ≤ d) where
  -- Two lists' tensors are the same exactly when the products of their gates' matrices are.
  pub lists_same : (applied_list gs (unit_tensor d n) ≡ applied_list hs (unit_tensor d n))
      ↔ ((o i : BasisState) → list_matrix n gs o i ≡ list_matrix n hs o i)
  lists_same = has_exactly _ _ (list_matrix n gs) (list_matrix n hs) (list_matrix_lem d n gs p l)
      (list_matrix_lem d n hs q l)

  -- One is w times the other exactly when its product is.
  pub lists_multiple : (w : Weight)
      → (applied_list gs (unit_tensor d n) ≡ scale w (applied_list hs (unit_tensor d n)))
      ↔ ((o i : BasisState) → list_matrix n gs o i ≡ times_w w (list_matrix n hs o i))
  lists_multiple w =
      has_exactly _ _ (list_matrix n gs) (λ o i. times_w w (list_matrix n hs o i)) (list_matrix_lem d n gs p l)
      (λ f. at_scale w (applied_list hs (unit_tensor d n)) f ∙ ap (times_w w) (list_matrix_lem d n hs q l f))

pub list_means : (n : ℕ) (gs : List Gate) → n ≤ most_qubits → AllPlaced n gs → ListMeans n gs
unfolding value
list_means n gs l p = record {
  tensor = applied_list gs (unit_tensor indices n);
  is = list_tensor_lem indices n gs fit;
  entries = λ v. list_matrix_lem indices n gs p (rw indices_count (omega arith)) (bits v);
}
  where
    fit : AllFit indices gs
    fit = rw indices_count (placed_fit n gs l p)
