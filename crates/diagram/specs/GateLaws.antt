-- Laws of gates: their tensors have document 01's entries at every assignment, and the entries belong together as the
-- gates do.
use Rattle.std.specs.Prelude.{◌≡◌, ◌&&◌, List, [], ◌∷◌, ℕ, zero, suc, ◌*◌, ◌^◌, ◌≤◌, ◌<◌}
use Rattle.std.proofs.Math.Path.{refl}
use Rattle.std.proofs.Common.{ap₂, ap, sym, ◌∙◌, arith}
use Rattle.std.proofs.Math.Bool.{xor}
use Rattle.std.proofs.Math.Pow.{pow-lt}
use Rattle.field.specs.Weight.{to_weight, 0w, 1w, plus_w, times_w, negate_w, imaginary_unit, inverse_root_two}
use Rattle.diagram.specs.Tensor.{Bits, input, middle, fresh, bits, at, value}
use Rattle.diagram.specs.Tabulate.{Sees}
use Rattle.diagram.specs.TabulateLaws.{at_tabulate, tabulate_value}
use Rattle.diagram.specs.Gate.{numbers, matrix, on_qubit, shape, rule, entry_on, entry, gate_tensor}
use Rattle.diagram.specs.Gate.{equal, straight, unit_entry, unit_tensor, product, GateBelow, ShapeBelow}
use Rattle.diagram.specs.Gate.{single_numbers, rule_table, RelationsHold, relations, row}
use Rattle.diagram.specs.declared.gate.Gate.{Gate}
use Rattle.diagram.specs.declared.gate.Gate.TheVariants as gate
use Rattle.diagram.specs.declared.gate.Shape.{Shape}
use Rattle.diagram.specs.declared.gate.Shape.TheVariants.{One, Two}

-- at each assignment to d indices

pub gate_value : (d : ℕ) (g : Gate) (v : ℕ) → v < 2 ^ d → value (gate_tensor d g) v ≡ entry g (bits v)
unfolding gate_tensor
gate_value d g v p = tabulate_value d (entry g) v p

pub unit_value : (d n v : ℕ) → v < 2 ^ d → value (unit_tensor d n) v ≡ unit_entry n (bits v)
unfolding unit_tensor
unit_value d n v p = tabulate_value d (unit_entry n) v p

-- a gate's entries depend on its qubits' indices alone
pub gate_sees : (d : ℕ) (g : Gate) → GateBelow d g → Sees d (entry g)
unfolding entry
gate_sees d g p = on (shape g) p
  where
    on : (x : Shape) → ShapeBelow d x → Sees d (entry_on (matrix g) (rule g) x)
    on (One q) p f h e = unfold on_qubit in rw (e (fresh q) p, e (middle q) (omega arith))
    on (Two a b) p f h e =
        rw (e (fresh a) p.0, e (middle a) (omega arith), e (fresh b) p.1, e (middle b) (omega arith))

straight_sees : (d n : ℕ) → 3 * n ≤ d → (g h : Bits) → ((k : ℕ) → k < d → g k ≡ h k) → straight n g ≡ straight n h
unfolding straight
straight_sees d zero p g h e = refl
straight_sees d (suc n) p g h e =
    ap₂ ◌&&◌ (straight_sees d n (omega arith) g h e) (ap₂ equal (e (input n) (omega arith))
    (e (middle n) (omega arith)))

pub unit_sees : (d n : ℕ) → 3 * n ≤ d → Sees d (unit_entry n)
unfolding unit_entry
unit_sees d n p g h e = rw (straight_sees d n p g h e)

pub gate_at : (d : ℕ) (g : Gate) → GateBelow d g → (f : Bits) → at (gate_tensor d g) f ≡ entry g f
unfolding gate_tensor
gate_at d g p f = at_tabulate d (entry g) (gate_sees d g p) f

pub unit_at : (d n : ℕ) → 3 * n ≤ d → (f : Bits) → at (unit_tensor d n) f ≡ unit_entry n f
unfolding unit_tensor
unit_at d n p f = at_tabulate d (unit_entry n) (unit_sees d n p) f

-- the numbers belong together as the gates do
pub gates_agree : (q : ℕ) → RelationsHold (relations q)
unfolding product numbers matrix plus_w times_w negate_w to_weight 0w 1w imaginary_unit inverse_root_two
gates_agree q = (refl, (refl, (refl, (refl, (refl, (refl, (refl, (refl, (refl, (refl, tt))))))))))

-- the shape of a gate that is h
pub as_shape : {g h : Gate} {x : Shape} → g ≡ h → x ≡ shape h → x ≡ shape g
as_shape p e = e ∙ ap shape (sym p)

single_is : (g : Gate) → single_numbers g ≡ numbers (matrix g)
unfolding numbers matrix to_weight 0w 1w negate_w imaginary_unit inverse_root_two
single_is (gate.X q) = refl
single_is (gate.Y q) = refl
single_is (gate.Z q) = refl
single_is (gate.H q) = refl
single_is (gate.S q) = refl
single_is (gate.Sd q) = refl
single_is (gate.T q) = refl
single_is (gate.Td q) = refl
single_is (gate.Cx a b) = refl
single_is (gate.Cz a b) = refl
single_is (gate.Sw a b) = refl

-- the rows of a gate that is h
pub as_matrix : {g h : Gate} {m : List (List ℕ)} → g ≡ h → m ≡ single_numbers h → m ≡ numbers (matrix g)
as_matrix {g} {h} p e = e ∙ single_is h ∙ ap (λ x. numbers (matrix x)) (sym p)

module _ (a b : ℕ) where
  pub cx_table : row 1 0 0 0 ∷ row 0 1 0 0 ∷ row 0 0 0 1 ∷ row 0 0 1 0 ∷ [] ≡ rule_table (rule (gate.Cx a b))
  unfolding rule_table xor to_weight 0w 1w
  cx_table = refl

  pub cz_table : row 1 0 0 0 ∷ row 0 1 0 0 ∷ row 0 0 1 0 ∷ row 0 0 0 65536 ∷ [] ≡ rule_table (rule (gate.Cz a b))
  unfolding rule_table to_weight 0w 1w negate_w
  cz_table = refl

  pub sw_table : row 1 0 0 0 ∷ row 0 0 1 0 ∷ row 0 1 0 0 ∷ row 0 0 0 1 ∷ [] ≡ rule_table (rule (gate.Sw a b))
  unfolding rule_table to_weight 0w 1w
  sw_table = refl

-- the middle index of one of the eight qubits, as a mask
pub middle_below : (q : ℕ) → q < 8 → {r : ℕ} → r ≡ 2 ^ middle q → r < 8388608
middle_below q p e = rw e (pow-lt {i = middle q} {j = 23} (omega arith))
