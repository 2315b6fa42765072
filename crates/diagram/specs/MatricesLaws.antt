-- Laws of the published matrices: each entry is that of document 01's Gates.
use Rattle.std.specs.Prelude.{◌≡◌, refl, Bool, true, false, ℕ, zero, suc, ◌+◌, ◌*◌, ◌≤◌, get_or, length}
use Rattle.std.proofs.Common.{ap, sym, ◌∙◌, arith}
use Rattle.std.proofs.Math.Bool.{xor}
use mathlib.Core.List.{[], ◌∷◌, flatten}
use Rattle.std.proofs.Math.ListN.{get_or-eq_default}
use Rattle.field.specs.Weight.{to_weight, 0w, 1w, negate_w, imaginary_unit, inverse_root_two}
use Rattle.diagram.specs.Gate.{bit, numbers, matrix, rule, shape, gate_number, by_bits, rule_table}
use Rattle.diagram.specs.Matrices.{published, entry_in, weight, gate_entries, gate_entries_on}
use Rattle.diagram.specs.Matrices.{as_rows, NoneBelow}
use Rattle.diagram.specs.declared.gate.Gate.{Gate}
use Rattle.diagram.specs.declared.gate.Gate.TheVariants as gate
use Rattle.diagram.specs.declared.gate.Shape.{Shape}
use Rattle.diagram.specs.declared.gate.Shape.TheVariants.{One, Two}

-- "Each case gives the entry in document 01's Gates"
pub published_is : (g : Gate) → get_or published (gate_number g) [] ≡ gate_entries g
unfolding flatten numbers matrix rule_table xor to_weight 0w 1w negate_w imaginary_unit inverse_root_two
published_is (gate.X q) = refl
published_is (gate.Y q) = refl
published_is (gate.Z q) = refl
published_is (gate.H q) = refl
published_is (gate.S q) = refl
published_is (gate.Sd q) = refl
published_is (gate.T q) = refl
published_is (gate.Td q) = refl
published_is (gate.Cx a b) = refl
published_is (gate.Cz a b) = refl
published_is (gate.Sw a b) = refl

-- on one qubit they are its rows, and zeros are the rows of a gate on two
rows_are : (g : Gate) → as_rows (shape g) (gate_entries g) ≡ numbers (matrix g)
unfolding flatten numbers matrix to_weight 0w
rows_are (gate.X q) = refl
rows_are (gate.Y q) = refl
rows_are (gate.Z q) = refl
rows_are (gate.H q) = refl
rows_are (gate.S q) = refl
rows_are (gate.Sd q) = refl
rows_are (gate.T q) = refl
rows_are (gate.Td q) = refl
rows_are (gate.Cx a b) = refl
rows_are (gate.Cz a b) = refl
rows_are (gate.Sw a b) = refl

-- beyond the last entry, and beyond the last gate

above : (n k : ℕ) → NoneBelow n k → n ≤ k
above zero k p = omega arith
above (suc n) k p = omega (arith, above n k p.0, p.1)

pub no_entry : (n e : ℕ) {k : ℕ} → n ≡ k → NoneBelow (length (get_or published k [])) e → 0 ≡ weight n e
no_entry n e {k} q p = rw q (sym (get_or-eq_default (get_or published k []) 0 (above _ e p)))

pub no_gate : (n e : ℕ) → NoneBelow (length published) n → 0 ≡ weight n e
no_gate n e p = ap (λ l. entry_in l e) (sym (get_or-eq_default published [] (above _ n p)))

-- a gate's entries by its number

weight_is : (g : Gate) (e : ℕ) → weight (gate_number g) e ≡ entry_in (gate_entries g) e
weight_is g e = ap (λ l. entry_in l e) (published_is g)

pub matrix_rows : (g : Gate) {x : Shape} {n q a b c d : ℕ} → x ≡ shape g → x ≡ One q → n ≡ gate_number g
    → a ≡ weight n 0 → b ≡ weight n 1 → c ≡ weight n 2 → d ≡ weight n 3
    → (a ∷ b ∷ []) ∷ (c ∷ d ∷ []) ∷ [] ≡ numbers (matrix g)
matrix_rows g p e n a b c d =
    rw (a, b, c, d, n, weight_is g 0, weight_is g 1, weight_is g 2, weight_is g 3)
    (ap (λ y. as_rows y (gate_entries g)) (sym e ∙ p) ∙ rows_are g)

pub matrix_zeros : (g : Gate) {x : Shape} {a b : ℕ} → x ≡ shape g → x ≡ Two a b
    → (0 ∷ 0 ∷ []) ∷ (0 ∷ 0 ∷ []) ∷ [] ≡ numbers (matrix g)
matrix_zeros g p e = ap (λ y. as_rows y (gate_entries g)) (sym e ∙ p) ∙ rows_are g

-- each value of f once, at the number of its row and column
each_flat : (f : Bool → Bool → Bool → Bool → ℕ) (x y z w : Bool)
    → entry_in (flatten (by_bits (λ x y. by_bits (f x y)))) (4 * (2 * bit x + bit y) + (2 * bit z + bit w)) ≡ f x y z w
unfolding flatten
each_flat f false false false false = refl
each_flat f false false false true = refl
each_flat f false false true false = refl
each_flat f false false true true = refl
each_flat f false true false false = refl
each_flat f false true false true = refl
each_flat f false true true false = refl
each_flat f false true true true = refl
each_flat f true false false false = refl
each_flat f true false false true = refl
each_flat f true false true false = refl
each_flat f true false true true = refl
each_flat f true true false false = refl
each_flat f true true false true = refl
each_flat f true true true false = refl
each_flat f true true true true = refl

pub weight_pair : (g : Gate) {a b : ℕ} → shape g ≡ Two a b → (fa ma fb mb : Bool)
    → weight (gate_number g) (4 * (2 * bit fa + bit fb) + (2 * bit ma + bit mb)) ≡ (rule g fa ma fb mb).number
unfolding rule_table
weight_pair g e fa ma fb mb =
    let number = 4 * (2 * bit fa + bit fb) + (2 * bit ma + bit mb) in
    weight_is g number ∙ ap (λ y. entry_in (gate_entries_on (matrix g) (rule g) y) number) e
    ∙ each_flat (λ fa fb ma mb. (rule g fa ma fb mb).number) fa fb ma mb
