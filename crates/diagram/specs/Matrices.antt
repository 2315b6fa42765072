-- The gates' matrices as they are published (document 02, "Three"): "a case for each gate and entry, so that she can
-- tick them off against the standard matrices". That each is "the entry in document 01's Gates": MatricesLaws.
use Rattle.std.specs.Prelude.{◌≢◌, ℕ, zero, suc, get_or}
use mathlib.Core.List.{List, [], ◌∷◌, flatten}
use Rattle.diagram.specs.Gate.{Matrix, numbers, matrix, Rule, rule, shape, rule_table}
use Rattle.diagram.specs.declared.gate.Gate.{Gate}
use Rattle.diagram.specs.declared.gate.Shape.{Shape}
use Rattle.diagram.specs.declared.gate.Shape.TheVariants.{One, Two}

-- document 01: "The eighth root is 16, i is 256, root two is 61457, and its inverse h is 63497."; with them -1, -i, -h
-- and the root's inverse
abbrev minus_one : ℕ
minus_one = 65536

abbrev i : ℕ
i = 256

abbrev minus_i : ℕ
minus_i = 65281

abbrev h : ℕ
h = 63497

abbrev minus_h : ℕ
minus_h = 2040

abbrev root : ℕ
root = 16

abbrev inverse_root : ℕ
inverse_root = 61441

-- Row by row, "rows output (fresh), columns input (middle)". On two qubits rows and columns are 00, 01, 10, 11, the
-- first qubit's value first; of CX it is the control.
abbrev gate_x : List ℕ
gate_x =
    0 ∷ 1 ∷
    1 ∷ 0 ∷ []

abbrev gate_y : List ℕ
gate_y =
    0 ∷ minus_i ∷
    i ∷ 0 ∷ []

abbrev gate_z : List ℕ
gate_z =
    1 ∷ 0 ∷
    0 ∷ minus_one ∷ []

abbrev gate_h : List ℕ
gate_h =
    h ∷ h ∷
    h ∷ minus_h ∷ []

abbrev gate_s : List ℕ
gate_s =
    1 ∷ 0 ∷
    0 ∷ i ∷ []

abbrev gate_sd : List ℕ
gate_sd =
    1 ∷ 0 ∷
    0 ∷ minus_i ∷ []

abbrev gate_t : List ℕ
gate_t =
    1 ∷ 0 ∷
    0 ∷ root ∷ []

abbrev gate_td : List ℕ
gate_td =
    1 ∷ 0 ∷
    0 ∷ inverse_root ∷ []

abbrev gate_cx : List ℕ
gate_cx =
    1 ∷ 0 ∷ 0 ∷ 0 ∷
    0 ∷ 1 ∷ 0 ∷ 0 ∷
    0 ∷ 0 ∷ 0 ∷ 1 ∷
    0 ∷ 0 ∷ 1 ∷ 0 ∷ []

abbrev gate_cz : List ℕ
gate_cz =
    1 ∷ 0 ∷ 0 ∷ 0 ∷
    0 ∷ 1 ∷ 0 ∷ 0 ∷
    0 ∷ 0 ∷ 1 ∷ 0 ∷
    0 ∷ 0 ∷ 0 ∷ minus_one ∷ []

abbrev gate_sw : List ℕ
gate_sw =
    1 ∷ 0 ∷ 0 ∷ 0 ∷
    0 ∷ 0 ∷ 1 ∷ 0 ∷
    0 ∷ 1 ∷ 0 ∷ 0 ∷
    0 ∷ 0 ∷ 0 ∷ 1 ∷ []

-- the gates by their numbers (`gate_number`)
abbrev pub published : List (List ℕ)
published =
    gate_x ∷ gate_y ∷ gate_z ∷ gate_h ∷ gate_s ∷ gate_sd ∷ gate_t ∷ gate_td ∷
    gate_cx ∷ gate_cz ∷ gate_sw ∷ []

-- entry e of a matrix, counted row by row from 0; 0 where there is none
abbrev pub entry_in : List ℕ → ℕ → ℕ
entry_in m e = get_or m e 0

-- entry e of gate n
abbrev pub weight : ℕ → ℕ → ℕ
weight n e = entry_in (get_or published n []) e

-- the entries of document 01's Gates row by row: on one qubit its numbers, on two its rule's values
abbrev pub gate_entries_on : Matrix → Rule → Shape → List ℕ
gate_entries_on m r (One q) = flatten (numbers m)
gate_entries_on m r (Two a b) = flatten (rule_table r)

abbrev pub gate_entries : Gate → List ℕ
gate_entries g = gate_entries_on (matrix g) (rule g) (shape g)

-- two rows of two: on one qubit the four entries, on two zeros
abbrev pub as_rows : Shape → List ℕ → List (List ℕ)
as_rows (One q) l = (entry_in l 0 ∷ entry_in l 1 ∷ []) ∷ (entry_in l 2 ∷ entry_in l 3 ∷ []) ∷ []
as_rows (Two a b) l = (0 ∷ 0 ∷ []) ∷ (0 ∷ 0 ∷ []) ∷ []

-- k is none of the numbers below n, as a `match` with these cases leaves it
abbrev pub NoneBelow : ℕ → ℕ → Type 0
NoneBelow zero k = Unit {0}
NoneBelow (suc n) k = NoneBelow n k × (k ≢ n)
