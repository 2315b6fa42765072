-- The gates (document 01, "Gates") and `unit`, as tensors over d indices.
use Rattle.std.specs.Prelude.{Bool, true, false, cond, ◌&&◌, List, [], ◌∷◌, map, ℕ, zero, suc, ◌+◌, ◌^◌, ◌<◌, get_or}
use Rattle.std.specs.Prelude.{◌≡◌, ◌++◌, codes, decimal}
use Rattle.std.specs.Bool.{xor, beq}
use Rattle.field.specs.Weight.{Weight, to_weight, 0w, 1w, negate_w, imaginary_unit, inverse_root_two, plus_w, times_w}
use Rattle.diagram.specs.Tensor.{Tensor, Bits, input, middle, fresh}
use Rattle.diagram.specs.Tabulate.{tabulate}
use Rattle.diagram.specs.declared.gate.Gate.{Gate}
use Rattle.diagram.specs.declared.gate.Gate.TheVariants as gate
use Rattle.diagram.specs.declared.gate.Shape.{Shape}
use Rattle.diagram.specs.declared.gate.Shape.TheVariants.{One, Two}

-- a gate's qubit, or its two: "CX a b"
abbrev pub shape : Gate → Shape
shape (gate.X q) = One q
shape (gate.Y q) = One q
shape (gate.Z q) = One q
shape (gate.H q) = One q
shape (gate.S q) = One q
shape (gate.Sd q) = One q
shape (gate.T q) = One q
shape (gate.Td q) = One q
shape (gate.Cx a b) = Two a b
shape (gate.Cz a b) = Two a b
shape (gate.Sw a b) = Two a b

-- "Each gate is 2 by 2 numbers, rows output (fresh), columns input (middle)": two rows of two weights
abbrev pub Matrix : Type 0
Matrix = List (List Weight)

abbrev pub rows : Weight → Weight → Weight → Weight → Matrix
rows a b c d = (a ∷ b ∷ []) ∷ (c ∷ d ∷ []) ∷ []

-- the rows of numbers, as the code's array has them
unfoldable pub numbers : Matrix → List (List ℕ)
numbers m = map (map (λ (w : Weight). w.number)) m

-- "X 0 1 1 0; Y 0 -i i 0; Z 1 0 0 -1; H h h h -h. Diagonal ones are 1 and: S 256, SD 65281, T 16, TD 61441."
-- A gate on two qubits is given by its rule below, and zeros stand here.
unfoldable pub matrix : Gate → Matrix
matrix (gate.X q) = rows 0w 1w 1w 0w
matrix (gate.Y q) = rows 0w (negate_w imaginary_unit) imaginary_unit 0w
matrix (gate.Z q) = rows 1w 0w 0w (negate_w 1w)
matrix (gate.H q) = let h = inverse_root_two in rows h h h (negate_w h)
matrix (gate.S q) = rows 1w 0w 0w (to_weight 256)
matrix (gate.Sd q) = rows 1w 0w 0w (to_weight 65281)
matrix (gate.T q) = rows 1w 0w 0w (to_weight 16)
matrix (gate.Td q) = rows 1w 0w 0w (to_weight 61441)
matrix (gate.Cx a b) = rows 0w 0w 0w 0w
matrix (gate.Cz a b) = rows 0w 0w 0w 0w
matrix (gate.Sw a b) = rows 0w 0w 0w 0w

-- the number of a row, or of a column in it
abbrev pub bit : Bool → ℕ
bit false = 0
bit true = 1

-- the entry at the values of an assignment for q's fresh and middle
unfoldable pub on_qubit : Matrix → ℕ → Bits → Weight
on_qubit m q f = get_or (get_or m (bit (f (fresh q))) []) (bit (f (middle q))) 0w

abbrev pub equal : Bool → Bool → Bool
equal a b = beq a b

-- an entry of a gate on two qubits a and b, by the values of an assignment for a's fresh and middle and for b's
abbrev pub Rule : Type 0
Rule = Bool → Bool → Bool → Bool → Weight

-- "CX a b: 1 where a's fresh equals its middle and b's fresh is b's middle plus a's middle modulo 2.
--  CZ a b: fresh equals middle on both, times -1 where both are 1. SW exchanges them. Other entries are 0."
-- A gate on one qubit is given by its numbers above, and 0 stands here.
abbrev pub rule : Gate → Rule
rule (gate.Cx a b) fa ma fb mb = cond (equal fa ma && equal fb (xor mb ma)) 1w 0w
rule (gate.Cz a b) fa ma fb mb = cond (equal fa ma && equal fb mb) (cond (ma && mb) (negate_w 1w) 1w) 0w
rule (gate.Sw a b) fa ma fb mb = cond (equal fa mb && equal fb ma) 1w 0w
rule (gate.X q) fa ma fb mb = 0w
rule (gate.Y q) fa ma fb mb = 0w
rule (gate.Z q) fa ma fb mb = 0w
rule (gate.H q) fa ma fb mb = 0w
rule (gate.S q) fa ma fb mb = 0w
rule (gate.Sd q) fa ma fb mb = 0w
rule (gate.T q) fa ma fb mb = 0w
rule (gate.Td q) fa ma fb mb = 0w

-- the entry at an assignment: by the numbers on one qubit, by the rule on two
abbrev pub entry_on : Matrix → Rule → Shape → Bits → Weight
entry_on m r (One q) f = on_qubit m q f
entry_on m r (Two a b) f = r (f (fresh a)) (f (middle a)) (f (fresh b)) (f (middle b))

unfoldable pub entry : Gate → Bits → Weight
entry g f = entry_on (matrix g) (rule g) (shape g) f

unfoldable pub gate_tensor : (d : ℕ) → Gate → Tensor d
gate_tensor d g = tabulate d (entry g)

-- unit: "the tensor that is 1 where input equals middle for each qubit below n, else 0"
unfoldable pub straight : ℕ → Bits → Bool
straight zero f = true
straight (suc n) f = straight n f && equal (f (input n)) (f (middle n))

unfoldable pub unit_entry : ℕ → Bits → Weight
unit_entry n f = cond (straight n f) 1w 0w

unfoldable pub unit_tensor : (d : ℕ) → ℕ → Tensor d
unit_tensor d n = tabulate d (unit_entry n)

-- the indices of the gate's qubits are below d
abbrev pub ShapeBelow : ℕ → Shape → Type 0
ShapeBelow d (One q) = fresh q < d
ShapeBelow d (Two a b) = (fresh a < d) × (fresh b < d)

abbrev pub GateBelow : ℕ → Gate → Type 0
GateBelow d g = ShapeBelow d (shape g)

-- "Qubit q (0 to 7)": a gate's qubit, or its two
abbrev pub AllBelowEight : Shape → Type 0
AllBelowEight (One q) = q < 8
AllBelowEight (Two a b) = (a < 8) × (b < 8)

-- "the middles of its qubits", as a mask: the powers of two of these indices, added
abbrev pub middles : Shape → ℕ
middles (One q) = 2 ^ middle q
middles (Two a b) = 2 ^ middle a + 2 ^ middle b

-- the product of two matrices
unfoldable pub product : Matrix → Matrix → Matrix
product a b =
    let x : ℕ → ℕ → Weight = λ i j. get_or (get_or a i []) j 0w in
    let y : ℕ → ℕ → Weight = λ i j. get_or (get_or b i []) j 0w in
    let z : ℕ → ℕ → Weight = λ i j. plus_w (times_w (x i 0) (y 0 j)) (times_w (x i 1) (y 1 j)) in
    rows (z 0 0) (z 0 1) (z 1 0) (z 1 1)

-- The numbers belong together as the gates do. A row: two gates on a qubit, and what one times the other is.
abbrev Row : Type 0
Row = Matrix × Matrix × Matrix

abbrev pub RelationsHold : List Row → Type 0
RelationsHold [] = Unit {0}
RelationsHold ((a, b, c) ∷ l) = (numbers (product a b) ≡ numbers c) × RelationsHold l

abbrev identity : Matrix
identity = rows 1w 0w 0w 1w

abbrev pub relations : ℕ → List Row
relations q =
    let x = matrix (gate.X q) in
    let y = matrix (gate.Y q) in
    let z = matrix (gate.Z q) in
    let h = matrix (gate.H q) in
    let s = matrix (gate.S q) in
    let t = matrix (gate.T q) in
    (x, x, identity)
    ∷ (y, y, identity)
    ∷ (z, z, identity)
    ∷ (h, h, identity)
    ∷ (y, z, rows 0w imaginary_unit imaginary_unit 0w)
    ∷ (h, x, product z h)
    ∷ (s, s, z)
    ∷ (t, t, s)
    ∷ (s, matrix (gate.Sd q), identity)
    ∷ (t, matrix (gate.Td q), identity)
    ∷ []

-- the gate's qubit, or its first; and its qubit again, or its second
abbrev pub first_qubit_on : Shape → ℕ
first_qubit_on (One q) = q
first_qubit_on (Two a b) = a

abbrev pub second_qubit_on : Shape → ℕ
second_qubit_on (One q) = q
second_qubit_on (Two a b) = b

abbrev pub first_qubit : Gate → ℕ
first_qubit g = first_qubit_on (shape g)

abbrev pub second_qubit : Gate → ℕ
second_qubit g = second_qubit_on (shape g)

-- the numbers of a gate on one qubit, as the code writes them
abbrev two_by_two : ℕ → ℕ → ℕ → ℕ → List (List ℕ)
two_by_two a b c d = (a ∷ b ∷ []) ∷ (c ∷ d ∷ []) ∷ []

abbrev pub single_numbers : Gate → List (List ℕ)
single_numbers (gate.X q) = two_by_two 0 1 1 0
single_numbers (gate.Y q) = two_by_two 0 65281 256 0
single_numbers (gate.Z q) = two_by_two 1 0 0 65536
single_numbers (gate.H q) = two_by_two 63497 63497 63497 2040
single_numbers (gate.S q) = two_by_two 1 0 0 256
single_numbers (gate.Sd q) = two_by_two 1 0 0 65281
single_numbers (gate.T q) = two_by_two 1 0 0 16
single_numbers (gate.Td q) = two_by_two 1 0 0 61441
single_numbers (gate.Cx a b) = two_by_two 0 0 0 0
single_numbers (gate.Cz a b) = two_by_two 0 0 0 0
single_numbers (gate.Sw a b) = two_by_two 0 0 0 0

-- four numbers, as the code writes a row of a gate on two qubits
abbrev pub row : ℕ → ℕ → ℕ → ℕ → List ℕ
row a b c d = a ∷ b ∷ c ∷ d ∷ []

-- f at the values 00, 01, 10 and 11
abbrev pub by_bits : {A : Type 0} → (Bool → Bool → A) → List A
by_bits f = f false false ∷ f false true ∷ f true false ∷ f true true ∷ []

-- the entries of a rule: rows are the values of the fresh indices, columns those of the middles
unfoldable pub rule_table : Rule → List (List ℕ)
rule_table r = by_bits (λ fa fb. by_bits (λ ma mb. (r fa ma fb mb).number))

-- a gate's number, in document 01's order
abbrev pub gate_number : Gate → ℕ
gate_number (gate.X q) = 0
gate_number (gate.Y q) = 1
gate_number (gate.Z q) = 2
gate_number (gate.H q) = 3
gate_number (gate.S q) = 4
gate_number (gate.Sd q) = 5
gate_number (gate.T q) = 6
gate_number (gate.Td q) = 7
gate_number (gate.Cx a b) = 8
gate_number (gate.Cz a b) = 9
gate_number (gate.Sw a b) = 10

-- "CX a b": a name, and the qubits that it is on
abbrev on_one : List ℕ → ℕ → List ℕ
on_one name q = name ++ codes " " ++ decimal q

abbrev on_two : List ℕ → ℕ → ℕ → List ℕ
on_two name a b = name ++ codes " " ++ decimal a ++ codes " " ++ decimal b

-- a gate as a session's line names it
abbrev pub printed : Gate → List ℕ
printed (gate.X q) = on_one (codes "X") q
printed (gate.Y q) = on_one (codes "Y") q
printed (gate.Z q) = on_one (codes "Z") q
printed (gate.H q) = on_one (codes "H") q
printed (gate.S q) = on_one (codes "S") q
printed (gate.Sd q) = on_one (codes "SD") q
printed (gate.T q) = on_one (codes "T") q
printed (gate.Td q) = on_one (codes "TD") q
printed (gate.Cx a b) = on_two (codes "CX") a b
printed (gate.Cz a b) = on_two (codes "CZ") a b
printed (gate.Sw a b) = on_two (codes "SW") a b
