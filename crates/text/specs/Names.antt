-- The gates' names (document 01, "Gates"), and where a gate may stand.
use Rattle.std.specs.Prelude.{cond, ◌≢◌, ℕ, ◌<◌, ltb, eqb, Option, Some, None, Result, Ok, Err}
use Rattle.diagram.specs.Gate.{shape}
use Rattle.text.specs.Text.{Bytes, same_bytes, bytes}
use Rattle.diagram.specs.declared.gate.Gate.{Gate}
use Rattle.diagram.specs.declared.gate.Gate.TheVariants.{X, Y, Z, H, S, Sd, T, Td, Cx, Cz, Sw}
use Rattle.diagram.specs.declared.gate.Shape.{Shape}
use Rattle.diagram.specs.declared.gate.Shape.TheVariants.{One, Two}
use Rattle.text.specs.declared.names.Misplaced.{Misplaced}
use Rattle.text.specs.declared.names.Misplaced.TheVariants.{Qubit, Equal}

-- this gate, where s is its name; else the other, if there is one
abbrev pub choose_name : Bytes → Bytes → Gate → Option Gate → Option Gate
choose_name s name g other = cond (same_bytes s name) (Some g) other

-- "X 0 1 1 0; Y 0 -i i 0; Z 1 0 0 -1; H h h h -h. Diagonal ones are 1 and: S 256, SD 65281, T 16, TD 61441."
unfoldable pub one_qubit : Bytes → ℕ → Option Gate
one_qubit s q =
    choose_name s (bytes "X") (X q)
    (choose_name s (bytes "Y") (Y q)
    (choose_name s (bytes "Z") (Z q)
    (choose_name s (bytes "H") (H q)
    (choose_name s (bytes "S") (S q)
    (choose_name s (bytes "SD") (Sd q)
    (choose_name s (bytes "T") (T q)
    (choose_name s (bytes "TD") (Td q)
    None)))))))

-- "CX a b: ..", "CZ a b: ..", "SW exchanges them."
unfoldable pub two_qubits : Bytes → ℕ → ℕ → Option Gate
two_qubits s p q =
    choose_name s (bytes "CX") (Cx p q)
    (choose_name s (bytes "CZ") (Cz p q)
    (choose_name s (bytes "SW") (Sw p q)
    None))

-- a gate on qubits below n, which differ where they are two
abbrev pub PlacedOn : ℕ → Shape → Type 0
PlacedOn n (One q) = q < n
PlacedOn n (Two p q) = (p < n) × ((q < n) × (p ≢ q))

abbrev pub Placed : ℕ → Gate → Type 0
Placed n g = PlacedOn n (shape g)

-- A gate that a name gives is placed where its qubits are in range.
abbrev Places : ℕ → Type 0 → Option Gate → Type 0
Places n condition None = Unit
Places n condition (Some g) = condition → Placed n g

pub record PlacedName (n : ℕ) (condition : Type 0) (name : Option Gate) : Type 0 where
  pub place : Places n condition name

-- the same as a test, from the left: "4, 6 (both qubits equal)" of a session's gate, "12 (qubit not below n), 13
-- (qubits equal)" of a list's
abbrev pub placed_shape : ℕ → Shape → Gate → Result Gate Misplaced
placed_shape n (One q) g = cond (ltb q n) (Ok g) (Err Qubit)
placed_shape n (Two p q) g =
    cond (ltb p n) (cond (ltb q n) (cond (eqb p q) (Err Equal) (Ok g)) (Err Qubit)) (Err Qubit)

unfoldable pub placed_gate : ℕ → Gate → Result Gate Misplaced
placed_gate n g = placed_shape n (shape g) g

-- what is made of a gate that may stand, or of why it may not
abbrev pub placed_as : {A : Type 0} → (Gate → A) → (Misplaced → A) → Result Gate Misplaced → A
placed_as ok wrong (Ok g) = ok g
placed_as ok wrong (Err m) = wrong m
