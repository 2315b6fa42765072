-- What a list of gates means: matrices over the states of n qubits, and their product.
use Rattle.std.specs.Prelude.{Bool, false, ◌||◌, true, ◌&&◌, cond, List, [], ◌∷◌, ◌≡◌, ℕ, zero, suc, ◌/◌, ◌%◌, ◌^◌, eqb}
use Rattle.std.proofs.Math.Option.{some}
use Rattle.diagram.specs.Weights.{Weight, 0w, 1w, plus_w, times_w}
use Rattle.diagram.specs.Gate.{equal, entry}
use Rattle.diagram.specs.Tensor.{Bits, bits, middle, input, Tensor, value, indices}
use Rattle.text.specs.Qubits.{qubits}
use Rattle.text.specs.VerdictSession.{list_tensor}
use Rattle.diagram.specs.declared.gate.Gate.{Gate}

-- a basis state: for each qubit its value, 0 (false) or 1 (true). On n qubits, only the values of those below n count.
abbrev pub BasisState : Type 0
BasisState = ℕ → Bool

-- a matrix: the entry at an output state (row) and an input state (column)
abbrev pub Operator : Type 0
Operator = BasisState → BasisState → Weight

-- is q one of these qubits?
unfoldable pub has_qubit : List ℕ → ℕ → Bool
has_qubit [] q = false
has_qubit (p ∷ ps) q = eqb p q || has_qubit ps q

-- has each qubit below n, except these, the same value in o as in i?
unfoldable pub others : ℕ → List ℕ → BasisState → BasisState → Bool
others zero qs o i = true
others (suc n) qs o i = others n qs o i && (has_qubit qs n || equal (o n) (i n))

-- the assignment at which a gate's entry is read: qubit q's output o at its fresh index, 3q+2, and its input i at its
-- middle, 3q+1
unfoldable pub wires : BasisState → BasisState → Bits
wires o i k = cond (eqb (k % 3) 2) (o (k / 3)) (i (k / 3))

-- a gate's matrix on n qubits: its own entry for its qubits where each other qubit has the same value in output and
-- input, else 0
unfoldable pub gate_matrix : ℕ → Gate → Operator
gate_matrix n g o i = cond (others n (qubits g) o i) (entry g (wires o i)) 0w

-- 1 where output and input are the same, else 0
unfoldable pub identity : ℕ → Operator
identity n o i = cond (others n [] o i) 1w 0w

-- f 0 + .. + f (k - 1)
unfoldable pub sum_below : ℕ → (ℕ → Weight) → Weight
sum_below zero f = 0w
sum_below (suc k) f = plus_w (sum_below k f) (f k)

-- f added over the 2^n states: they are numbered, and qubit q has bit q of the number
unfoldable pub sum_states : ℕ → (BasisState → Weight) → Weight
sum_states n f = sum_below (2 ^ n) (λ v. f (bits v))

-- the product A B of matrices, B acting first: added over the 2^n states m between them
unfoldable pub product : ℕ → Operator → Operator → Operator
product n A B o i = sum_states n (λ m. times_w (A o m) (B m i))

-- a list's matrix: the product of its gates' matrices. The first gate acts first, so that later ones stand on the left.
unfoldable pub list_matrix : ℕ → List Gate → Operator
list_matrix n [] = identity n
list_matrix n (g ∷ gs) = product n (list_matrix n gs) (gate_matrix n g)

-- where a list's tensor has its output and its input: at the middles and at the inputs of the qubits
abbrev pub outputs : Bits → BasisState
outputs f q = f (middle q)

abbrev pub inputs : Bits → BasisState
inputs f q = f (input q)

-- The tensor that a list's register ends with, over the engine's indices: at each assignment, written as a number, its
-- value is the entry of the list's matrix.
pub record ListMeans (n : ℕ) (gs : List Gate) : Type 0 where
  pub tensor : Tensor indices
  pub is : list_tensor indices n gs ≡ some tensor
  pub entries : (v : ℕ) → value tensor v ≡ list_matrix n gs (outputs (bits v)) (inputs (bits v))
