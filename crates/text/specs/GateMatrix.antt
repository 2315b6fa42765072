-- Words for the laws of matrices: which indices a mask, an assignment and a tensor have at a gate's qubits.
use Rattle.std.specs.Prelude.{List, [], ◌∷◌, ◌≡◌, false, cond, ℕ, suc, ◌*◌, ◌/◌, ◌%◌, eqb}
use Rattle.diagram.specs.Tensor.{Bits, fresh, middle, assign, input, Tensor, at}
use Rattle.text.specs.Product.{BasisState, Operator, outputs, inputs}

-- what holds of each of a gate's qubits
abbrev pub Each : (ℕ → Type 0) → List ℕ → Type 0
Each P [] = Unit {0}
Each P (q ∷ qs) = P q × Each P qs

-- sums over middles as sums over qubits: S has qubit q's middle where U has q, and no input and no fresh index
pub record Masked (S U : Bits) (q : ℕ) : Type 0 where
  pub input_out : S (3 * q) ≡ false
  pub middle_in : S (suc (3 * q)) ≡ U q
  pub fresh_out : S (suc (suc (3 * q))) ≡ false

-- the renaming at an assignment: a renamed qubit's fresh index has what its middle has
unfoldable pub raised : List ℕ → Bits → Bits
raised [] f = f
raised (q ∷ qs) f = let r = raised qs f in assign (fresh q) (r (middle q)) r

-- an assignment x that has m at the middles, i at the inputs, and o at the fresh indices of the qubits
pub record Wired (qs : List ℕ) (o i : BasisState) (x : Bits) (m : BasisState) : Type 0 where
  pub at_middles : (q : ℕ) → x (middle q) ≡ m q
  pub at_inputs : (q : ℕ) → x (input q) ≡ i q
  pub at_fresh : Each (λ q. x (fresh q) ≡ o q) qs

-- the assignment that has o at the middles and i at the inputs
abbrev pub spread : BasisState → BasisState → Bits
spread o i k = cond (eqb (k % 3) 1) (o (k / 3)) (i (k / 3))

-- T's values are M's entries, at output and input
abbrev pub Has : {d : ℕ} → Tensor d → Operator → Type 0
Has T M = (f : Bits) → at T f ≡ M (outputs f) (inputs f)
