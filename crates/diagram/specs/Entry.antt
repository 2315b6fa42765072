-- The entries of a gate as the code finds them, and the indices on which they depend.
use Rattle.std.specs.Prelude.{◌≡◌, Bool, ◌&&◌, ◌||◌, not, ℕ, ◌/◌, ◌%◌, ◌<◌, eqb}
use Rattle.diagram.specs.Tensor.{Bits, middle, fresh}
use Rattle.diagram.specs.Gate.{first_qubit, second_qubit}
use Rattle.diagram.specs.declared.gate.Gate.{Gate}

-- "Qubit q (0 to 7)"
pub record QubitsInRange (g : Gate) : Type 0 where
  pub one : first_qubit g < 8
  pub two : second_qubit g < 8

-- k is the middle or fresh index of one of the gate's qubits
unfoldable pub uses_index : Gate → ℕ → Bool
uses_index g k = not (eqb (k % 3) 0) && (eqb (k / 3) (first_qubit g) || eqb (k / 3) (second_qubit g))

-- f and h have the same values at the fresh and the middle index of q
abbrev pub AgreeOn : Bits → Bits → ℕ → Type 0
AgreeOn f h q = (f (fresh q) ≡ h (fresh q)) × (f (middle q) ≡ h (middle q))
