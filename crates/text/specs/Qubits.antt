-- A gate's qubits (document 01, "Verdicts"), in rising order and as the code has them.
use Rattle.std.specs.Prelude.{List, [], ◌∷◌, ◌≡◌, true, ℕ, min, max, ◌+◌, ◌*◌, ◌^◌, suc, ◌≤◌, ◌<◌}
use Rattle.diagram.specs.Gate.{shape, AllBelowEight}
use Rattle.diagram.specs.Tensor.{Bits}
use Rattle.diagram.specs.declared.gate.Shape.{Shape}
use Rattle.diagram.specs.declared.gate.Gate.{Gate}
use Rattle.diagram.specs.declared.gate.Shape.TheVariants.{One, Two}

-- the qubits of a gate, "in rising order"
abbrev pub qubits_on : Shape → List ℕ
qubits_on (One q) = q ∷ []
qubits_on (Two a b) = min a b ∷ max a b ∷ []

abbrev pub qubits : Gate → List ℕ
qubits g = qubits_on (shape g)

-- "the middles of its qubits", as the mask of `cont`: qubit q has the middle 3q+1
unfoldable pub middles : List ℕ → ℕ
middles [] = 0
middles (q ∷ qs) = 2 ^ (3 * q + 1) + middles qs

-- qubits in rising order, from `least` on, that fit into d indices
abbrev pub Rising : ℕ → ℕ → List ℕ → Type 0
Rising d least [] = Unit {0}
Rising d least (q ∷ qs) = (least ≤ q) × (3 * q + 2 < d) × Rising d (suc q) qs

-- the mask has every middle of the qubits
abbrev pub AllSet : List ℕ → Bits → Type 0
AllSet [] S = Unit {0}
AllSet (q ∷ qs) S = (S (3 * q + 1) ≡ true) × AllSet qs S

-- every gate's qubits fit into d indices
abbrev pub AllFit : ℕ → List Gate → Type 0
AllFit d [] = Unit {0}
AllFit d (g ∷ gs) = Rising d 0 (qubits g) × AllFit d gs

-- as the code has them: in a list, each one of the eight, those of a gate
abbrev pub qubit_list : Shape → List ℕ
qubit_list (One q) = q ∷ []
qubit_list (Two p q) = p ∷ q ∷ []

pub record QubitsOf (g : Gate) (r : Shape) : Type 0 where
  pub is : qubit_list r ≡ qubits g
  pub below : AllBelowEight r
