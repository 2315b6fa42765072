-- Building `unit` in a store: each qubit puts three joins onto what is built of the qubits after it.
use Rattle.std.specs.Prelude.{◌≡◌, List, ℕ, suc, ◌<◌, zero}
use Rattle.field.specs.Weight.{0w, 1w}
use Rattle.diagram.specs.Tensor.{Tensor, input, middle, constant, joined}
use Rattle.diagram.specs.Top.{FreeBelow}
use Rattle.diagram.specs.Tally.{build}
use Rattle.diagram.specs.Meaning.{Valid}
use Rattle.diagram.specs.Store.{set_of, tensor_of, Sound}
use Rattle.diagram.specs.declared.node.Edge.{Edge}
use Rattle.diagram.specs.declared.make.State.{State}

-- e's tensor is built in a sound store, and does not depend on the input or middle of qubit q, or on any index before
pub record OntoRequires (s : List ℕ) (st : State) (q : ℕ) (e : Edge) : Type 0 where
  pub sound : Sound s st
  pub qubit : q < 8
  pub valid : Valid st.count e
  pub above : FreeBelow (suc (middle q)) (tensor_of s st e)
  pub built : build (tensor_of s st e) (set_of s st) ≡ (tensor_of s st e, set_of s st)

-- qubit q before U: 0 where its input and middle differ
unfoldable pub onto : {d : ℕ} → ℕ → Tensor d → Tensor d
onto {d} q U = joined (input q) (joined (middle q) U (constant d 0w)) (joined (middle q) (constant d 0w) U)

-- qubits q .. q + m - 1
unfoldable pub unit_from : {d : ℕ} → ℕ → ℕ → Tensor d
unit_from {d} q zero = constant d 1w
unit_from q (suc m) = onto q (unit_from (suc q) m)
