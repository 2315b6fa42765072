-- A gate of a verdict's list as one step of the tally (document 01, "Verdicts"): what its calls put in, one after the
-- other.
use Rattle.std.specs.Prelude.{List, [], ◌∷◌, ℕ, ◌+◌, ◌*◌, set}
use Rattle.std.proofs.Math.Option.{none}
use Rattle.diagram.specs.Tensor.{Tensor, bits, times, indices, rename_down}
use Rattle.diagram.specs.Tally.{Step, return, ◌>>=◌, low, cont, build, collect, filled_tensors}
use Rattle.diagram.specs.Gate.{gate_tensor}
use Rattle.diagram.specs.Top.{Free}
use Rattle.diagram.specs.SumOver.{sum_over}
use Rattle.text.specs.Session.{Tally}
use Rattle.text.specs.Qubits.{middles, qubits, Rising}
use Rattle.diagram.specs.declared.gate.Gate.{Gate}

-- "`low` of their fresh indices in rising order"
unfoldable pub rename_step : {d : ℕ} → List ℕ → Tensor d → Step d
rename_step [] T = return T
rename_step (q ∷ qs) T = low (3 * q + 2) T >>= rename_step qs

-- "`cont 0 2 0` over the middles of its qubits", where A is the gate's tensor and T the list's
unfoldable pub contract_step : {d : ℕ} → List ℕ → Tensor d → Tensor d → Step d
contract_step qs T A = cont A T (bits (middles qs)) >>= rename_step qs

-- "each gate .. into 2", and then the steps above
unfoldable pub apply_step : {d : ℕ} → Gate → Tensor d → Step d
apply_step {d} g T = build (gate_tensor d g) >>= contract_step (qubits g) T

-- "`drop 2`, `collect`"
unfoldable pub drop_collect : {d : ℕ} → Tally d → Tally d
drop_collect t =
    record {
      nodes = collect (filled_tensors (set t.registers 2 none)) t.nodes;
      registers = set t.registers 2 none;
    }

-- A depends on no middle of these qubits
abbrev pub AllFree : {d : ℕ} → List ℕ → Tensor d → Type 0
AllFree [] A = Unit {0}
AllFree (q ∷ qs) A = Free (3 * q + 1) A × AllFree qs A

-- what a gate does to a list's tensor: contracted over the middles of its qubits, their fresh indices renamed
unfoldable pub renamed_tensor : {d : ℕ} → List ℕ → Tensor d → Tensor d
renamed_tensor [] T = T
renamed_tensor (q ∷ qs) T = renamed_tensor qs (rename_down (3 * q + 2) T)

unfoldable pub contracted_tensor : {d : ℕ} → Gate → Tensor d → Tensor d
contracted_tensor {d} g T = sum_over (bits (middles (qubits g))) (times (gate_tensor d g) T)

unfoldable pub applied_tensor : {d : ℕ} → Gate → Tensor d → Tensor d
applied_tensor g T = renamed_tensor (qubits g) (contracted_tensor g T)

unfoldable pub applied_list : {d : ℕ} → List Gate → Tensor d → Tensor d
applied_list [] T = T
applied_list (g ∷ gs) T = applied_list gs (applied_tensor g T)

-- these qubits rise and fit, and T depends on no middle of them
pub record Renamable (qs : List ℕ) (T : Tensor indices) : Type 0 where
  pub rising : Rising indices 0 qs
  pub free : AllFree qs T
