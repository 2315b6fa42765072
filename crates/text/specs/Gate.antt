-- Gate calls (document 01, "Session calls").
use Rattle.std.specs.Prelude.{List, [], ◌∷◌, ℕ, Option, Some, Result, Ok, Err}
use Rattle.text.specs.Text.{Bytes, known}
use Rattle.text.specs.Limits.{last_qubit, most_qubits, most_digits}
use Rattle.text.specs.Number.{number_of}
use Rattle.text.specs.Args.{one_or_two_numbers, numbers}
use Rattle.text.specs.Names.{one_qubit, two_qubits, placed_gate, placed_as}
use Rattle.text.specs.Call.{check_range, check_apart, malformed, check_register}
use Rattle.text.specs.declared.call.Refusal.{Refusal}
use Rattle.text.specs.declared.call.Refusal.TheVariants.{Name, Range, Equal as Equal'}
use Rattle.text.specs.declared.names.Misplaced.{Misplaced}
use Rattle.text.specs.declared.names.Misplaced.TheVariants.{Qubit, Equal}
use Rattle.text.specs.declared.call.Call.{Call}
use Rattle.text.specs.declared.args.Args.{Args}
use Rattle.diagram.specs.declared.gate.Gate.{Gate}
use Rattle.text.specs.declared.args.Args.TheVariants.{Zero}
use Rattle.text.specs.declared.call.Call.TheVariants as call

-- "4, 6 (both qubits equal)"
abbrev pub refusal_of : Misplaced → Refusal
refusal_of Qubit = Range
refusal_of Equal = Equal'

-- "`gate d name q`, or with a second qubit: build of the gate. Refuses 1, 2, 5 (name not below, or wrong count of
-- qubits for it), 4, 6 (both qubits equal), 8."
abbrev pub one_qubit_call : ℕ → ℕ → Option Gate → Result Call Refusal
one_qubit_call d q name = known (Err Name) name (λ g. check_range q 0 last_qubit (Ok (call.Gate d g)))

abbrev pub two_qubit_call : ℕ → ℕ → ℕ → Option Gate → Result Call Refusal
two_qubit_call d p q name =
    known (Err Name) name
    (λ g. check_range p 0 last_qubit (check_range q 0 last_qubit (check_apart p q (Ok (call.Gate d g)))))

-- the same of either count, where the gate's qubits are checked as `placed_gate` does
abbrev pub call_placed : ℕ → Result Gate Misplaced → Result Call Refusal
call_placed d = placed_as (λ g. Ok (call.Gate d g)) (λ m. Err (refusal_of m))

abbrev pub named_call : ℕ → Option Gate → Result Call Refusal
named_call d name = known (Err Name) name (λ g. call_placed d (placed_gate most_qubits g))

-- ".. wrong count of qubits for it"
abbrev pub gate_call_of : ℕ → Bytes → Args → Result Call Refusal
gate_call_of d name =
    one_or_two_numbers malformed
    (λ q. check_register d (one_qubit_call d q (one_qubit name q)))
    (λ p q. check_register d (two_qubit_call d p q (two_qubits name p q)))

-- "Fields here number 4 or 5."
unfoldable pub gate_call_fields : List Bytes → Result Call Refusal
gate_call_fields [] = malformed
gate_call_fields (d ∷ []) = malformed
gate_call_fields (d ∷ name ∷ qubits) =
    known malformed (number_of most_digits d)
    (λ r. known malformed (numbers most_digits (Some Zero) qubits) (gate_call_of r name))
