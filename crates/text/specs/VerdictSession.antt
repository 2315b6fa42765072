-- Verdicts (document 01, "Verdicts"): the session that a text stands for, and the answer.
use Rattle.std.specs.Prelude.{List, [], ◌∷◌, ◌++◌, cond, ℕ, ◌+◌, ◌*◌, length, get_or, ltb, Result, Ok, Err}
use Rattle.std.proofs.Math.Option.{Option, none}
use Rattle.diagram.specs.Tensor.{Tensor}
use Rattle.text.specs.Text.{Bytes}
use Rattle.text.specs.Limits.{verdict_room}
use Rattle.text.specs.Session.{Tally, TallyReply, Capacity, answer, unlimited, empty_tally}
use Rattle.text.specs.Check.{Reading, lists, fault, read_text}
use Rattle.text.specs.Ruling.{Ruling, printed_ruling, no_at}
use Rattle.text.specs.Qubits.{qubits, middles}
use Rattle.text.specs.declared.call.Call.{Call}
use Rattle.diagram.specs.declared.gate.Gate.{Gate}
use Rattle.text.specs.declared.call.Refusal.{Refusal}
use Rattle.text.specs.declared.answer.Answer.{Answer}
use Rattle.diagram.specs.declared.compare.Comparison.{Comparison}
use Rattle.diagram.specs.declared.compare.Comparison.TheVariants.{Differ}
use Rattle.text.specs.declared.check.Fault.TheVariants.{Full}
use Rattle.text.specs.declared.call.Call.TheVariants as call
use Rattle.text.specs.declared.answer.Answer.TheVariants.{Compared, Done, Value, Mask}

-- "`low` of their fresh indices in rising order": qubit q has the fresh index 3q+2
unfoldable pub low_calls : ℕ → List ℕ → List Call
low_calls r [] = []
low_calls r (q ∷ qs) = call.Low r r (3 * q + 2) ∷ low_calls r qs

-- "each gate .. into 2, `cont 0 2 0` over the middles of its qubits, `low` of their fresh indices in rising order,
-- `drop 2`, `collect`"; r is 0 for the first list and 1 for the second
unfoldable pub gate_calls : ℕ → Gate → List Call
gate_calls r g =
    (call.Gate 2 g ∷ call.Cont r 2 r (middles (qubits g)) ∷ low_calls r (qubits g)) ++ (call.Drop 2 ∷ call.Collect ∷ [])

-- calls with the line that they are of: "8 full, at the line being run, a unit at its header or `=`"
abbrev pub NumberedCall : Type 0
NumberedCall = ℕ × Call

unfoldable pub at_line : ℕ → List Call → List NumberedCall
at_line line [] = []
at_line line (c ∷ cs) = (line, c) ∷ at_line line cs

unfoldable pub gates_calls : ℕ → ℕ → List Gate → List NumberedCall
gates_calls r line [] = []
gates_calls r line (g ∷ gs) = at_line line (gate_calls r g) ++ gates_calls r (line + 1) gs

-- one list of gates on n qubits: "`unit` in 0; each gate .."
unfoldable pub list_calls : ℕ → ℕ → ℕ → List Gate → List NumberedCall
list_calls r n line gs = (line, call.Unit r n) ∷ gates_calls r (line + 1) gs

-- the first list from the header on, "then the same in register 1" from the line `=` on
unfoldable pub session_calls : ℕ → List Gate → List Gate → List NumberedCall
session_calls n gs hs = list_calls 0 n 1 gs ++ list_calls 1 n (length gs + 2) hs

-- calls run until one is refused
pub data PerformResult (d : ℕ) : Type 0 where
  refused_at : ℕ → Refusal → PerformResult d
  ended_with : Tally d → PerformResult d

unfoldable pub continue_with : {d : ℕ} → ℕ → TallyReply d → (Tally d → PerformResult d) → PerformResult d
continue_with line (Ok a, t) f = f t
continue_with line (Err r, t) f = refused_at line r

unfoldable pub perform : {d : ℕ} → Capacity → List NumberedCall → Tally d → PerformResult d
perform c [] t = ended_with t
perform c ((line, x) ∷ xs) t = continue_with line (answer c x t) (perform c xs)

-- "A list's tensor is the one its register ends with at unlimited capacity." (That it is filled, and how it is got:
-- VerdictSessionLaws.)
abbrev pub register_tensor : {d : ℕ} → ℕ → PerformResult d → Option (Tensor d)
register_tensor r (refused_at line x) = none
register_tensor r (ended_with t) = get_or t.registers r none

unfoldable pub list_tensor : (d n : ℕ) → List Gate → Option (Tensor d)
list_tensor d n gs = register_tensor 0 (perform unlimited (list_calls 0 n 1 gs) empty_tally)

-- "then `cmp 0 1`": what its answer says. Its last four cases do not come: `cmp` is asked of filled registers
-- (ruling_judged in VerdictSessionLaws).
abbrev pub comparison_of : Result Answer Refusal → Comparison
comparison_of (Ok (Compared r)) = r
comparison_of (Ok (Done n)) = Differ
comparison_of (Ok (Value w)) = Differ
comparison_of (Ok (Mask m)) = Differ
comparison_of (Err r) = Differ

-- "8 full, at the line being run". No other refusal comes (session_runs in VerdictSessionLaws).
unfoldable pub ruling_at_end : {d : ℕ} → Capacity → PerformResult d → Ruling
ruling_at_end c (refused_at line r) = no_at Full line
ruling_at_end c (ended_with t) = Ok (comparison_of (answer c (call.Cmp 0 1) t).0)

-- "All lines are read before any gate runs; the first faulty line decides."
unfoldable pub ruling_of_reading : (d : ℕ) → Capacity → Reading → Ruling
ruling_of_reading d c (fault f line) = no_at f line
ruling_of_reading d c (lists n gs hs) = ruling_at_end {d = d} c (perform c (session_calls n gs hs) empty_tally)

unfoldable pub ruling_on : (d : ℕ) → Capacity → Bytes → Ruling
ruling_on d c text = ruling_of_reading d c (read_text text)

-- "Fewer than 32 output bytes returns 9 and writes nothing, before any reading; otherwise the code is 0, also with
-- `no`. The result is code and bytes written": the code, and the bytes
unfoldable pub verdict_result : (d : ℕ) → Capacity → ℕ → Bytes → ℕ × Bytes
verdict_result d c room text = cond (ltb room verdict_room) (9, []) (0, printed_ruling (ruling_on d c text))
