-- A verdict's answer (document 01, "Verdicts"): what is printed.
use Rattle.std.specs.Prelude.{[], ◌∷◌, ◌≡◌, ℕ, ◌≤◌, ◌^◌, ◌<◌, length, Result, Ok, Err}
use Rattle.text.specs.Text.{Bytes, bytes}
use Rattle.text.specs.Limits.{verdict_room}
use Rattle.text.specs.Print.{decimal, written}
use Rattle.text.specs.Answer.{line_of_fields, printed, SmallAnswer}
use Rattle.text.specs.declared.check.Fault.{Fault}
use Rattle.text.specs.declared.check.Fault.TheVariants.{Header as BadHeader, Line, Qubit, Equal, Parting, Full}
use Rattle.diagram.specs.declared.compare.Comparison.TheVariants.{Same, Factor, Differ}
use Rattle.text.specs.declared.check.FaultAt.{FaultAt}
use Rattle.diagram.specs.declared.compare.Comparison.{Comparison}
use Rattle.text.specs.declared.answer.Answer.TheVariants.{Compared}

-- "10 bad first line; within a gate line 11 (unknown name, wrong count of fields, or a qubit not one digit), 12 (qubit
-- not below n), 13 (qubits equal); 14 a second `=`, .. or no `=`, ..; 8 full"
abbrev pub fault_number : Fault → ℕ
fault_number BadHeader = 10
fault_number Line = 11
fault_number Qubit = 12
fault_number Equal = 13
fault_number Parting = 14
fault_number Full = 8

-- Verdicts are "answered as in sessions", here by how the lists compare; or "Refused as `no`, number, line counted
-- from 1"
abbrev pub Ruling : Type 0
Ruling = Result Comparison FaultAt

-- "`no`, number, line"
abbrev pub no_at : Fault → ℕ → Ruling
no_at f line = Err (record { fault = f; line = line })

-- Verdicts are "answered as in sessions"; "Refused as `no`, number, line counted from 1".
unfoldable pub printed_ruling : Ruling → Bytes
printed_ruling (Ok r) = printed (Ok (Compared r))
printed_ruling (Err at) = line_of_fields (bytes "no" ∷ decimal (fault_number at.fault) ∷ decimal at.line ∷ [])

-- a factor is a weight
abbrev pub SmallRuling : Ruling → Type 0
SmallRuling (Ok r) = SmallAnswer (Ok (Compared r))
SmallRuling (Err at) = Unit

-- an answer is written at the start of l, and r is how many bytes it has: at most 32
pub record RulingWritten (l : Bytes) (ruling : Ruling) (l' : Bytes) (r : ℕ) : Type 0 where
  pub exact : l' ≡ written l 0 (printed_ruling ruling)
  pub count : r ≡ length (printed_ruling ruling)
  pub short : r ≤ verdict_room

-- a ruling whose number has at most 20 digits
abbrev pub ShortRuling : Ruling → Type 0
ShortRuling (Ok Same) = Unit {0}
ShortRuling (Ok (Factor f)) = f < 10 ^ 20
ShortRuling (Ok Differ) = Unit {0}
ShortRuling (Err at) = at.line < 10 ^ 20
