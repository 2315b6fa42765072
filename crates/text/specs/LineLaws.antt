-- Laws of Line: its first field, then those after it; the call is in range.
use Rattle.std.specs.Prelude.{◌≡◌, true, false, Bool, cond, List, [], ◌∷◌, ℕ, Some, Result, take}
use Rattle.std.proofs.Common.{arith}
use Rattle.text.specs.Text.{Bytes, bytes, tab, same_bytes, fields}
use Rattle.text.specs.Limits.{most_digits}
use Rattle.text.specs.Words.{word_of}
use Rattle.text.specs.Args.{numbers}
use Rattle.text.specs.Call.{known_call, Ranged}
use Rattle.text.specs.Gate.{gate_call_fields}
use Rattle.text.specs.Line.{call_fields, read_line, LineRead}
use Rattle.text.specs.Split.{Ends, fields_after}
use Rattle.text.specs.SplitLaws.{fields_first, part_front}
use Rattle.text.specs.CallLaws.{known_ranged}
use Rattle.text.specs.GateLaws.{gate_fields_ranged}
use Rattle.text.specs.declared.args.Args.TheVariants.{Zero}
use Rattle.text.specs.declared.call.Call.{Call}
use Rattle.text.specs.declared.call.Refusal.{Refusal}

pub line_gate : {s : Bytes} {e : ℕ} → Ends tab s 0 e → same_bytes (take e s) (bytes "gate") ≡ true
    → gate_call_fields (fields_after s e) ≡ read_line s
unfolding read_line call_fields
line_gate {s} {e} r t = rw (fields_first (omega arith) r, part_front s e, t)

pub line_other : {s : Bytes} {e : ℕ} → Ends tab s 0 e → same_bytes (take e s) (bytes "gate") ≡ false
    → known_call (word_of (take e s)) (numbers most_digits (Some Zero) (fields_after s e)) ≡ read_line s
unfolding read_line call_fields
line_other {s} {e} r t = rw (fields_first (omega arith) r, part_front s e, t)

fields_ranged : (fs : List Bytes) → Ranged (call_fields fs)
unfolding call_fields
fields_ranged [] = tt
fields_ranged (w ∷ fs) = go (same_bytes w (bytes "gate"))
  where
    go : (t : Bool) → Ranged (cond t (gate_call_fields fs)
        (known_call (word_of w) (numbers most_digits (Some Zero) fs)))
    go true = gate_fields_ranged fs
    go false = known_ranged (word_of w) (numbers most_digits (Some Zero) fs)

pub line_ranged : (line : Bytes) → Ranged (read_line line)
unfolding read_line
line_ranged line = fields_ranged (fields line)

pub line_read : {line : Bytes} {r : Result Call Refusal} → r ≡ read_line line → LineRead line r
line_read {line} e = record { call = e; ranged = rw e (line_ranged line) }
