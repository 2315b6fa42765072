-- A line of a session (document 01, "Session calls"): the call that it is.
use Rattle.std.specs.Prelude.{cond, List, [], ◌∷◌, ◌≡◌, Some, Result}
use Rattle.text.specs.Text.{Bytes, bytes, same_bytes, fields}
use Rattle.text.specs.Limits.{most_digits}
use Rattle.text.specs.Words.{word_of}
use Rattle.text.specs.Args.{numbers}
use Rattle.text.specs.Call.{malformed, known_call, Ranged}
use Rattle.text.specs.Gate.{gate_call_fields}
use Rattle.text.specs.declared.args.Args.TheVariants.{Zero}
use Rattle.text.specs.declared.call.Call.{Call}
use Rattle.text.specs.declared.call.Refusal.{Refusal}

unfoldable pub call_fields : List Bytes → Result Call Refusal
call_fields [] = malformed
call_fields (word ∷ more) =
    cond (same_bytes word (bytes "gate")) (gate_call_fields more)
    (known_call (word_of word) (numbers most_digits (Some Zero) more))

-- the call that a line is, or its refusal
unfoldable pub read_line : Bytes → Result Call Refusal
read_line line = call_fields (fields line)

-- what is read off a line is the definition's, and in range
pub record LineRead (line : Bytes) (r : Result Call Refusal) : Type 0 where
  pub call : r ≡ read_line line
  pub ranged : Ranged r
