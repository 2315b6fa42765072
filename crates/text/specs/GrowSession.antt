-- A session that touches only the lowest d indices does the same with more of them: constant levels below.
-- So document 01's cases, computed with 3 indices, hold with 24.
use Rattle.std.specs.Prelude.{Bool, true, ◌&&◌, List, [], ◌∷◌, ℕ, ◌+◌, ◌*◌, ◌^◌, leb, ltb, Result, Ok, Err}
use Rattle.std.proofs.Math.Option.{Option, none, some}
use Rattle.diagram.specs.Tensor.{Tensor}
use Rattle.diagram.specs.Grow.{deeper, grow, grow_all}
use Rattle.text.specs.Line.{read_line}
use Rattle.text.specs.Session.{Tally, TallyReply, TallyRun}
use Rattle.text.specs.Check.{Reading, lists, fault}
use Rattle.text.specs.Qubits.{qubits}
use Rattle.text.specs.VerdictSession.{NumberedCall, session_calls, PerformResult, refused_at, ended_with}
use Rattle.text.specs.declared.call.Call.{Call}
use Rattle.text.specs.declared.call.Refusal.{Refusal}
use Rattle.text.specs.declared.call.Call.TheVariants as call

-- are all indices of these qubits below d?
unfoldable pub qubits_below : ℕ → List ℕ → Bool
qubits_below d [] = true
qubits_below d (q ∷ qs) = leb (3 * q + 3) d && qubits_below d qs

-- does a call touch only indices below d?
unfoldable pub touches : ℕ → Call → Bool
touches d (call.Put r w) = true
touches d (call.Gate r g) = qubits_below d (qubits g)
touches d (call.Unit r n) = leb (3 * n) d
touches d (call.Add r a b) = true
touches d (call.Cont r a b m) = ltb m (2 ^ d)
touches d (call.Low r a k) = ltb k d
touches d (call.Drop a) = true
touches d call.Collect = true
touches d (call.At a v) = true
touches d (call.Cmp a b) = true
touches d (call.On a) = true
touches d (call.Lows r a m) = ltb m (2 ^ d)

abbrev pub read_touches : ℕ → Result Call Refusal → Bool
read_touches d (Ok x) = touches d x
read_touches d (Err r) = true

unfoldable pub all_touch : ℕ → List NumberedCall → Bool
all_touch d [] = true
all_touch d ((line, x) ∷ xs) = touches d x && all_touch d xs

unfoldable pub lines_touch : ℕ → List (List ℕ) → Bool
lines_touch d [] = true
lines_touch d (line ∷ ls) = read_touches d (read_line line) && lines_touch d ls

-- verdicts
unfoldable pub reading_touches : ℕ → Reading → Bool
reading_touches d (fault f line) = true
reading_touches d (lists n gs hs) = all_touch d (session_calls n gs hs)

-- the same with m more indices
module _ {d : ℕ} (m : ℕ) where
  unfoldable pub grow_register : Option (Tensor d) → Option (Tensor (deeper d m))
  grow_register none = none
  grow_register (some T) = some (grow m T)

  unfoldable pub grow_registers : List (Option (Tensor d)) → List (Option (Tensor (deeper d m)))
  grow_registers [] = []
  grow_registers (o ∷ l) = grow_register o ∷ grow_registers l

  unfoldable pub grow_tally : Tally d → Tally (deeper d m)
  grow_tally t = record { nodes = grow_all m t.nodes; registers = grow_registers t.registers }

  abbrev pub grow_reply : TallyReply d → TallyReply (deeper d m)
  grow_reply (a, t) = (a, grow_tally t)

  abbrev pub grow_result : PerformResult d → PerformResult (deeper d m)
  grow_result (refused_at line r) = refused_at line r
  grow_result (ended_with t) = ended_with (grow_tally t)

  unfoldable pub grow_run : TallyRun d → TallyRun (deeper d m)
  grow_run r = record { code = r.code; answered = r.answered; output = r.output; tally = grow_tally r.tally }
