-- How the calls of a verdict's session run: through, or refused as full.
use Rattle.std.specs.Prelude.{List, ◌≡◌, ℕ, length, get_or, Ok, Err}
use Rattle.std.proofs.Math.Option.{Option, none, some}
use Rattle.diagram.specs.Tensor.{Tensor}
use Rattle.diagram.specs.Compare.{compared}
use Rattle.text.specs.Limits.{register_count}
use Rattle.text.specs.Session.{Capacity, at_most, unlimited, Tally, TallyReply}
use Rattle.text.specs.Ruling.{Ruling, no_at}
use Rattle.text.specs.VerdictSession.{PerformResult, refused_at, ended_with}
use Rattle.text.specs.declared.call.Refusal.TheVariants.{Full}
use Rattle.text.specs.declared.answer.Answer.TheVariants as answers
use Rattle.text.specs.declared.check.Fault.TheVariants as faults

-- what the tally's registers hold
abbrev pub RegisterList : ℕ → Type 0
RegisterList d = List (Option (Tensor d))

abbrev pub IsLimited : Capacity → Type 0
IsLimited (at_most c) = Unit {0}
IsLimited unlimited = ⊥

-- how a call ends in a verdict's session: refused as full, never so at unlimited capacity; or accepted, with registers
-- of which P holds
pub data OneCallRuns {d : ℕ} (c : Capacity) (P : RegisterList d → Type 0) : TallyReply d → Type 0 where
  full : {t : Tally d} → IsLimited c → OneCallRuns c P (Err Full, t)
  on : {n : ℕ} {t : Tally d} → P t.registers → OneCallRuns c P (Ok (answers.Done n), t)

-- the same of calls one after the other
pub data AllCallsRun {d : ℕ} (c : Capacity) (P : RegisterList d → Type 0) : PerformResult d → Type 0 where
  full : {line : ℕ} → IsLimited c → AllCallsRun c P (refused_at line Full)
  end : {t : Tally d} → P t.registers → AllCallsRun c P (ended_with t)

-- the registers while a list runs in r: its tensor there, another register j as it was; a gate in 2
pub record HoldsList {d : ℕ} (r : ℕ) (T : Tensor d) (j : ℕ) (o : Option (Tensor d)) (l : RegisterList d) : Type 0 where
  pub sixteen : length l ≡ register_count
  pub here : get_or l r none ≡ some T
  pub there : get_or l j none ≡ o

pub record HoldsGate {d : ℕ} (r : ℕ) (T : Tensor d) (j : ℕ) (o : Option (Tensor d)) (G : Tensor d)
    (l : RegisterList d) : Type 0 where
  pub holding : HoldsList r T j o l
  pub gate : get_or l 2 none ≡ some G

-- both lists' registers
pub record HoldsBoth {d : ℕ} (T U : Tensor d) (l : RegisterList d) : Type 0 where
  pub first : get_or l 0 none ≡ some T
  pub second : get_or l 1 none ≡ some U

-- What a good text's verdict is: refused as full, never so at unlimited capacity; or what comparing the lists' tensors
-- says.
pub data GoodTextRuling (c : Capacity) {d : ℕ} (T U : Tensor d) : Ruling → Type 0 where
  was_full : (line : ℕ) → IsLimited c → GoodTextRuling c T U (no_at faults.Full line)
  was_compared : GoodTextRuling c T U (Ok (compared T U))
