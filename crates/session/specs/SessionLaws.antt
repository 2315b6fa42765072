-- The whole input, from its reads and its end.
use Rattle.std.specs.Prelude.{◌≡◌, Bool, List, [], ℕ, ⊤, Option, Result, Ok, Err, OnOk}
use Rattle.std.specs.Io.KnownBytes.{Consumes, IsAtEnd}
use Rattle.std.proofs.Common.{arith}
use Rattle.std.proofs.KnownBytes.{Consumes-whole}
use Rattle.text.specs.Text.{Bytes}
use Rattle.text.specs.declared.engine.Contents.{Contents}
use Rattle.session.specs.Answer.{Memory, SessionState}
use Rattle.session.specs.Feed.{FeedInvariant}
use Rattle.session.specs.Input.{writing_of, Received, ReceiveEnsures, Taken}
use Rattle.session.specs.InputLaws.{session_start, taken_received}
use Rattle.session.specs.Outcome.{AfterInput, FinishEnsures}
use Rattle.session.specs.OutcomeLaws.{lost_before}
use Rattle.session.specs.OutputLaws.{all_each}
use Rattle.session.specs.Session.{SessionEnsures, RunsWhole}
use Rattle.session.specs.declared.outcome.Stopped.{Stopped}
use Rattle.session.specs.declared.outcome.Stopped.TheVariants.{ReadFailed, WriteFailed as Unwritten}

what_ran : (text : Bytes) (h₀ : SessionState) → h₀.outcomes ≡ [] → (m : Memory) (h : SessionState) (s' : List ℕ)
    (e' : Contents) (o' : List Bool) (r t : Result ⊤ Stopped) → Received text 0 h₀ m h t
    → FinishEnsures m h t s' e' o' r
    → AfterInput r text s' e' o'
what_ran text h₀ p m h s' e' o' r (Ok _) v f =
    f.on text v.lines v.invariant (all_each {E = Stopped} h₀.outcomes h.outcomes (omega arith) p (Ok tt) v.each)
what_ran text h₀ p m h s' e' o' r (Err ReadFailed) v f =
    let i = v.invariant in
    rw (f.result, f.store, f.engine, f.outcomes) (
      record { to = i.to; unbroken = i.seen.unbroken },
      rw i.count (all_each {E = Stopped} h₀.outcomes h.outcomes (omega arith) p (Ok tt) v.each),
    )
what_ran text h₀ p m h s' e' o' r (Err Unwritten) v f =
    rw (f.result, f.store, f.engine, f.outcomes)
    (lost_before v.to (all_each h₀.outcomes h.outcomes (omega arith) p (Err Unwritten) v.each))

pub session_ensures : {m₀ : Memory} {h₀ : SessionState} {m : Memory} {h : SessionState} {s' : List ℕ} {e' : Contents}
    {o' : List Bool} {r t : Result ⊤ Stopped} → FeedInvariant [] 0 m₀ h₀ → h₀.outcomes ≡ []
    → ReceiveEnsures m₀ h₀ m h t → FinishEnsures m h t s' e' o' r
    → SessionEnsures s' e' o' r
session_ensures {m₀} {h₀} {m} {h} {s'} {e'} {o'} {r} {t} b p v f = record {
  before = m₀;
  start = h₀;
  begins = b;
  nothing_written = p;
  memory = m;
  state = h;
  received = t;
  reads = v.reads;
  finishes = f;
  text = v.came;
  runs = what_ran v.came h₀ p m h s' e' o' r t (v.received (session_start b)) f;
}

-- an input of which it may be known what it gives

runs_whole : (w w' : Option Bytes) (came : Bytes) (m : Memory) (h : SessionState) (s' : List ℕ) (e' : Contents)
    (o' : List Bool) (r t : Result ⊤ Stopped)
    → Consumes w w' came
    → OnOk t (IsAtEnd w')
    → FinishEnsures m h t s' e' o' r
    → AfterInput r came s' e' o'
    → RunsWhole w w' s' e' o' r
runs_whole w w' came m h s' e' o' (Err x) t k a f v = (came, k, v)
runs_whole w w' came m h s' e' o' (Ok u) (Ok v) k a f x =
    Consumes-whole w w' came (λ xs. AfterInput (Ok u) xs s' e' o') k a x
runs_whole w w' came m h s' e' o' (Ok u) (Err v) k a f x =
    absurd (let e = f.result in let i : ◌≡◌ {A = ℕ} 0 1 = cc in omega arith)

pub run_whole : {w w' : Option Bytes} {m₀ : Memory} {h₀ : SessionState} {m : Memory} {h : SessionState} (s' : List ℕ)
    (e' : Contents) (o' : List Bool) (r t : Result ⊤ Stopped) → FeedInvariant [] 0 m₀ h₀ → h₀.outcomes ≡ []
    → Taken w w' m₀ h₀ m h (writing_of t) → OnOk t (IsAtEnd w') → FinishEnsures m h t s' e' o' r
    → RunsWhole w w' s' e' o' r
run_whole {w} {w'} {m₀} {h₀} {m} {h} s' e' o' r t b p v a f =
    runs_whole w w' v.came m h s' e' o' r t v.consumes a f
    (what_ran v.came h₀ p m h s' e' o' r t (taken_received t v.takes (session_start b)) f)
