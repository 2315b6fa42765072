-- The loop over the input.
use Rattle.std.specs.Prelude.{◌≡◌, refl, ◌≢◌, Bool, List, [], ◌++◌, ℕ, zero, suc, ◌≤◌, length, take, ⊤}
use Rattle.std.specs.Prelude.{Option, Result, Ok, Err}
use Rattle.std.proofs.Common.{subst}
use Rattle.std.proofs.KnownBytes.{Consumes-nil, Consumes-trans}
use Rattle.stdin.specs.Star.{none as noSteps, more}
use Rattle.text.specs.Text.{Bytes}
use Rattle.text.specs.Squeeze.{NoneEnsures}
use Rattle.text.specs.Engine.{EngineStartEnsures}
use Rattle.text.specs.declared.engine.Contents.{Contents}
use Rattle.text.specs.declared.squeeze.Squeeze.{Squeeze}
use Rattle.session.specs.Answer.{Memory, SessionState, none}
use Rattle.session.specs.Feed.{FeedRequires, FeedInvariant, TakesIn}
use Rattle.session.specs.FeedLinesLaws.{after_none}
use Rattle.session.specs.FeedLaws.{takes_none, takes_then}
use Rattle.session.specs.OutputLaws.{nothing_lost}
use Rattle.session.specs.Input.{TakeEnsures, ReadEnsures, InputInvariant, Received, ReceiveEnsures, ReceiveLoop}
use Rattle.session.specs.Input.{writing_of, Taken}
use Rattle.session.specs.declared.output.WriteFailed.{WriteFailed}
use Rattle.session.specs.declared.outcome.Stopped.{Stopped}
use Rattle.session.specs.declared.outcome.Stopped.TheVariants.{ReadFailed, WriteFailed as Unwritten}
use Rattle.text.specs.Limits.{line_room}

pub input_start : {m : Memory} {s₀ : List ℕ} {q : Squeeze} {e : Contents} {o : List Bool} → line_room ≤ length m.line
    → NoneEnsures q → EngineStartEnsures m.cache s₀ m.store e → o ≡ []
    → FeedInvariant [] 0 m (record { squeeze = q; engine = e; outcomes = o })
input_start {m} h b a p = record {
  requires = record { room = h; fits = b.fits; invariant = a.invariant };
  to = record { done = []; behind = []; split = λ rest. refl; ran = after_none a };
  count = refl;
  written = nothing_lost p;
  seen = record { unbroken = none; squeezing = b.start m.line };
}

-- at the start nothing has come
abbrev pub session_start : {m : Memory} {h : SessionState} → FeedInvariant [] 0 m h → InputInvariant m h
session_start v = record { text = []; lines = 0; invariant = v }

pub receive_start : {m : Memory} {h : SessionState} → FeedRequires m h → ReceiveLoop m h m h
receive_start v = record { came = []; takes = takes_none v; more = noSteps }

pub loop_requires : {m₀ : Memory} {h₀ : SessionState} {m : Memory} {h : SessionState} → ReceiveLoop m₀ h₀ m h
    → FeedRequires m h
loop_requires v = v.takes.requires

module _ {m₀ : Memory} {h₀ : SessionState} {m : Memory} {h : SessionState} (v : ReceiveLoop m₀ h₀ m h) {m' : Memory}
    {h' : SessionState} where
  pub receive_step : (n : ℕ) → n ≢ 0 → TakeEnsures n m h m' h' (Ok tt) → ReceiveLoop m₀ h₀ m' h'
  receive_step zero e w = absurd (e refl)
  receive_step (suc n) e w = record {
    came = v.came ++ take (suc n) w.part;
    takes = takes_then (Ok tt) v.takes w.feeds.takes;
    more = more v.more (record { more = n; read = w });
  }

  pub receive_end : {n : ℕ} → n ≡ 0 → TakeEnsures n m h m' h' (Ok tt) → ReceiveEnsures m₀ h₀ m' h' (Ok tt)
  receive_end {n} e w =
      let t = takes_then (Ok tt) v.takes w.feeds.takes in
      record {
        requires = t.requires;
        came = v.came ++ take n w.part;
        received = λ i. t.on i.text i.lines i.invariant;
        reads = record {
          before = record { memory = m; state = h };
          more = v.more;
          last = subst (λ n. TakeEnsures n m h m' h' (Ok tt)) e w;
        };
      }

  pub receive_failed : (e : Stopped) → ReadEnsures m h m' h' (Err e) → ReceiveEnsures m₀ h₀ m' h' (Err e)
  receive_failed ReadFailed w = record {
    requires = rw (w.0, w.1) v.takes.requires;
    came = v.came;
    received = λ i. rw (w.0, w.1) (v.takes.on i.text i.lines i.invariant);
    reads = record { before = record { memory = m; state = h }; more = v.more; last = w };
  }
  receive_failed Unwritten w =
      let t = takes_then (Err (record {})) v.takes w.1.feeds.takes in
      record {
        requires = t.requires;
        came = v.came ++ take w.0 w.1.part;
        received = λ i. t.on i.text i.lines i.invariant;
        reads = record { before = record { memory = m; state = h }; more = v.more; last = w };
      }

-- an input of which it may be known what it gives

pub taken_none : {w : Option Bytes} {m : Memory} {h : SessionState} → FeedRequires m h → Taken w w m h m h (Ok tt)
taken_none {w} v = record { came = []; takes = takes_none v; consumes = Consumes-nil w }

pub taken_then : {w w' w'' : Option Bytes} {m m' m'' : Memory} {h h' h'' : SessionState} (r : Result ⊤ WriteFailed)
    → Taken w w' m h m' h' (Ok tt)
    → Taken w' w'' m' h' m'' h'' r
    → Taken w w'' m h m'' h'' r
taken_then {w} {w'} {w''} r a b = record {
  came = a.came ++ b.came;
  takes = takes_then r a.takes b.takes;
  consumes = Consumes-trans w w' w'' a.came b.came a.consumes b.consumes;
}

-- what was taken in is what was received
pub taken_received : {came : Bytes} {m₀ : Memory} {h₀ : SessionState} {m : Memory} {h : SessionState}
    (t : Result ⊤ Stopped)
    → TakesIn came m₀ h₀ m h (writing_of t)
    → (i : InputInvariant m₀ h₀)
    → Received (i.text ++ came) i.lines h₀ m h t
taken_received (Ok u) v i = v.on i.text i.lines i.invariant
taken_received (Err ReadFailed) v i = v.on i.text i.lines i.invariant
taken_received (Err Unwritten) v i = v.on i.text i.lines i.invariant
