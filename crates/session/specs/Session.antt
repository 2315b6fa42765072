-- What the program promises of its input.
use Rattle.std.specs.Prelude.{◌≡◌, Bool, List, [], ℕ, ⊤, Option, IfSome, Result, Ok, Err}
use Rattle.std.specs.Io.KnownBytes.{Consumes}
use Rattle.text.specs.Text.{Bytes}
use Rattle.text.specs.declared.engine.Contents.{Contents}
use Rattle.session.specs.Answer.{Memory, SessionState}
use Rattle.session.specs.Feed.{FeedInvariant}
use Rattle.session.specs.Input.{Reads}
use Rattle.session.specs.Outcome.{AfterInput, FinishEnsures}
use Rattle.session.specs.declared.outcome.Stopped.{Stopped}

-- From a start at which nothing has come and no line was run, read after read until one does not bring more or an
-- answer is not written, and then the end. What was run is that of the bytes that came, in order.
pub record SessionEnsures (s' : List ℕ) (e' : Contents) (o' : List Bool) (r : Result ⊤ Stopped) : Type 0 where
  pub before : Memory
  pub start : SessionState
  pub begins : FeedInvariant [] 0 before start
  pub nothing_written : start.outcomes ≡ []
  pub memory : Memory
  pub state : SessionState
  pub received : Result ⊤ Stopped
  pub reads : Reads before start memory state received
  pub finishes : FinishEnsures memory state received s' e' o' r
  pub text : Bytes
  pub runs : AfterInput r text s' e' o'

-- Where it is known what the input gives, and neither a read nor a write has failed, what was run is that of all of it;
-- where one has failed, that of the bytes that came, which were taken from it, in order.
abbrev pub RunsWhole : Option Bytes → Option Bytes → List ℕ → Contents → List Bool → Result ⊤ Stopped → Type 0
RunsWhole w w' s' e' o' (Ok u) = IfSome w (λ xs. AfterInput (Ok u) xs s' e' o')
RunsWhole w w' s' e' o' (Err x) = (came : Bytes) × Consumes w w' came × AfterInput (Err x) came s' e' o'
