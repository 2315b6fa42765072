-- How a session ends: what was run of its input.
use Rattle.std.specs.Prelude.{◌≡◌, ◌≢◌, Bool, true, List, [], ℕ, ◌-◌, length, codes, ⊤, Result, Ok, Err}
use Rattle.text.specs.Text.{Bytes, lines}
use Rattle.text.specs.declared.engine.Contents.{Contents}
use Rattle.session.specs.Answer.{Memory, SessionState}
use Rattle.session.specs.Feed.{AfterLines, AfterFirstLines, AfterEndedLines, FeedRequires, FeedInvariant}
use Rattle.session.specs.Output.{all_written, any_lost, LastLost, OneWriteEach}
use Rattle.session.specs.declared.outcome.Stopped.{Stopped}
use Rattle.session.specs.declared.outcome.Stopped.TheVariants.{ReadFailed, WriteFailed as Unwritten}

-- what the program says of a session that has stopped early
abbrev pub printed : Stopped → List ℕ
printed ReadFailed = codes "reading failed"
printed Unwritten = codes "writing failed"

-- What was run of the input, and where it has brought the engine: all its lines; where reading failed, the lines that
-- ended; where writing failed, the first lines. Each of them has had one write, and all succeeded, but for the last
-- one's where writing failed.
abbrev pub AfterInput : Result ⊤ Stopped → Bytes → List ℕ → Contents → List Bool → Type 0
AfterInput (Ok _) text s e o = AfterLines (lines text) s e × (o ≡ all_written (length (lines text)))
AfterInput (Err ReadFailed) text s e o = (a : AfterEndedLines text s e) × (o ≡ all_written (length a.to.done))
AfterInput (Err Unwritten) text s e o = (a : AfterFirstLines text s e) × LastLost [] (length a.done) o

-- nothing more was run or written, and the engine is the one that was left
pub record NothingRun (m : Memory) (h : SessionState) (x : Stopped) (s' : List ℕ) (e' : Contents) (o' : List Bool)
    (r : Result ⊤ Stopped) : Type 0 where
  pub result : r ≡ Err x
  pub store : s' ≡ m.store
  pub engine : e' ≡ h.engine
  pub outcomes : o' ≡ h.outcomes

-- The input has ended, and reading has not failed: every line was run, its last one's answer written or not.
pub record CloseEnsures (m : Memory) (h : SessionState) (s' : List ℕ) (e' : Contents) (o' : List Bool)
    (r : Result ⊤ Stopped) : Type 0 where
  pub on : (text : Bytes) (n : ℕ) → FeedInvariant text n m h → h.outcomes ≡ all_written n
      → AfterInput r text s' e' o'
  pub all : (text : Bytes) (n : ℕ) → FeedInvariant text n m h → AfterLines (lines text) s' e'
  pub each : (text : Bytes) (n : ℕ) → FeedInvariant text n m h
      → OneWriteEach h.outcomes r (length (lines text) - n) o'
  pub read : r ≢ Err ReadFailed
  pub lost : any_lost h.outcomes ≡ true → NothingRun m h Unwritten s' e' o' r

-- unless a write has failed, the bytes of a line that has begun are in the buffer
abbrev pub FinishRequires : Memory → SessionState → Result ⊤ Stopped → Type 0
FinishRequires m h (Ok _) = FeedRequires m h
FinishRequires m h (Err ReadFailed) = FeedRequires m h
FinishRequires m h (Err Unwritten) = ⊤

-- No more is read. Only an input that has ended is taken for a whole one; where it has not, or where a write has
-- failed, nothing more is run.
abbrev pub FinishEnsures : Memory → SessionState → Result ⊤ Stopped → List ℕ → Contents → List Bool → Result ⊤ Stopped
    → Type 0
FinishEnsures m h (Ok _) s' e' o' r = CloseEnsures m h s' e' o' r
FinishEnsures m h (Err x) s' e' o' r = NothingRun m h x s' e' o' r
