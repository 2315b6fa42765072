-- What taking in bytes promises: the input's lines are run, but for the bytes after its last LF; after the first answer
-- that could not be written none is.
use Rattle.std.specs.Prelude.{◌≡◌, Bool, true, false, List, ◌++◌, ℕ, ◌+◌, ◌-◌, ◌≤◌, ◌<◌, length, ⊤, Result, Ok, Err}
use Rattle.diagram.specs.Node.{capacity}
use Rattle.text.specs.Text.{Bytes, lines}
use Rattle.text.specs.Session.{at_most, empty_run, run}
use Rattle.text.specs.Squeeze.{SqueezeInvariant}
use Rattle.text.specs.Engine.{tally_of}
use Rattle.text.specs.declared.engine.Contents.{Contents}
use Rattle.text.specs.declared.squeeze.Squeeze.{Squeeze}
use Rattle.session.specs.Answer.{Memory, SessionState, AnswerRequires, NoLf}
use Rattle.session.specs.Output.{all_written, any_lost, LastLost, OneWriteEach}
use Rattle.session.specs.declared.output.WriteFailed.{WriteFailed}
use Rattle.text.specs.Limits.{answer_room}

-- The engine is where the tally's own run of these lines ends, over every output that has room for their answers:
-- "Before a line, if fewer than 16 output bytes remain, the run stops with 9", and a program's output has no end.
pub record AfterLines (ls : List Bytes) (s : List ℕ) (e : Contents) : Type 0 where
  pub output : Bytes
  pub is : (room : ℕ) → length output + answer_room ≤ room → run (at_most (capacity s)) room ls empty_run
      ≡ record { code = 0; answered = length ls; output = output; tally = tally_of s e }

-- The text's first lines were run, and no other.
pub record AfterFirstLines (text : Bytes) (s : List ℕ) (e : Contents) : Type 0 where
  pub done : List Bytes
  pub others : List Bytes
  pub split : lines text ≡ done ++ others
  pub ran : AfterLines done s e

-- The lines that end before a place of the text were run, and no other. The bytes behind that place, and whatever
-- comes after them, are other lines.
pub record AfterLinesBefore (text : Bytes) (s : List ℕ) (e : Contents) : Type 0 where
  pub done : List Bytes
  pub behind : Bytes
  pub split : (rest : Bytes) → lines (text ++ rest) ≡ done ++ lines (behind ++ rest)
  pub ran : AfterLines done s e

-- Every line that ended was run, and the bytes of the one that did not were not.
pub record AfterEndedLines (text : Bytes) (s : List ℕ) (e : Contents) : Type 0 where
  pub to : AfterLinesBefore text s e
  pub unbroken : NoLf to.behind

-- the bytes of a line that has not ended are squeezed into the buffer
pub record PartialLine (seen line : Bytes) (q : Squeeze) : Type 0 where
  pub unbroken : NoLf seen
  pub squeezing : SqueezeInvariant seen line q

abbrev pub FeedRequires : Memory → SessionState → Type 0
FeedRequires m h = AnswerRequires m h.squeeze h.engine

-- What holds between two bytes: a text was taken in, n of its lines were run, and no write has failed. What is behind
-- them is the line that has not ended.
pub record FeedInvariant (text : Bytes) (n : ℕ) (m : Memory) (h : SessionState) : Type 0 where
  pub requires : FeedRequires m h
  pub to : AfterLinesBefore text m.store h.engine
  pub count : length to.done ≡ n
  pub written : any_lost h.outcomes ≡ false
  pub seen : PartialLine to.behind m.line h.squeeze

-- .. and after more bytes: each line that was run since has had one write, which succeeded.
pub record FeedProgress (text : Bytes) (n : ℕ) (h : SessionState) (m' : Memory) (h' : SessionState) : Type 0 where
  pub lines : ℕ
  pub invariant : FeedInvariant text lines m' h'
  pub more : n ≤ lines
  pub each : h'.outcomes ≡ h.outcomes ++ all_written (lines - n)

-- The line whose answer could not be written was run, and none after it: each line that was run since has had one
-- write, and the last one's alone failed.
pub record FeedLost (text : Bytes) (n : ℕ) (h : SessionState) (m' : Memory) (h' : SessionState) : Type 0 where
  pub to : AfterLinesBefore text m'.store h'.engine
  pub lost : n < length to.done
  pub each : LastLost h.outcomes (length to.done - n) h'.outcomes

abbrev pub FeedOutcome : Bytes → ℕ → SessionState → Memory → SessionState → Result ⊤ WriteFailed → Type 0
FeedOutcome text n h m' h' (Ok _) = FeedProgress text n h m' h'
FeedOutcome text n h m' h' (Err _) = FeedLost text n h m' h'

-- Bytes are taken in; after a line whose answer could not be written nothing is run any more.
pub record TakesIn (part : Bytes) (m : Memory) (h : SessionState) (m' : Memory) (h' : SessionState)
    (r : Result ⊤ WriteFailed) : Type 0 where
  pub requires : FeedRequires m' h'
  pub on : (text : Bytes) (n : ℕ) → FeedInvariant text n m h → FeedOutcome (text ++ part) n h m' h' r

-- nothing changes, and the answer says that a write has failed
pub record NothingFed (m : Memory) (h : SessionState) (m' : Memory) (h' : SessionState)
    (r : Result ⊤ WriteFailed) : Type 0 where
  pub memory : m' ≡ m
  pub state : h' ≡ h
  pub result : r ≡ Err (record {})

-- The bytes that come next are taken in; where a write has failed before, nothing changes.
pub record FeedEnsures (part : Bytes) (m : Memory) (h : SessionState) (m' : Memory) (h' : SessionState)
    (r : Result ⊤ WriteFailed) : Type 0 where
  pub takes : TakesIn part m h m' h' r
  pub stays : any_lost h.outcomes ≡ true → NothingFed m h m' h' r

-- nothing is run or written, and the answer says that a write has failed
pub record NothingLast (m : Memory) (h : SessionState) (s' : List ℕ) (e' : Contents) (o' : List Bool)
    (r : Result ⊤ WriteFailed) : Type 0 where
  pub store : s' ≡ m.store
  pub engine : e' ≡ h.engine
  pub outcomes : o' ≡ h.outcomes
  pub result : r ≡ Err (record {})

-- The input has ended, and all its lines are run: "A text is split at LF; a last part without LF counts unless empty".
-- Where a write has failed before, none is.
pub record LastEnsures (m : Memory) (h : SessionState) (s' : List ℕ) (e' : Contents) (o' : List Bool)
    (r : Result ⊤ WriteFailed) : Type 0 where
  pub all : (text : Bytes) (n : ℕ) → FeedInvariant text n m h → AfterLines (lines text) s' e'
  pub each : (text : Bytes) (n : ℕ) → FeedInvariant text n m h
      → OneWriteEach h.outcomes r (length (lines text) - n) o'
  pub stays : any_lost h.outcomes ≡ true → NothingLast m h s' e' o' r
