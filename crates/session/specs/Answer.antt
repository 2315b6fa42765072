-- What answering one line of a session asks for and promises.
use Rattle.std.specs.Prelude.{◌≡◌, ◌≢◌, Bool, List, [], ◌∷◌, ℕ, ◌≤◌, length, take}
use Rattle.diagram.specs.Tensor.{indices}
use Rattle.diagram.specs.Node.{capacity}
use Rattle.text.specs.Text.{Bytes, LF}
use Rattle.text.specs.Line.{read_line}
use Rattle.text.specs.Answer.{printed}
use Rattle.text.specs.Session.{at_most, TallyReply, answer_read}
use Rattle.text.specs.Squeeze.{SqueezeFits, SqueezeInvariant}
use Rattle.text.specs.Engine.{contents, tally_of, EngineInvariant, KeepsEngine}
use Rattle.text.specs.declared.engine.Contents.{Contents}
use Rattle.text.specs.declared.progress.Progress.{Progress}
use Rattle.text.specs.declared.squeeze.Squeeze.{Squeeze}
use Rattle.text.specs.Limits.{line_room}
use Rattle.session.specs.declared.answer.Session.{Session}

-- the session's memory: the buffer of the line that comes, the cache's words, the store's bytes
pub record Memory : Type 0 where
  pub line : Bytes
  pub cache : List ℕ
  pub store : List ℕ

abbrev pub memory : Bytes → List ℕ → List ℕ → Memory
memory line c s = record { line = line; cache = c; store = s }

-- the line that has come so far; what the engine holds after the lines before it, and what the writes of their answers
-- have said
pub record SessionState : Type 0 where
  pub squeeze : Squeeze
  pub engine : Contents
  pub outcomes : List Bool

-- the memory that a session works in
abbrev pub memory_of : {W : Type 0} → Session W → Memory
memory_of t = memory t.line.now t.engine.now.diagram.now.cache.now t.engine.now.diagram.now.store.now

-- where a session stands, by what its output says of its writes
abbrev pub state_of : {W : Type 0} → (W → List Bool) → Session W → SessionState
state_of outcomes t = record {
  squeeze = t.squeeze;
  engine = contents t.engine.now;
  outcomes = outcomes t.output.now;
}

-- the memory and the output are those that the session was lent
pub record KeepsSession {W : Type 0} (t t' : Session W) : Type 0 where
  pub same_line : t'.line.ghost_name ≡ t.line.ghost_name
  pub room : length t'.line.now ≡ length t.line.now
  pub same_engine : t'.engine.ghost_name ≡ t.engine.ghost_name
  pub engine : KeepsEngine t.engine.now t'.engine.now
  pub same_output : t'.output.ghost_name ≡ t.output.ghost_name

-- a line in the buffer, and an engine to answer it
pub record AnswerRequires (m : Memory) (q : Squeeze) (e : Contents) : Type 0 where
  pub room : line_room ≤ length m.line
  pub fits : SqueezeFits q
  pub invariant : EngineInvariant m.cache m.store e

-- bytes with no LF among them
pub data NoLf : Bytes → Type 0 where
  none : NoLf []
  byte : {x : ℕ} {s : Bytes} → x ≢ LF → NoLf s → NoLf (x ∷ s)

-- what the tally that the engine holds answers to a line, and the tally after it
abbrev pub reply_to : Bytes → List ℕ → Contents → TallyReply indices
reply_to seen s e = answer_read (at_most (capacity s)) (read_line seen) (tally_of s e)

-- Whatever line was squeezed into the buffer, the engine holds the tally after it, its answer written or not.
pub record AnswerEnsures (m : Memory) (q : Squeeze) (e : Contents) (m' : Memory) (e' : Contents) : Type 0 where
  pub invariant : EngineInvariant m'.cache m'.store e'
  pub tally : (seen : Bytes) → NoLf seen → SqueezeInvariant seen m.line q
      → tally_of m'.store e' ≡ (reply_to seen m.store e).1

-- .. and the first bytes of the output are the tally's answer.
pub record ReplyEnsures (m : Memory) (q : Squeeze) (e : Contents) (m' : Memory) (e' : Contents) (o' : Bytes)
    (r : Progress) : Type 0 where
  pub answered : AnswerEnsures m q e m' e'
  pub within : r.bytes ≤ length o'
  pub answer : (seen : Bytes) → NoLf seen → SqueezeInvariant seen m.line q
      → take r.bytes o' ≡ printed (reply_to seen m.store e).0
