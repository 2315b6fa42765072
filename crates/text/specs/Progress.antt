-- Where a session stands, line after line.
use Rattle.std.specs.Prelude.{List, [], ◌≡◌, IsErr, ℕ, ◌+◌, ◌≤◌, ◌<◌, take, length, drop}
use Rattle.diagram.specs.Tensor.{indices}
use Rattle.diagram.specs.Node.{capacity}
use Rattle.text.specs.Text.{Bytes, LF, lines}
use Rattle.text.specs.Limits.{answer_room}
use Rattle.text.specs.Line.{read_line}
use Rattle.text.specs.Session.{TallyRun, Tally, at_most, with_answer, answer_read, run}
use Rattle.text.specs.Agrees.{Unchanged, AgreesThroughout, Passes, before_stop}
use Rattle.text.specs.Split.{part, Ends}
use Rattle.text.specs.Engine.{contents, tally_of, EngineInvariant}
use Rattle.text.specs.declared.engine.Contents.{Contents}
use Rattle.text.specs.declared.progress.Progress.{Progress}
use Rattle.text.specs.declared.progress.SessionResult.{SessionResult}
use Rattle.text.specs.declared.engine.Engine.{Engine}

-- how far a run has come, and what the engine holds then
pub record RunState : Type 0 where
  pub code : ℕ
  pub lines : ℕ
  pub bytes : ℕ
  pub place : ℕ
  pub engine : Contents

abbrev pub reached : Progress → Engine → RunState
reached p e = record { code = p.code; lines = p.lines; bytes = p.bytes; place = p.place; engine = contents e }

-- "the run stops with 9 and the line is not begun"
abbrev pub stopped_progress : RunState → RunState
stopped_progress p = record { code = 9; lines = p.lines; bytes = p.bytes; place = p.place; engine = p.engine }

-- "the code (0 or 9), lines answered, bytes written, the node count and the sixteen registers"
abbrev pub result_of : RunState → SessionResult
result_of p = record {
  code = p.code;
  lines = p.lines;
  bytes = p.bytes;
  count = p.engine.state.count;
  registers = p.engine.registers;
}

-- the result before the first line
abbrev pub result_at_start : Contents → SessionResult
result_at_start e = record { code = 0; lines = 0; bytes = 0; count = e.state.count; registers = e.registers }

-- the run that has come to p, as the tally's
unfoldable pub run_of : List ℕ → Bytes → RunState → TallyRun indices
run_of s o p = record { code = p.code; answered = p.lines; output = take p.bytes o; tally = tally_of s p.engine }

-- a session goes on from a tally, with an output of its own
unfoldable pub run_from : Tally indices → TallyRun indices
run_from t = record { code = 0; answered = 0; output = []; tally = t }

-- a line was answered as the tally answers it; the text is read up to `next`; no byte behind the answers was touched
pub record AnswerLineEnsures (line : Bytes) (next : ℕ) (s c' s' : List ℕ) (o o' : Bytes) (p r : RunState) : Type 0 where
  pub invariant : EngineInvariant c' s' r.engine
  pub is : run_of s' o' r ≡ with_answer (run_of s o p)
      (answer_read (at_most (capacity s)) (read_line line) (tally_of s p.engine))
  pub code : r.code ≡ 0
  pub lines : r.lines ≡ p.lines + 1
  pub place : r.place ≡ next
  pub behind : p.bytes ≤ r.bytes
  pub bytes : r.bytes ≤ length o
  pub rest : drop r.bytes o' ≡ drop r.bytes o
  pub refused : IsErr (answer_read (at_most (capacity s)) (read_line line) (tally_of s p.engine)).0
      → Unchanged s s' p.engine.state.count r.engine.state.count p.engine.registers.all
      r.engine.registers.all

-- there is a line, and room for its answer
pub record ResumeLineRequires (text o : Bytes) (p : RunState) : Type 0 where
  pub before : p.place < length text
  pub room : p.bytes + answer_room ≤ length o
  pub few : p.lines ≤ p.place

-- the line that begins at p's place was answered
pub record ResumeLineEnsures (text : Bytes) (s c' s' : List ℕ) (o o' : Bytes) (p r : RunState) : Type 0 where
  pub end : ℕ
  pub ends : Ends LF text p.place end
  pub answered : AnswerLineEnsures (part text p.place end) (end + 1) s c' s' o o' p r

-- What the lines of a text leave, `limit` of them at most: the tally's run of them, from what the engine held. The
-- text's other lines begin at `place`.
pub record ResumeEnsures (text : Bytes) (limit : ℕ) (e : Contents) (s c' s' : List ℕ) (o o' : Bytes)
    (r : RunState) : Type 0 where
  pub invariant : EngineInvariant c' s' r.engine
  pub rest : lines (drop r.place text) ≡ drop r.lines (lines text)
  pub tally : tally_of s' r.engine
      ≡ (run (at_most (capacity s)) (length o) (take limit (lines text)) (run_from (tally_of s e))).tally
  pub place : r.place ≤ length text + 1
  pub agrees : AgreesThroughout (at_most (capacity s)) (take limit (lines text)) (run_from (tally_of s e)) s' o
      o' (result_of r)
  -- the run begins with this store and this engine
  pub from : agrees.from ≡ s
  pub first : agrees.first ≡ result_at_start e

-- On the way: the engine is where the tally's run of the lines answered so far is.
pub record ResumeLoop (text : Bytes) (limit : ℕ) (e : Contents) (s₀ : List ℕ) (o₀ : Bytes) (c s : List ℕ) (o : Bytes)
    (p : RunState) : Type 0 where
  pub invariant : EngineInvariant c s p.engine
  pub long : length s ≡ length s₀
  pub code : p.code ≡ 0
  pub few : p.lines ≤ limit
  pub passed : p.lines ≤ p.place
  pub within : p.place ≤ length text + 1
  pub bytes : p.bytes ≤ length o
  pub size : length o ≡ length o₀
  pub rest : lines (drop p.place text) ≡ drop p.lines (lines text)
  pub untouched : drop p.bytes o ≡ drop p.bytes o₀
  pub now : run (at_most (capacity s₀)) (length o₀) (take p.lines (take limit (lines text))) (run_from (tally_of s₀ e))
      ≡ run_of s o p
  pub passes : Passes (at_most (capacity s₀)) o₀ (take limit (lines text)) (run_from (tally_of s₀ e)) s₀
      (result_at_start e)
      s
      o (before_stop (result_of p))

-- the same, of an engine e before the call and e' after it, where the run had come to p, and comes to r

abbrev pub AnswersLine : Engine → Engine → Bytes → ℕ → Bytes → Bytes → Progress → Progress → Type 0
AnswersLine e e' line next o o' p r = AnswerLineEnsures line next e.diagram.now.store.now e'.diagram.now.cache.now
    e'.diagram.now.store.now o o' (reached p e) (reached r e')

abbrev pub ResumesLine : Engine → Engine → Bytes → Bytes → Bytes → Progress → Progress → Type 0
ResumesLine e e' text o o' p r = ResumeLineEnsures text e.diagram.now.store.now e'.diagram.now.cache.now
    e'.diagram.now.store.now o o' (reached p e) (reached r e')

abbrev pub Resumes : Engine → Engine → Bytes → ℕ → Bytes → Bytes → Progress → Type 0
Resumes e e' text limit o o' r = ResumeEnsures text limit (contents e) e.diagram.now.store.now e'.diagram.now.cache.now
    e'.diagram.now.store.now o o' (reached r e')
