-- Laws of Progress: one line, the loop, the whole session.
use Rattle.std.proofs.Math.Path.{ap, refl, subst}
use Rattle.std.proofs.Common.{◌∙◌, sym, arith, add-one, take-append-drop, length-drop, take-take, take_all, le-leb}
use Rattle.std.specs.Prelude.{◌≡◌, ◌≢◌, cond, ℕ, ◌+◌, ◌-◌, ◌≤◌, ◌<◌, length, take, drop, get_or, leb, Result, is_err}
use mathlib.Core.List.{List, [], ◌∷◌}
use Rattle.std.proofs.Math.Seq.{length-take-le}
use Rattle.std.proofs.lemmas.Bool.{lt-leb}
use Rattle.diagram.specs.StoreLaws.{set_length}
use Rattle.diagram.specs.Tensor.{indices}
use Rattle.diagram.specs.Node.{capacity}
use Rattle.text.specs.Text.{Bytes, lines, LF}
use Rattle.text.specs.Limits.{answer_room}
use Rattle.text.specs.Line.{LineRead, read_line}
use Rattle.text.specs.Print.{written}
use Rattle.text.specs.Answer.{printed, AnswerWritten}
use Rattle.text.specs.Session.{with_answer, node_count, at_most, TallyRun, run, answer_read, empty_run}
use Rattle.text.specs.Session as tally
use Rattle.text.specs.Agrees.{line, Agrees, Passes, before_stop, start, OneLine, AgreesThroughout}
use Rattle.text.specs.Split.{part, Ends}
use Rattle.text.specs.Engine.{Reply, tally_of, EngineInvariant, EngineStartEnsures}
use Rattle.text.specs.declared.engine.Contents.{Contents}
use Rattle.text.specs.Respond.{ReplyEnsures}
use Rattle.text.specs.Progress.{RunState, run_of, AnswerLineEnsures, ResumeLineEnsures, result_of}
use Rattle.text.specs.Progress.{result_at_start, run_from}
use Rattle.text.specs.Progress.{ResumeEnsures, ResumeLoop, stopped_progress, ResumeLineRequires}
use Rattle.text.specs.SplitLaws.{drop_further, drop_take, take_more, get_or_next, drop_one, ends_from, lines_first}
use Rattle.text.specs.SplitLaws.{lines_none, lines_count}
use Rattle.text.specs.PrintLaws.{written_take, written_drop}
use Rattle.text.specs.SessionLaws.{run_append}
use Rattle.text.specs.AgreesLaws.{node_tensors_lem, same_filled, filled_valid, empty_zero, is_node, weight_times_node}
use Rattle.text.specs.AgreesLaws.{same_exactly, no_multiples}
use Rattle.text.specs.declared.call.Call.{Call}
use Rattle.text.specs.declared.call.Refusal.{Refusal}
use Rattle.text.specs.declared.progress.SessionResult.{SessionResult}

-- a line

pub answer_line_ensures : {line : Bytes} {next : ℕ} {s c' s' : List ℕ} {o o' : Bytes} {p : RunState}
    {x : Result Call Refusal} {y : Reply} {n : ℕ} → LineRead line x
    → ReplyEnsures c' s s' p.engine x y → AnswerWritten o p.bytes y.answer o' n
    → p.bytes + answer_room ≤ length o
    → AnswerLineEnsures line next s c' s' o o' p
    (record { code = 0; lines = p.lines + 1; bytes = n; place = next; engine = y.engine })
unfolding run_of with_answer
answer_line_ensures {line} {next} {s} {c'} {s'} {o} {o'} {p} {x} {y} {n} l r w h =
    let room : p.bytes + length (printed y.answer) ≤ length o = omega (arith, w.short) in
    record {
      invariant = r.invariant;
      is =
          rw (
            ← l.call,
            r.is,
            w.exact,
            w.after,
            add-one p.lines,
            written_take o p.bytes (printed y.answer) room,
          );
      code = refl;
      lines = refl;
      place = refl;
      behind = omega (arith, w.after);
      bytes = omega (arith, w.after);
      rest = rw (w.exact, w.after) (written_drop o p.bytes (printed y.answer) room);
      refused = λ no. r.refused (sym (ap (λ z. is_err z.0) r.is) ∙ rw l.call no);
    }

pub resume_line_less : {text : Bytes} {s c' s' : List ℕ} {o o' : Bytes} {p r : RunState} → p.place < length text
    → ResumeLineEnsures text s c' s' o o' p r
    → length text + 1 - r.place < length text + 1 - p.place
resume_line_less h w = omega (arith, w.ends.from, w.answered.place)

-- the run has come to p
agrees_now : {c s : List ℕ} {o o₀ : Bytes} (p : RunState) → EngineInvariant c s p.engine → p.bytes ≤ length o
    → drop p.bytes o ≡ drop p.bytes o₀ → Agrees s o₀ o (result_of p) (run_of s o p)
unfolding run_of tally_of node_count written
agrees_now {s = s} {o} {o₀} p h b u = record {
  filled = λ i l. same_filled h i;
  registers = filled_valid h;
  empty = λ i l. empty_zero h i;
  sixteen = h.registers.sixteen;
  same = same_exactly h;
  multiples = no_multiples h;
  nodes = is_node h;
  room = h.sound.stored.room;
  set = node_tensors_lem s p.engine.state;
  tensors = λ i l q. weight_times_node h i q;
  lines = refl;
  count = sym (set_length s p.engine.state);
  bytes = sym (length-take-le p.bytes o b);
  printed = let z : 0 + length (take p.bytes o) ≡ p.bytes = omega (arith, length-take-le p.bytes o b) in
      rw (z, ← u) (sym (take-append-drop p.bytes o));
  code = refl;
}

resume_ensures : {text : Bytes} {limit : ℕ} {e : Contents} {s₀ c s : List ℕ} {o₀ o : Bytes} {p : RunState}
    → EngineInvariant c s p.engine
    → p.bytes ≤ length o → lines (drop p.place text) ≡ drop p.lines (lines text)
    → drop p.bytes o ≡ drop p.bytes o₀
    → p.place ≤ length text + 1
    → Passes (at_most (capacity s₀)) o₀ (take limit (lines text)) (run_from (tally_of s₀ e)) s₀ (result_at_start e) s o
    (before_stop (result_of p))
    → run (at_most (capacity s₀)) (length o₀) (take limit (lines text)) (run_from (tally_of s₀ e)) ≡ run_of s o p
    → ResumeEnsures text limit e s₀ c s o₀ o p
resume_ensures {e = e} {s₀ = s₀} {s = s} {o₀ = o₀} {o} {p} h b r u k w q = record {
  invariant = h;
  rest = r;
  place = k;
  tally = unfold run_of in ap (λ (x : TallyRun indices). x.tally) (sym q);
  agrees = record {
    ends = subst (Agrees s o₀ o (result_of p)) (sym q) (agrees_now p h b u);
    from = s₀;
    first = result_at_start e;
    passes = w;
  };
  from = refl;
  first = refl;
}

-- the loop

-- a run that goes on has the code 0
not_stopped : (p : RunState) → p.code ≡ 0 → result_of p ≡ before_stop (result_of p)
not_stopped p e =
    λ i. record {
      code = e i;
      lines = p.lines;
      bytes = p.bytes;
      count = p.engine.state.count;
      registers = p.engine.registers;
    }

pub resume_loop_start : {text : Bytes} {limit : ℕ} {e : Contents} {c s : List ℕ} {o : Bytes} → EngineInvariant c s e
    → ResumeLoop text limit e s o c s o (record { code = 0; lines = 0; bytes = 0; place = 0; engine = e })
unfolding run_of run_from run
resume_loop_start {e = e} {o = o} p = record {
  invariant = p;
  long = refl;
  code = refl;
  few = omega arith;
  passed = omega arith;
  within = omega arith;
  bytes = omega arith;
  size = refl;
  rest = refl;
  untouched = refl;
  now = refl;
  passes =
      start refl (agrees_now {o = o} (record { code = 0; lines = 0; bytes = 0; place = 0; engine = e }) p (omega arith)
      refl);
}

module _ {text : Bytes} {limit : ℕ} {e : Contents} {s₀ : List ℕ} {o₀ : Bytes} {c s : List ℕ} {o : Bytes} {p : RunState}
    (g : ResumeLoop text limit e s₀ o₀ c s o p) where
  -- the lines that may be answered, and the tally's run of some lines
  abbrev allowed : List Bytes
  allowed = take limit (lines text)

  abbrev runs : List Bytes → TallyRun indices → TallyRun indices
  runs = run (at_most (capacity s₀)) (length o₀)

  abbrev from : TallyRun indices
  from = run_from (tally_of s₀ e)

  shown : length (run_of s o p).output ≡ p.bytes
  unfolding run_of
  shown = length-take-le p.bytes o g.bytes

  tally_now : (run_of s o p).tally ≡ tally_of s p.engine
  unfolding run_of
  tally_now = refl

  -- Demand 3 holds at every turn of the loop.
  pub resume_loop_agrees : Agrees s o₀ o (result_of p) (runs (take p.lines allowed) from)
  resume_loop_agrees =
      subst (Agrees s o₀ o (result_of p)) (sym g.now) (agrees_now p g.invariant g.bytes g.untouched)

  pub resume_loop_line : p.place < length text → answer_room ≤ length o - p.bytes → ResumeLineRequires text o p
  resume_loop_line h r = record { before = h; room = omega (arith, g.bytes); few = g.passed }

  -- the next line
  module _ (h : p.place < length text) (m : p.lines ≢ limit) {k : ℕ} (n : Ends LF text p.place k) where
    next_line_lem : drop p.lines allowed
        ≡ part text p.place k ∷ take (limit - (p.lines + 1)) (lines (drop (k + 1) text))
    next_line_lem = drop_take p.lines limit (lines text) (omega (arith, m, g.few)) (sym g.rest ∙ lines_first h n)

    next_run : (ls : List Bytes)
        → runs (part text p.place k ∷ ls) (run_of s o p) ≡ cond (leb (p.bytes + answer_room) (length o₀))
        (runs ls (with_answer (run_of s o p) (answer_read (at_most (capacity s₀)) (read_line (part text p.place k))
        (tally_of s p.engine))))
        (tally.stopped_run (run_of s o p))
    unfolding run
    next_run ls = rw (shown, tally_now)

    -- the run of one line more, and of all
    one_more : runs (take (p.lines + 1) allowed) from ≡ runs (part text p.place k ∷ []) (run_of s o p)
    one_more = ap (λ ls. runs ls from) (take_more p.lines allowed next_line_lem)
        ∙ run_append (at_most (capacity s₀)) (length o₀) (take p.lines allowed) (part text p.place k ∷ []) from
        ∙ ap (runs (part text p.place k ∷ [])) g.now

    all_run : runs allowed from
        ≡ runs (part text p.place k ∷ take (limit - (p.lines + 1)) (lines (drop (k + 1) text))) (run_of s o p)
    all_run = ap (λ ls. runs ls from) (sym (take-append-drop p.lines allowed))
        ∙ run_append (at_most (capacity s₀)) (length o₀) (take p.lines allowed) (drop p.lines allowed) from
        ∙ ap (runs (drop p.lines allowed)) g.now ∙ ap (λ ls. runs ls (run_of s o p)) next_line_lem

  module _ {c' s' : List ℕ} {o' : Bytes} {r : RunState} (h : p.place < length text) (m : p.lines ≢ limit)
      (t : ResumeLineRequires text o p)
      (u : length s' ≡ length s) (v : length o' ≡ length o) (w : ResumeLineEnsures text s c' s' o o' p r) where
    abbrev a : AnswerLineEnsures (part text p.place w.end) (w.end + 1) s c' s' o o' p r
    a = w.answered

    resume_line_bytes : r.bytes ≤ length o'
    resume_line_bytes = omega (arith, a.bytes, v)

    resume_line_untouched : drop r.bytes o' ≡ drop r.bytes o₀
    resume_line_untouched = a.rest ∙ drop_further p.bytes r.bytes o o₀ a.behind g.untouched

    resume_line_now : runs (take r.lines allowed) from ≡ run_of s' o' r
    unfolding run
    resume_line_now = ap (λ n. runs (take n allowed) from) a.lines ∙ one_more h m w.ends ∙ next_run h m w.ends
        []
        ∙ rw (le-leb (p.bytes + answer_room) (length o₀) (omega (arith, t.room, g.size)), a.is, g.long)

    resume_line_agrees : Agrees s' o₀ o' (before_stop (result_of r)) (runs (take r.lines allowed) from)
    resume_line_agrees = rw (← not_stopped r a.code, resume_line_now)
        (agrees_now r a.invariant resume_line_bytes resume_line_untouched)

    resume_line_one : OneLine (at_most (capacity s₀)) (get_or allowed p.lines [])
        (runs (take p.lines allowed) from).tally s s' (before_stop (result_of p)) (before_stop (result_of r))
    resume_line_one = record {
      lines = a.lines ∙ add-one p.lines;
      long = u;
      refused =
          λ no. a.refused ((rw (
            get_or_next p.lines allowed [] (next_line_lem h m w.ends),
            g.now,
            tally_now,
            ← g.long,
          ) at no));
    }

    pub resume_loop_next : ResumeLoop text limit e s₀ o₀ c' s' o' r
    resume_loop_next = record {
      invariant = a.invariant;
      long = u ∙ g.long;
      code = a.code;
      few = omega (arith, a.lines, g.few, m);
      passed = omega (arith, a.lines, a.place, g.passed, w.ends.from);
      within = omega (arith, a.place, w.ends.within);
      bytes = resume_line_bytes;
      size = v ∙ g.size;
      rest = rw (a.place, a.lines) (sym (drop_one p.lines (lines text) (sym g.rest ∙ lines_first h w.ends)));
      untouched = resume_line_untouched;
      now = resume_line_now;
      passes = line g.passes resume_line_one resume_line_agrees;
    }

  -- the ends of the run

  -- the lines answered so far are all
  run_ended : take p.lines allowed ≡ allowed → ResumeEnsures text limit e s₀ c s o₀ o p
  run_ended q =
      resume_ensures g.invariant g.bytes g.rest g.untouched g.within g.passes
      (ap (λ ls. runs ls from) (sym q) ∙ g.now)

  pub resume_loop_end : length text ≤ p.place → ResumeEnsures text limit e s₀ c s o₀ o p
  resume_loop_end h =
      let z : drop p.lines (lines text) ≡ [] = sym g.rest ∙ lines_none text p.place h in
      let k : length (lines text) ≤ p.lines = omega (arith, length-drop p.lines (lines text), ap length z) in
      run_ended (take-take p.lines limit (lines text) g.few ∙ take_all p.lines (lines text) k
      ∙ sym (take_all limit (lines text) (omega (arith, g.few))))

  pub resume_loop_limit : p.lines ≡ limit → ResumeEnsures text limit e s₀ c s o₀ o p
  resume_loop_limit h = run_ended (take-take p.lines limit (lines text) g.few ∙ ap (λ n. take n (lines text)) h)

  pub resume_loop_stop : {r : RunState} → p.place < length text → p.lines ≢ limit → length o - p.bytes < answer_room
      → r ≡ stopped_progress p → ResumeEnsures text limit e s₀ c s o₀ o r
  unfolding run_of tally.stopped_run
  resume_loop_stop h m n q =
      let k = ends_from LF text p.place (omega arith) in
      rw q (resume_ensures {p = stopped_progress p} g.invariant g.bytes g.rest g.untouched g.within
      g.passes
      (all_run h m k ∙ next_run h m k _
      ∙ rw (lt-leb (p.bytes + answer_room) (length o₀) (omega (arith, g.size, g.bytes)))))

-- a session from the start
pub work_agrees : {text : Bytes} {limit : ℕ} {e : Contents} {c₁ s₁ c' s' : List ℕ} {o o' : Bytes} {p : RunState}
    {r : SessionResult}
    (s : List ℕ) → EngineStartEnsures c₁ s s₁ e
    → ResumeEnsures text limit e s₁ c' s' o o' p → r ≡ result_of p
    → AgreesThroughout (at_most (capacity s)) (take limit (lines text)) empty_run s' o o' r
unfolding run_from empty_run
work_agrees s b w q = rw (q, ← b.long, ← b.is) w.agrees

-- a text has no more lines than bytes
pub session_agrees : (text : Bytes) (s : List ℕ) {s' : List ℕ} {o o' : Bytes} {r : SessionResult}
    → AgreesThroughout (at_most (capacity s)) (take (length text) (lines text)) empty_run s' o o' r
    → AgreesThroughout (at_most (capacity s)) (lines text) empty_run s' o o' r
session_agrees text s a = rw (take_all (length text) (lines text) (lines_count text)) at a
