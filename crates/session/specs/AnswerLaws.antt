-- A squeezed line is one line, and the run of that one line answers it.
use Rattle.std.specs.Prelude.{◌≡◌, refl, Bool, true, false, cond, ℕ, suc, ◌+◌, ◌≤◌, eqb, ltb, length, take, set}
use Rattle.std.proofs.Math.Path.{ap}
use Rattle.std.proofs.Common.{◌∙◌, add-one, arith}
use mathlib.Core.List.{List, [], ◌∷◌, ◌++◌}
use borrow.Author.Tests.{ne_eqb, le-leb}
use Rattle.std.proofs.Math.Seq.{take-suc-set}
use Rattle.diagram.specs.Tensor.{indices}
use Rattle.diagram.specs.Node.{capacity}
use Rattle.text.specs.Text.{Bytes, LF, tab, onto, parts, lines}
use Rattle.text.specs.Answer.{printed}
use Rattle.text.specs.Session.{at_most, TallyRun, with_answer, run}
use Rattle.text.specs.Squeeze.{squeezed_from, squeezed, SqueezeFits, SqueezeInvariant}
use Rattle.text.specs.Engine.{tally_of}
use Rattle.text.specs.declared.engine.Contents.{Contents}
use Rattle.text.specs.Progress.{RunState, run_from, ResumeEnsures}
use Rattle.text.specs.SqueezeReadLaws.{read_line_squeezed}
use Rattle.text.specs.AgreesLaws.{printed_front, printed_within}
use Rattle.text.specs.declared.progress.Progress.{Progress}
use Rattle.text.specs.declared.squeeze.Squeeze.{Squeeze}
use Rattle.session.specs.Answer.{memory, NoLf, none, byte, reply_to, ReplyEnsures}
use Rattle.text.specs.Limits.{line_room, answer_room}

no_LF_either : (b : Bool) {s t : Bytes} → NoLf s → NoLf t → NoLf (cond b s t)
no_LF_either true p q = p
no_LF_either false p q = q

no_LF_squeezed : {s : Bytes} (t w : ℕ) → NoLf s → NoLf (squeezed_from t w s)
unfolding squeezed_from
no_LF_squeezed t w none = none
no_LF_squeezed t w (byte {x} h u) =
    no_LF_either (eqb x tab)
    (no_LF_either (ltb t 5) (byte h (no_LF_squeezed (suc t) 0 u)) (no_LF_squeezed t 9 u))
    (no_LF_either (ltb w 9) (byte h (no_LF_squeezed t (suc w) u)) (no_LF_squeezed t w u))

-- how far a run has come, where the engine holds e
abbrev run_state : Progress → Contents → RunState
run_state p e = record { code = p.code; lines = p.lines; bytes = p.bytes; place = p.place; engine = e }

-- bytes up to an LF are a line
pub line_first : {s : Bytes} (rest : Bytes) → NoLf s → lines (s ++ (LF ∷ rest)) ≡ s ∷ lines rest
unfolding lines parts onto
line_first rest none = refl
line_first rest (byte {x} h u) = rw (ne_eqb x LF h, line_first rest u)

module _ {line : Bytes} {q : Squeeze} {e e' : Contents} {s c' s' o o' : List ℕ} {r : Progress}
    (h : line_room ≤ length line) (f : SqueezeFits q) (w : answer_room ≤ length o)
    (m : ResumeEnsures (take (q.length + 1) (set line q.length LF)) 1 e s c' s' o o' (run_state r e')) where
  module _ (seen : Bytes) (u : NoLf seen) (k : SqueezeInvariant seen line q) where
    one_line : lines (take (q.length + 1) (set line q.length LF)) ≡ squeezed seen ∷ []
    unfolding squeezed lines parts
    one_line =
        rw (add-one q.length, take-suc-set line q.length LF (omega arith), k.kept)
        (line_first [] (no_LF_squeezed 0 0 u))

    one_run : run (at_most (capacity s)) (length o) (take 1 (lines (take (q.length + 1) (set line q.length LF))))
        (run_from (tally_of s e))
        ≡ with_answer (run_from (tally_of s e)) (reply_to seen s e)
    unfolding run run_from
    one_run = rw (one_line, le-leb answer_room (length o) w, read_line_squeezed seen)

    reply_answer : take r.bytes o' ≡ printed (reply_to seen s e).0
    unfolding with_answer run_from
    reply_answer = printed_front m.agrees.ends ∙ ap (λ (x : TallyRun indices). x.output) one_run

    reply_tally : tally_of s' e' ≡ (reply_to seen s e).1
    unfolding with_answer
    reply_tally = m.tally ∙ ap (λ (x : TallyRun indices). x.tally) one_run

  pub reply_ensures : {c line' : List ℕ} → ReplyEnsures (memory line c s) q e (memory line' c' s') e' o' r
  reply_ensures = record {
    answered = record { invariant = m.invariant; tally = reply_tally };
    within = printed_within m.agrees.ends;
    answer = reply_answer;
  }
