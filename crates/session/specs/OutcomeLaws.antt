-- How a session ends, by what was received and whether the last answer was written.
use Rattle.std.specs.Prelude.{◌≡◌, refl, Bool, List, [], ◌++◌, ℕ, ◌≤◌, length, ⊤, Result, Ok, Err}
use Rattle.std.proofs.Common.{sym, append-nil, length-append, arith}
use Rattle.text.specs.Text.{Bytes, lines}
use Rattle.text.specs.declared.engine.Contents.{Contents}
use Rattle.session.specs.Answer.{Memory, SessionState}
use Rattle.session.specs.Feed.{AfterLines, AfterLinesBefore, FeedInvariant, LastEnsures}
use Rattle.session.specs.Output.{LastLost}
use Rattle.session.specs.OutputLaws.{all_each}
use Rattle.session.specs.Outcome.{AfterInput, FinishEnsures}
use Rattle.session.specs.declared.output.WriteFailed.{WriteFailed}
use Rattle.session.specs.declared.outcome.Stopped.{Stopped}
use Rattle.session.specs.declared.outcome.Stopped.TheVariants.{WriteFailed as Unwritten}

-- the last line that was run is the one whose answer could not be written
module _ {text : Bytes} {s : List ℕ} {e : Contents} {o : List Bool} where
  pub lost_before : (a : AfterLinesBefore text s e) → LastLost [] (length a.done) o
      → AfterInput (Err Unwritten) text s e o
  lost_before a w = (
    record {
      done = a.done;
      others = lines a.behind;
      split = rw (append-nil text, append-nil a.behind) at (a.split []);
      ran = a.ran;
    },
    w,
  )

  pub lost_last : AfterLines (lines text) s e → LastLost [] (length (lines text)) o
      → AfterInput (Err Unwritten) text s e o
  lost_last r w = (record { done = lines text; others = []; split = sym (append-nil (lines text)); ran = r }, w)

-- the lines that were run are lines of the text
lines_more : {text : Bytes} {n : ℕ} {m : Memory} {h : SessionState} → FeedInvariant text n m h → n ≤ length (lines text)
lines_more {text} f =
    let l : lines text ≡ f.to.done ++ lines f.to.behind =
    rw (append-nil text, append-nil f.to.behind) at (f.to.split []) in
    rw (l, length-append f.to.done (lines f.to.behind), f.count) (omega arith)

module _ {m : Memory} {h : SessionState} {s' : List ℕ} {e' : Contents} {o' : List Bool} {t : Result ⊤ Stopped}
    (p : t ≡ Ok tt) where
  pub finish_complete : LastEnsures m h s' e' o' (Ok tt) → FinishEnsures m h t s' e' o' (Ok tt)
  finish_complete v = rw p (record {
    on = λ text n f w.
        (v.all text n f, all_each {E = Stopped} h.outcomes o' (lines_more f) w (Ok tt) (v.each text n f));
    all = v.all;
    each = v.each;
    read = λ q. let i : ◌≡◌ {A = ℕ} 0 1 = cc in omega arith;
    lost = λ o. absurd (let e = (v.stays o).result in let i : ◌≡◌ {A = ℕ} 0 1 = cc in omega arith);
  })

  pub finish_unwritten : {x : WriteFailed} → LastEnsures m h s' e' o' (Err x)
      → FinishEnsures m h t s' e' o' (Err Unwritten)
  finish_unwritten v = rw p (record {
    on = λ text n f w.
        lost_last (v.all text n f) (all_each h.outcomes o' (lines_more f) w (Err Unwritten) (v.each text n f));
    all = v.all;
    each = v.each;
    read = λ q. let i : ◌≡◌ {A = ℕ} 0 1 = cc in omega arith;
    lost = λ o.
        let y = v.stays o in
        record { result = refl; store = y.store; engine = y.engine; outcomes = y.outcomes };
  })

pub finish_stopped : (m : Memory) (h : SessionState) {x : Stopped} {t : Result ⊤ Stopped} {r : Result ⊤ Stopped}
    → t ≡ Err x → r ≡ Err x
    → FinishEnsures m h t m.store h.engine h.outcomes r
finish_stopped m h p q = rw (p, q) (record { result = refl; store = refl; engine = refl; outcomes = refl })
