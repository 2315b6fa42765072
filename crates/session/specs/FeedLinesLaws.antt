-- Bytes with no LF are one line, or none where there are no bytes; one line more is run.
use Rattle.std.specs.Prelude.{◌≡◌, refl, ◌≢◌, Bool, true, false, cond, List, [], ◌∷◌, ◌++◌, ℕ, ◌+◌, ◌≤◌, ◌<◌, eqb}
use Rattle.std.specs.Prelude.{length}
use Rattle.std.proofs.Common.{arith, ne_eqb, add-one, le-leb, length-append}
use Rattle.diagram.specs.Node.{capacity}
use Rattle.text.specs.Text.{Bytes, LF, tab, lines, parts, onto}
use Rattle.text.specs.Answer.{printed}
use Rattle.text.specs.Limits.{answer_room}
use Rattle.text.specs.Session.{at_most, empty_run, with_answer, run}
use Rattle.text.specs.SessionLaws.{run_append}
use Rattle.text.specs.Squeeze.{squeezed_from, squeezed}
use Rattle.text.specs.Engine.{tally_of, EngineStartEnsures}
use Rattle.text.specs.declared.engine.Contents.{Contents}
use Rattle.session.specs.Answer.{NoLf, none, byte, reply_to}
use Rattle.session.specs.Feed.{AfterLines}

pub no_LF_more : {s : Bytes} {b : ℕ} → NoLf s → b ≢ LF → NoLf (s ++ (b ∷ []))
no_LF_more none h = byte h none
no_LF_more (byte g u) h = byte g (no_LF_more u h)

-- bytes without an LF are one line
line_last : {x : ℕ} {s : Bytes} → NoLf (x ∷ s) → lines (x ∷ s) ≡ (x ∷ s) ∷ []
unfolding lines parts onto
line_last (byte {x} h none) = rw (ne_eqb x LF h)
line_last (byte {x} h (byte g u)) = rw (ne_eqb x LF h, line_last (byte g u))

-- of a line that has a byte, one is kept
kept_some : (x : ℕ) (s : Bytes) → 0 < length (squeezed (x ∷ s))
unfolding squeezed squeezed_from
kept_some x s = go (eqb x tab)
  where
    go : (b : Bool) → 0 < length (cond b (x ∷ squeezed_from 1 0 s) (x ∷ squeezed_from 0 1 s))
    go true = omega arith
    go false = omega arith

pub line_kept : {s : Bytes} → NoLf s → 0 < length (squeezed s) → lines s ≡ s ∷ []
unfolding squeezed squeezed_from
line_kept none h = absurd (omega arith)
line_kept (byte g u) h = line_last (byte g u)

pub line_none : (s : Bytes) → length (squeezed s) ≤ 0 → lines s ≡ []
unfolding lines parts
line_none [] h = refl
line_none (x ∷ s) h = absurd (omega (arith, kept_some x s))

-- lines that were run

pub after_none : {s₀ c s : List ℕ} {e : Contents} → EngineStartEnsures c s₀ s e → AfterLines [] s e
unfolding run empty_run
after_none a = record { output = []; is = λ room h. rw a.is }

pub after_more : {ls : List Bytes} {s s' : List ℕ} {e n : Contents} (l : Bytes) → length s' ≡ length s
    → AfterLines ls s e
    → tally_of s' n ≡ (reply_to l s e).1
    → AfterLines (ls ++ (l ∷ [])) s' n
unfolding run with_answer
after_more {ls} {s} {s'} {e} {n} l k r t = record {
  output = r.output ++ printed (reply_to l s e).0;
  is = λ room h.
      let w : length r.output + answer_room ≤ room = omega
      (arith, length-append r.output (printed (reply_to l s e).0)) in
      rw (
        k,
        t,
        run_append (at_most (capacity s)) room ls (l ∷ []) empty_run,
        r.is room w,
        le-leb _ _ w,
        length-append ls
            (l ∷ []),
        add-one (length ls),
      );
}
