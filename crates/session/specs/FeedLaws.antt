-- Bytes taken in one after the other, and the input's last line.
use Rattle.std.specs.Prelude.{◌≡◌, refl, ◌≢◌, Bool, true, false, List, [], ◌∷◌, ◌++◌, ℕ, ◌+◌, ◌-◌, ◌≤◌, ◌<◌}
use Rattle.std.specs.Prelude.{length, take, drop, get_or, is_err, ⊤, Result, Ok, Err}
use Rattle.std.proofs.lemmas.Bool.{false≢true}
use Rattle.std.proofs.Common.{sym, ◌∙◌, append-nil, append_assoc, add-one, arith, length-append}
use Rattle.std.proofs.Common.{take-suc, length-take-le, take-append-drop}
use Rattle.text.specs.Text.{Bytes, LF, lines}
use Rattle.text.specs.Squeeze.{squeezed, NoneEnsures, PushEnsures}
use Rattle.text.specs.declared.engine.Contents.{Contents}
use Rattle.text.specs.declared.squeeze.Squeeze.{Squeeze}
use Rattle.session.specs.Answer.{Memory, memory, SessionState, none, AnswerEnsures}
use Rattle.session.specs.AnswerLaws.{line_first}
use Rattle.session.specs.FeedLinesLaws.{no_LF_more, line_kept, line_none, after_more}
use Rattle.session.specs.Feed.{AfterLinesBefore, FeedRequires, FeedInvariant}
use Rattle.session.specs.Feed.{TakesIn, NothingFed, FeedEnsures, LastEnsures}
use Rattle.session.specs.Output.{any_lost, PutEnsures}
use Rattle.session.specs.OutputLaws.{written_open, no_write, put_written, put_lost, put_each}
use Rattle.session.specs.OutputLaws.{written_then, lost_then}
use Rattle.session.specs.declared.output.WriteFailed.{WriteFailed}

-- behind the lines that were run, more bytes
abbrev before_more : {text : Bytes} {s : List ℕ} {e : Contents} (more : Bytes) → AfterLinesBefore text s e
    → AfterLinesBefore (text ++ more) s e
before_more {text} b f = record {
  done = f.done;
  behind = f.behind ++ b;
  split = λ rest. rw (append_assoc text b rest, append_assoc f.behind b rest) (f.split (b ++ rest));
  ran = f.ran;
}

-- one byte: a line's end, or a byte of a line

-- the line that has come is run
abbrev line_ends : {m : Memory} {text : Bytes} {n : ℕ} {h : SessionState} {c' s' line' : List ℕ} {e : Contents}
    → FeedInvariant text n m h → length s' ≡ length m.store
    → AnswerEnsures m h.squeeze h.engine (memory line' c' s') e → AfterLinesBefore (text ++ (LF ∷ [])) s' e
line_ends {text = text} f k a =
    let v = f.seen in
    record {
      done = f.to.done ++ (f.to.behind ∷ []);
      behind = [];
      split = λ rest.
          rw (
            append_assoc text (LF ∷ []) rest,
            f.to.split (LF ∷ rest),
            line_first rest v.unbroken,
            append_assoc f.to.done (f.to.behind ∷ []) (lines rest),
          );
      ran = after_more f.to.behind k f.to.ran (a.tally f.to.behind v.unbroken v.squeezing);
    }

module _ {line c s : List ℕ} {h : SessionState} where
  pub feeds_end : {line' c' s' : List ℕ} {b : ℕ} {q : Squeeze} {e : Contents} {o : List Bool} → b ≡ LF
      → length line' ≡ length line → length s' ≡ length s → FeedRequires (memory line c s) h
      → AnswerEnsures (memory line c s) h.squeeze h.engine (memory line' c' s') e → PutEnsures h.outcomes o (Ok tt)
      → NoneEnsures q
      → TakesIn (b ∷ []) (memory line c s) h (memory line' c' s')
      (record { squeeze = q; engine = e; outcomes = o }) (Ok tt)
  feeds_end {line'} {c'} {s'} {b} {q} {e} {o} z m k r a w g = rw z (record {
    requires = after;
    on = λ text n f. record {
      lines = n + 1;
      invariant = record {
        requires = after;
        to = line_ends f k a;
        count = length-append f.to.done (f.to.behind ∷ []) ∙ (rw f.count);
        written = written_open h.outcomes (n + 1 - n) f.written (put_written h.outcomes n f.written w);
        seen = record { unbroken = none; squeezing = g.start line' };
      };
      more = omega arith;
      each = put_written h.outcomes n f.written w;
    };
  })
    where
      after : FeedRequires (memory line' c' s') (record { squeeze = q; engine = e; outcomes = o })
      after = record { room = omega (arith, r.room, m); fits = g.fits; invariant = a.invariant }

  pub feeds_lost : {line' c' s' : List ℕ} {b : ℕ} {h' : SessionState} (x : WriteFailed) → b ≡ LF
      → length line' ≡ length line → length s' ≡ length s → h'.squeeze ≡ h.squeeze → FeedRequires (memory line c s) h
      → AnswerEnsures (memory line c s) h.squeeze h.engine (memory line' c' s') h'.engine
      → PutEnsures h.outcomes h'.outcomes (Err x)
      → TakesIn (b ∷ []) (memory line c s) h (memory line' c' s') h' (Err x)
  feeds_lost x z m k q u a w = rw z (record {
    requires = record { room = omega (arith, u.room, m); fits = rw q u.fits; invariant = a.invariant };
    on = λ text n f.
        let l : length (f.to.done ++ (f.to.behind ∷ [])) ≡ n + 1 =
        length-append f.to.done (f.to.behind ∷ []) ∙ (rw f.count) in
        record {
          to = line_ends f k a;
          lost = omega (arith, l);
          each = rw l (put_lost h.outcomes n f.written w);
        };
  })

  pub feeds_byte : {line' : List ℕ} {b : ℕ} {q : Squeeze} → b ≢ LF
      → FeedRequires (memory line c s) h → PushEnsures line h.squeeze b line' q
      → TakesIn (b ∷ []) (memory line c s) h (memory line' c s)
      (record { squeeze = q; engine = h.engine; outcomes = h.outcomes }) (Ok tt)
  feeds_byte {line'} {b} {q} z k p = record {
    requires = after;
    on = λ text n f. record {
      lines = n;
      invariant = record {
        requires = after;
        to = before_more (b ∷ []) f.to;
        count = f.count;
        written = f.written;
        seen = record { unbroken = no_LF_more f.seen.unbroken z; squeezing = p.on f.to.behind f.seen.squeezing };
      };
      more = omega arith;
      each = no_write h.outcomes n refl;
    };
  }
    where
      after : FeedRequires (memory line' c s) (record { squeeze = q; engine = h.engine; outcomes = h.outcomes })
      after = record { room = omega (arith, k.room, p.room); fits = p.fits; invariant = k.invariant }

-- the loop over a part

-- what `may_run` says: a write has failed, or none has
module _ (o : List Bool) {r : Result ⊤ WriteFailed} (p : is_err r ≡ any_lost o) where
  was_lost : {x : WriteFailed} → r ≡ Err x → any_lost o ≡ true
  was_lost q = rw q at (sym p)

  was_open : r ≡ Ok tt → any_lost o ≡ false
  was_open q = rw q at (sym p)

-- a write has failed
pub feed_stays : {part : Bytes} {m : Memory} {h : SessionState} {r : Result ⊤ WriteFailed} {x : WriteFailed}
    → is_err r ≡ any_lost h.outcomes → r ≡ Err x → FeedRequires m h
    → FeedEnsures part m h m h (Err x)
feed_stays {h = h} p q k = record {
  takes = record {
    requires = k;
    on = λ text n f. absurd (false≢true (sym f.written ∙ was_lost h.outcomes p q));
  };
  stays = λ o. record { memory = refl; state = refl; result = refl };
}

pub takes_none : {m : Memory} {h : SessionState} → FeedRequires m h → TakesIn [] m h m h (Ok tt)
takes_none {h = h} k = record {
  requires = k;
  on = λ text n f. record {
    lines = n;
    invariant = rw (append-nil text) f;
    more = omega arith;
    each = no_write h.outcomes n refl;
  };
}

pub feed_start : {m : Memory} {h : SessionState} {r : Result ⊤ WriteFailed} → is_err r ≡ any_lost h.outcomes
    → r ≡ Ok tt → FeedRequires m h
    → FeedEnsures [] m h m h (Ok tt)
feed_start {h = h} p q k = record {
  takes = takes_none k;
  stays = λ o. absurd (false≢true (sym (was_open h.outcomes p q) ∙ o));
}

-- bytes after bytes
pub takes_then : {p q : Bytes} {m m' m'' : Memory} {h h' h'' : SessionState} (r : Result ⊤ WriteFailed)
    → TakesIn p m h m' h' (Ok tt) → TakesIn q m' h' m'' h'' r → TakesIn (p ++ q) m h m'' h'' r
takes_then {p} {q} {h = h} (Ok _) f g = record {
  requires = g.requires;
  on = λ text n v.
      let x = f.on text n v in
      let y = g.on (text ++ p) x.lines x.invariant in
      record {
        lines = y.lines;
        invariant = rw (← append_assoc text p q) y.invariant;
        more = omega (arith, x.more, y.more);
        each = written_then h.outcomes y.lines x.more x.each y.more y.each;
      };
}
takes_then {p} {q} {h = h} (Err _) f g = record {
  requires = g.requires;
  on = λ text n v.
      let x = f.on text n v in
      let y = g.on (text ++ p) x.lines x.invariant in
      rw (← append_assoc text p q)
      (record {
        to = y.to;
        lost = omega (arith, x.more, y.lost);
        each = lost_then h.outcomes (length y.to.done) x.more x.each y.lost y.each;
      });
}

-- bytes after an answer that could not be written
takes_no_more : {p : Bytes} {m m' : Memory} {h h' : SessionState} {w : WriteFailed} (q : Bytes)
    → TakesIn p m h m' h' (Err w) → TakesIn (p ++ q) m h m' h' (Err w)
takes_no_more {p} q f = record {
  requires = f.requires;
  on = λ text n v.
      let x = f.on text n v in
      rw (← append_assoc text p q)
      (record { to = before_more q x.to; lost = x.lost; each = x.each });
}

-- bytes were taken in, so no write had failed before
fed_open : {p : Bytes} {m m' m'' : Memory} {h h' h'' : SessionState} {r : Result ⊤ WriteFailed}
    → FeedEnsures p m h m' h' (Ok tt) → any_lost h.outcomes ≡ true → NothingFed m h m'' h'' r
fed_open f o = absurd (let e = (f.stays o).result in let i : ◌≡◌ {A = ℕ} 0 1 = cc in omega arith)

module _ (part : Bytes) {m m' m'' : Memory} {h h' h'' : SessionState} {i : ℕ} (l : i < length part)
    (f : FeedEnsures (take i part) m h m' h' (Ok tt)) where
  takes_next : (r : Result ⊤ WriteFailed) → TakesIn (get_or part i 0 ∷ []) m' h' m'' h'' r
      → TakesIn (take (i + 1) part) m h m'' h'' r
  takes_next r g = rw (add-one i, take-suc part i 0 l) (takes_then r f.takes g)

  pub feed_step : {r : Result ⊤ WriteFailed} → r ≡ Ok tt → TakesIn (get_or part i 0 ∷ []) m' h' m'' h'' r
      → FeedEnsures (take (i + 1) part) m h m'' h'' (Ok tt)
  feed_step {r} p g = record { takes = rw p at (takes_next r g); stays = λ o. fed_open f o }

  pub feed_lost : {r : Result ⊤ WriteFailed} {w : WriteFailed} → r ≡ Err w
      → TakesIn (get_or part i 0 ∷ []) m' h' m'' h'' r
      → FeedEnsures part m h m'' h'' (Err w)
  feed_lost {r} {w} p g =
      let t = takes_no_more (drop (i + 1) part) (rw p at (takes_next r g)) in
      record { takes = rw (take-append-drop (i + 1) part) at t; stays = λ o. fed_open f o }

-- the input's end

-- a write has failed
pub last_stays : {m : Memory} {h : SessionState} {r : Result ⊤ WriteFailed} {x : WriteFailed}
    → is_err r ≡ any_lost h.outcomes → r ≡ Err x
    → LastEnsures m h m.store h.engine h.outcomes (Err x)
last_stays {h = h} p q = record {
  all = λ text n f. absurd (false≢true (sym f.written ∙ was_lost h.outcomes p q));
  each = λ text n f. absurd (false≢true (sym f.written ∙ was_lost h.outcomes p q));
  stays = λ o. record { store = refl; engine = refl; outcomes = refl; result = refl };
}

module _ {line c s : List ℕ} {h : SessionState} where
  -- nothing is behind the lines that were run
  pub last_none : {t : Result ⊤ WriteFailed} → is_err t ≡ any_lost h.outcomes → t ≡ Ok tt → h.squeeze.length ≤ 0
      → LastEnsures (memory line c s) h s h.engine h.outcomes (Ok tt)
  last_none p q z = record {
    stays = λ o. absurd (false≢true (sym (was_open h.outcomes p q) ∙ o));
    all = λ text n f. rw (all_run text n f) f.to.ran;
    each = λ text n f. rw (all_run text n f, f.count) (no_write h.outcomes n refl);
  }
    where
      all_run : (text : Bytes) (n : ℕ) (f : FeedInvariant text n (memory line c s) h) → lines text ≡ f.to.done
      all_run text n f =
          let v = f.seen in
          let k : length (squeezed f.to.behind) ≤ 0 =
          rw (← v.squeezing.kept) (omega (arith, length-take-le h.squeeze.length line (omega arith))) in
          (rw (append-nil text, append-nil f.to.behind, line_none f.to.behind k) at (f.to.split []))
          ∙ append-nil f.to.done

  -- what is behind them is a line
  last_lines : 0 < h.squeeze.length → FeedRequires (memory line c s) h → (text : Bytes) (n : ℕ)
      → (f : FeedInvariant text n (memory line c s) h)
      → lines text ≡ f.to.done ++ (f.to.behind ∷ [])
  last_lines z k text n f =
      let v = f.seen in
      let q = k.fits in
      let b : length (take h.squeeze.length line) ≡ h.squeeze.length =
      length-take-le _ line (omega (arith, q.tabs, q.width, q.short, k.room)) in
      let o : 0 < length (squeezed f.to.behind) = rw (← v.squeezing.kept) (omega arith) in
      rw (append-nil text, append-nil f.to.behind, line_kept v.unbroken o) at (f.to.split [])

  pub last_line : {line' c' s' : List ℕ} {e' : Contents} {o : List Bool} {r t : Result ⊤ WriteFailed}
      → is_err t ≡ any_lost h.outcomes → t ≡ Ok tt → 0 < h.squeeze.length
      → length s' ≡ length s → FeedRequires (memory line c s) h
      → AnswerEnsures (memory line c s) h.squeeze h.engine (memory line' c' s') e' → PutEnsures h.outcomes o r
      → LastEnsures (memory line c s) h s' e' o r
  last_line {r = r} p q z n k a w = record {
    stays = λ o. absurd (false≢true (sym (was_open h.outcomes p q) ∙ o));
    all = λ text m f.
        rw (last_lines z k text m f)
        (after_more f.to.behind n f.to.ran (a.tally f.to.behind f.seen.unbroken f.seen.squeezing));
    each = λ text m f.
        let l : length (f.to.done ++ (f.to.behind ∷ [])) ≡ m + 1 =
        length-append f.to.done (f.to.behind ∷ []) ∙ (rw f.count) in
        rw (last_lines z k text m f, l) (put_each h.outcomes m f.written r w);
  }
