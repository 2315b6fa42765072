-- Bytes taken in one after the other, and read after read.
use Rattle.std.specs.Prelude.{◌≡◌, refl, [], ◌∷◌, ◌++◌, ℕ, zero, suc, ◌+◌, ◌≢◌}
use Rattle.std.specs.Prelude.{◌≤◌, ◌<◌, length, take, get_or, ⊤, Option, Result, Ok, Err, IsErr}
use Rattle.std.specs.Io.KnownBytes.{ReadConsumes}
use Rattle.std.proofs.KnownBytes.{Consumes-nil, Consumes-trans, Consumes-kept}
use Rattle.std.proofs.Common.{sym, subst, append-nil, append_assoc, add-one, arith, length-append, take-suc, take_all}
use Rattle.std.proofs.lemmas.Bool.{false≢true}
use Rattle.std.proofs.Math.Seq.{take-nil}
use Rattle.std.proofs.lemmas.List.{take-append-le}
use Rattle.stdin.specs.Stdin.{count_of}
use Rattle.stdin.specs.Star.{Star, none, more}
use Rattle.stdin.specs.declared.ReadFailed.{ReadFailed}
use Rattle.text.specs.Text.{Bytes}
use Rattle.verdict.specs.Input.{BufferHolds, KeepsBuffer, FeedEnsures, ReadEnsures, ReadTakes, ReadStep}
use Rattle.verdict.specs.Input.{ReadsMore, LastRead, Reads, Taken, Held}
use Rattle.verdict.specs.declared.input.Buffer.{Buffer}

-- one byte that does not fit
pub feeds_over : {a b : Buffer} {x : ℕ} → length a.text.now ≤ a.len → b.text.now ≡ a.text.now
    → b.len ≡ length a.text.now + 1
    → FeedEnsures (x ∷ []) a b
feeds_over {a} {b} {x} h p q = record {
  on = λ came w.
      let many : length a.text.now ≤ length came = omega (arith, w.count) in
      record {
        kept = rw (
          p,
          q,
          take_all (length a.text.now + 1) a.text.now (omega arith),
          take-append-le (length a.text.now) came (x ∷ []) many,
          ← w.kept,
        ) (sym (take_all a.len a.text.now h));
        count = rw (p, q) (omega (arith, length-append came (x ∷ [])));
      };
}

-- the loop over a part

pub feed_none : {a : Buffer} → FeedEnsures [] a a
feed_none = record { on = λ came w. rw (append-nil came) w }

pub feed_step : (part : Bytes) {a b c : Buffer} {i : ℕ} → i < length part → FeedEnsures (take i part) a b
    → FeedEnsures (get_or part i 0 ∷ []) b c
    → FeedEnsures (take (i + 1) part) a c
feed_step part {i = i} l f g = record {
  on = λ came w.
      rw (add-one i, take-suc part i 0 l, ← append_assoc came (take i part) (get_or part i 0 ∷ []))
      (g.on (came ++ take i part) (f.on came w));
}

-- the loop over the input

pub reads_start : {a b : Buffer} → b.text ≡ a.text → b.len ≡ 0 → ReadsMore a b
reads_start {b = b} p e = record { start = b; text = p; empty = e; steps = none }

pub reads_more : {o a b : Buffer} (n : ℕ) → n ≢ 0 → ReadsMore o a → KeepsBuffer a b → ReadEnsures a b (Ok n)
    → ReadsMore o b
reads_more zero h v k w = absurd (h refl)
reads_more (suc n) h v k w = record {
  start = v.start;
  text = v.text;
  empty = v.empty;
  steps = more v.steps (record { keeps = k; more = n; read = w });
}

pub reads_end : {o a b : Buffer} {n : ℕ} → n ≡ 0 → ReadsMore o a → ReadEnsures a b (Ok n) → Reads o b (Ok tt)
reads_end {a = a} {b} e v w = record { before = a; more = v; last = subst (λ k. ReadEnsures a b (Ok k)) e w }

pub reads_failed : {o a b : Buffer} {e : ReadFailed} (r : Result ⊤ ReadFailed) → IsErr r → ReadsMore o a
    → ReadEnsures a b (Err e) → Reads o b r
reads_failed (Ok u) i v w = absurd (false≢true i)
reads_failed {a = a} (Err e) i v w = record { before = a; more = v; last = w }

pub reads_none : {o a : Buffer} {e : ReadFailed} → ReadsMore o a → Reads o a (Err e)
reads_none {a = a} v =
    record { before = a; more = v; last = record { part = []; possible = omega arith; feeds = feed_none } }

holds_none : {a : Buffer} → a.len ≡ 0 → BufferHolds [] a
holds_none {a} e = record { kept = rw e (sym (take-nil (length a.text.now))); count = omega (arith, e) }

-- an input of which it may be known what it gives

pub takes_failed : {E : Type 0} {w w' : Option Bytes} {a : Buffer} (part : Bytes) (x : Result ℕ E)
    (r : Result ℕ ReadFailed)
    → ReadConsumes w w' x part
    → IsErr x
    → IsErr r
    → ReadTakes w w' a a r
takes_failed part (Ok n) r k i j = absurd (false≢true i)
takes_failed part (Err e) (Ok n) k i j = absurd (false≢true j)
takes_failed {w = w} {w'} part (Err e) (Err f) k i j = record {
  part = [];
  feeds = feed_none;
  consumes = Consumes-kept w w w' [] (Consumes-nil w) k;
  ended = λ p. absurd (let i : ◌≡◌ {A = ℕ} 0 1 = cc in omega arith);
}

pub taken_start : {w : Option Bytes} {a : Buffer} → a.len ≡ 0 → Taken w w a
taken_start {w} e = record { came = []; holds = holds_none e; consumes = Consumes-nil w }

pub taken_read : {w w' w'' : Option Bytes} {a b : Buffer} {r : Result ℕ ReadFailed} → Taken w w' a
    → ReadTakes w' w'' a b r
    → Taken w w'' b
taken_read {w} {w'} {w''} v t = record {
  came = v.came ++ t.part;
  holds = t.feeds.on v.came v.holds;
  consumes = Consumes-trans w w' w'' v.came t.part v.consumes t.consumes;
}

-- what the buffer holds after any number of reads

held_read : {a b : Buffer} {r : Result ℕ ReadFailed} → Held a → ReadEnsures a b r → Held b
held_read {r = r} v w =
    record { came = v.came ++ take (count_of r) w.part; holds = w.feeds.on v.came v.holds }

held_steps : {a b : Buffer} → a.len ≡ 0 → Star ReadStep a b → Held b
held_steps e none = record { came = []; holds = holds_none e }
held_steps e (more r s) = held_read (held_steps e r) s.read

held_last : {a b : Buffer} (r : Result ⊤ ReadFailed) → Held a → LastRead a b r → Held b
held_last (Ok u) v w = held_read v w
held_last (Err e) v w = held_read v w

pub reads_held : {o a : Buffer} {r : Result ⊤ ReadFailed} → Reads o a r → Held a
reads_held {r = r} w = held_last r (held_steps w.more.empty w.more.steps) w.last
