-- One write more.
use Rattle.std.specs.Prelude.{◌≡◌, ◌≢◌, refl, Bool, true, false, List, [], ◌∷◌, ◌++◌, ℕ, zero, suc, ◌+◌, ◌-◌, ◌≤◌, ◌<◌}
use Rattle.std.specs.Prelude.{is_err, ⊤}
use Rattle.std.specs.Prelude.{Result, Ok, Err}
use Rattle.std.proofs.Common.{ap, ◌∙◌, sym, add-one, append-nil, append_assoc, arith}
use Rattle.std.proofs.lemmas.List.{replicate-append-replicate}
use Rattle.std.proofs.lemmas.Bool.{false≢true}
use Rattle.session.specs.Output.{all_written, one_lost, any_lost, PutEnsures, LastLost, OneWriteEach, recorded}
use Rattle.session.specs.declared.output.WriteFailed.{WriteFailed}

written_more : (n : ℕ) → all_written n ++ (true ∷ []) ≡ all_written (suc n)
written_more zero = refl
written_more (suc n) = ap (λ (x : List Bool). true ∷ x) (written_more n)

none_lost : (n : ℕ) → any_lost (all_written n) ≡ false
unfolding any_lost
none_lost zero = refl
none_lost (suc n) = none_lost n

some_lost : (n : ℕ) → any_lost (one_lost n) ≡ true
unfolding any_lost
some_lost zero = refl
some_lost (suc n) = some_lost n

-- after writes that succeeded none has failed
still_none_lost : (o : List Bool) (n : ℕ) → any_lost o ≡ false → any_lost (o ++ all_written n) ≡ false
unfolding any_lost
still_none_lost [] n p = none_lost n
still_none_lost (true ∷ o) n p = still_none_lost o n p
still_none_lost (false ∷ o) n p = absurd (false≢true (sym p))

-- nothing was said
pub nothing_lost : {o : List Bool} → o ≡ [] → any_lost o ≡ false
unfolding any_lost
nothing_lost p = rw p

module _ (o : List Bool) {o' : List Bool} where
  pub written_open : (n : ℕ) → any_lost o ≡ false → o' ≡ o ++ all_written n → any_lost o' ≡ false
  written_open n p w = rw w (still_none_lost o n p)

  -- no line was run
  pub no_write : (n : ℕ) → o' ≡ o → o' ≡ o ++ all_written (n - n)
  no_write n p = let e : n - n ≡ 0 = omega arith in rw (e, append-nil o) p

  -- one line was run, and its answer was written
  pub put_written : (n : ℕ) → any_lost o ≡ false → PutEnsures o o' (Ok tt) → o' ≡ o ++ all_written (n + 1 - n)
  put_written n p w = let e : n + 1 - n ≡ 1 = omega arith in rw e (w.grows p)

  -- .. or could not be written
  pub put_lost : {x : WriteFailed} (n : ℕ) → any_lost o ≡ false → PutEnsures o o' (Err x)
      → LastLost o (n + 1 - n) o'
  put_lost n p w = record { before = 0; count = omega arith; is = w.grows p }

  pub put_each : (n : ℕ) → any_lost o ≡ false → (r : Result ⊤ WriteFailed) → PutEnsures o o' r
      → OneWriteEach o r (n + 1 - n) o'
  put_each n p (Ok _) w = put_written n p w
  put_each n p (Err _) w = put_lost n p w

  -- lines after lines
  module _ {n a : ℕ} (b : ℕ) {o'' : List Bool} (k : n ≤ a) (w : o' ≡ o ++ all_written (a - n)) where
    pub written_then : a ≤ b → o'' ≡ o' ++ all_written (b - a) → o'' ≡ o ++ all_written (b - n)
    written_then l v =
        let e : a - n + (b - a) ≡ b - n = omega (arith, k, l) in
        v ∙ (rw (
          w,
          append_assoc o (all_written (a - n)) (all_written (b - a)),
          replicate-append-replicate (a - n) (b - a) true,
          e,
        ))

    pub lost_then : a < b → LastLost o' (b - a) o'' → LastLost o (b - n) o''
    lost_then l v = record {
      before = a - n + v.before;
      count = omega (arith, k, l, v.count);
      is =
          v.is ∙ (rw (
            w,
            append_assoc o (all_written (a - n)) (one_lost v.before),
            ← append_assoc (all_written (a - n)) (all_written v.before) (false ∷ []),
            replicate-append-replicate (a - n) v.before true,
          ));
    }

-- What was said of all l lines, where each of the first n had one write, too, which succeeded. (With none of them, and
-- nothing said before, it is the whole.)
pub all_each : {E : Type 0} (o o' : List Bool) {n l : ℕ} → n ≤ l → o ≡ all_written n → (r : Result ⊤ E)
    → OneWriteEach o r (l - n) o' → OneWriteEach [] r l o'
all_each o o' {n} {l} k p (Ok _) w =
    let e : n + (l - n) ≡ l = omega (arith, k) in
    w ∙ (rw (p, replicate-append-replicate n (l - n) true, e))
all_each o o' {n} {l} k p (Err _) w = record {
  before = n + w.before;
  count = omega (arith, k, w.count);
  is =
      w.is ∙ (rw (
        p,
        ← append_assoc (all_written n) (all_written w.before) (false ∷ []),
        replicate-append-replicate n w.before true,
      ));
}

-- what is kept of standard output's writes

pub recorded_lost : (said : Result ℕ ℕ) → is_err said ≡ any_lost (recorded said)
recorded_lost (Ok n) = sym (none_lost n)
recorded_lost (Err n) = sym (some_lost n)

module _ {said : Result ℕ ℕ} where
  pub recorded_written : {n : ℕ} → said ≡ Ok n → PutEnsures (recorded said) (all_written (n + 1)) (Ok tt)
  recorded_written {n} p = rw p (record {
    grows = λ _. rw (add-one n, written_more n);
    stays = λ q. absurd (false≢true (sym (none_lost n) ∙ q));
    refused = λ q. absurd (false≢true (sym (none_lost n) ∙ q));
  })

  pub recorded_failed : {n : ℕ} {x : WriteFailed} → said ≡ Ok n → PutEnsures (recorded said) (one_lost n) (Err x)
  recorded_failed {n} p = rw p (record {
    grows = λ _. refl;
    stays = λ q. absurd (false≢true (sym (none_lost n) ∙ q));
    refused = λ q. absurd (false≢true (sym (none_lost n) ∙ q));
  })

after_failed : (said : Result ℕ ℕ) → ((n : ℕ) → said ≢ Ok n)
    → PutEnsures (recorded said) (recorded said) (Err (record {}))
after_failed (Ok n) h = absurd (h n refl)
after_failed (Err n) h = record {
  grows = λ q. absurd (false≢true (sym q ∙ some_lost n));
  stays = λ _. refl;
  refused = λ _. refl;
}

-- after a write that failed
pub recorded_refused : {said : Result ℕ ℕ} → ((n : ℕ) → said ≢ Ok n)
    → PutEnsures (recorded said) (recorded said) (Err (record {}))
recorded_refused h = after_failed _ h

-- one write more, by what it said
pub ruleset one_more_recorded = (recorded_written, recorded_failed, recorded_refused)
