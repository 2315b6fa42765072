-- What the two exported functions promise to programs in other languages.
use Rattle.std.specs.Prelude.{◌≡◌, Bool, true, false, List, ℕ, ◌≤◌, ◌<◌, length}
use Rattle.diagram.specs.Node.{capacity}
use Rattle.text.specs.Text.{lines}
use Rattle.text.specs.Print.{written}
use Rattle.text.specs.Session.{at_most, empty_run}
use Rattle.text.specs.Agrees.{AgreesThroughout}
use Rattle.text.specs.Judge.{VerdictEnsures}
use Rattle.text.specs.declared.progress.SessionResult.{SessionResult}
use Rattle.text.specs.declared.ruling.VerdictResult.{VerdictResult}
use Rattle.jorehyi.specs.Words.{session_size, verdict_size, session_words, verdict_words}

-- what the caller lends: bytes of the store, words of the cache, bytes of the output, words of the result
pub record Memory : Type 0 where
  pub store : List ℕ
  pub cache : List ℕ
  pub output : List ℕ
  pub result : List ℕ

abbrev pub memory : List ℕ → List ℕ → List ℕ → List ℕ → Memory
memory s c o w = record { store = s; cache = c; output = o; result = w }

-- a session was run, and its result is the first words
pub record SessionOutcome (text : List ℕ) (before after : Memory) : Type 0 where
  pub result : SessionResult
  pub agrees : AgreesThroughout
      (at_most (capacity before.store)) (lines text) empty_run after.store before.output after.output result
  pub words : after.result ≡ written before.result 0 (session_words result)

-- a verdict was given, and its result is the first words
pub record VerdictOutcome (text : List ℕ) (before after : Memory) : Type 0 where
  pub result : VerdictResult
  pub verdict : VerdictEnsures text before.store before.output after.output result
  pub words : after.result ≡ written before.result 0 (verdict_words result)

-- where the result has room the session is run, and where it has none nothing is changed; the answer says which
pub record SessionExported (text : List ℕ) (before after : Memory) (ran : Bool) : Type 0 where
  pub short : length before.result < session_size → (ran ≡ false) × (after ≡ before)
  pub long : session_size ≤ length before.result → (ran ≡ true) × SessionOutcome text before after

-- the same of a verdict
pub record VerdictExported (text : List ℕ) (before after : Memory) (ran : Bool) : Type 0 where
  pub short : length before.result < verdict_size → (ran ≡ false) × (after ≡ before)
  pub long : verdict_size ≤ length before.result → (ran ≡ true) × VerdictOutcome text before after
