-- The exported functions' promises, from what their parts promise.
use Rattle.std.specs.Prelude.{◌≡◌, refl, true, false, List, ℕ, ◌≤◌, ◌<◌, length}
use Rattle.std.proofs.Common.{arith}
use Rattle.diagram.specs.Node.{capacity}
use Rattle.text.specs.Text.{lines}
use Rattle.text.specs.Print.{written}
use Rattle.text.specs.Session.{at_most, empty_run}
use Rattle.text.specs.Agrees.{AgreesThroughout}
use Rattle.text.specs.Judge.{VerdictEnsures}
use Rattle.text.specs.declared.progress.SessionResult.{SessionResult}
use Rattle.text.specs.declared.ruling.VerdictResult.{VerdictResult}
use Rattle.jorehyi.specs.Words.{session_size, verdict_size, session_words, verdict_words}
use Rattle.jorehyi.specs.Export.{memory, SessionExported, VerdictExported}

module _ {text s c o w : List ℕ} where
  pub session_short : length w < session_size → SessionExported text (memory s c o w) (memory s c o w) false
  session_short h = record { short = λ _. (refl, refl); long = λ l. absurd (omega arith) }

  pub verdict_short : length w < verdict_size → VerdictExported text (memory s c o w) (memory s c o w) false
  verdict_short h = record { short = λ _. (refl, refl); long = λ l. absurd (omega arith) }

  module _ {s' c' o' w' : List ℕ} where
    pub session_exported : {r : SessionResult} → session_size ≤ length w
        → AgreesThroughout (at_most (capacity s)) (lines text) empty_run s' o o' r → w' ≡ written w 0 (session_words r)
        → SessionExported text (memory s c o w) (memory s' c' o' w') true
    session_exported {r = r} h a q = record {
      short = λ l. absurd (omega arith);
      long = λ _. (refl, record { result = r; agrees = a; words = q });
    }

    pub verdict_exported : {v : VerdictResult} → verdict_size ≤ length w → VerdictEnsures text s o o' v
        → w' ≡ written w 0 (verdict_words v) → VerdictExported text (memory s c o w) (memory s' c' o' w') true
    verdict_exported {v = v} h g q = record {
      short = λ l. absurd (omega arith);
      long = λ _. (refl, record { result = v; verdict = g; words = q });
    }
