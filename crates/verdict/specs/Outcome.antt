-- How the program ends: the answer is about a whole text, or there is none.
use Rattle.std.specs.Prelude.{◌≡◌, ◌≢◌, List, ℕ, ◌++◌, ◌≤◌, ◌<◌, length, codes, decimal, Result, Ok, Err}
use Rattle.text.specs.Text.{Bytes}
use Rattle.text.specs.Judge.{VerdictEnsures}
use Rattle.text.specs.declared.ruling.VerdictResult.{VerdictResult}
use Rattle.verdict.specs.Input.{BufferHolds}
use Rattle.verdict.specs.declared.input.Buffer.{Buffer}
use Rattle.verdict.specs.declared.outcome.Unjudged.{Unjudged}
use Rattle.verdict.specs.declared.outcome.Unjudged.TheVariants.{TooLong, ReadFailed}

-- why there is no answer, as the program says it: 1 MiB is the room that it lends
abbrev pub printed : Unjudged → Bytes
printed TooLong = codes "the text is longer than " ++ decimal 1048576 ++ codes " bytes"
printed ReadFailed = codes "reading failed"

-- What came fits, and the output is document 01's answer to it; or it does not fit, or reading failed, and nothing is
-- answered.
abbrev pub AnswerTo : Result VerdictResult Unjudged → Bytes → ℕ → List ℕ → Bytes → Bytes → Type 0
AnswerTo (Ok v) came room s o o' = (length came ≤ room) × VerdictEnsures came s o o' v
AnswerTo (Err TooLong) came room s o o' = (room < length came) × (o' ≡ o)
AnswerTo (Err ReadFailed) came room s o o' = o' ≡ o

-- the input has ended, whatever came
pub record JudgeEnsures (a : Buffer) (s : List ℕ) (o o' : Bytes) (r : Result VerdictResult Unjudged) : Type 0 where
  pub on : (came : Bytes) → BufferHolds came a → AnswerTo r came (length a.text.now) s o o'
  pub read : r ≢ Err ReadFailed
