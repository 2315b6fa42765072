-- What the program promises of its input.
use Rattle.std.specs.Prelude.{◌≡◌, ◌≢◌, List, ℕ, length, ⊤, Option, IfSome, Result, Ok, Err}
use Rattle.stdin.specs.declared.ReadFailed.{ReadFailed}
use Rattle.text.specs.Text.{Bytes}
use Rattle.text.specs.declared.ruling.VerdictResult.{VerdictResult}
use Rattle.verdict.specs.Input.{BufferHolds, Reads}
use Rattle.verdict.specs.Outcome.{AnswerTo}
use Rattle.verdict.specs.declared.input.Buffer.{Buffer}
use Rattle.verdict.specs.declared.outcome.Unjudged.{Unjudged}
use Rattle.verdict.specs.declared.outcome.Unjudged.TheVariants.{ReadFailed as Unread}

-- Some bytes came, read after read into the buffer that was lent, emptied; it holds as many of them as fit, in order,
-- and this is the answer to them; where the last read has not said that the input has ended, nothing is answered, and
-- else reading has not failed.
pub record RunEnsures (lent a : Buffer) (s : List ℕ) (o o' : Bytes) (r : Result VerdictResult Unjudged) : Type 0 where
  pub received : Result ⊤ ReadFailed
  pub reads : Reads lent a received
  pub cut : (e : ReadFailed) → received ≡ Err e → r ≡ Err Unread
  pub whole : (u : ⊤) → received ≡ Ok u → r ≢ Err Unread
  pub came : Bytes
  pub holds : BufferHolds came a
  pub answer : AnswerTo r came (length a.text.now) s o o'

-- Where it is known what the input gives, and reading has not failed, this is the answer to all of it.
abbrev pub AnswersWhole : Option Bytes → Buffer → List ℕ → Bytes → Bytes → Result VerdictResult Unjudged → Type 0
AnswersWhole w a s o o' r = r ≢ Err Unread → IfSome w (λ xs. AnswerTo r xs (length a.text.now) s o o')
