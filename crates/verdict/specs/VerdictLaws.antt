-- The whole input, from its reads and its end; the answer inside the output.
use Rattle.std.specs.Prelude.{◌≡◌, refl, List, ℕ, ◌≤◌, length, ⊤, Option, Result, Ok, Err, IfOk}
use Rattle.std.proofs.KnownBytes.{Consumes-whole}
use Rattle.std.specs.Io.KnownBytes.{IsAtEnd}
use Rattle.stdin.specs.declared.ReadFailed.{ReadFailed}
use Rattle.std.proofs.Common.{arith}
use Rattle.text.specs.Text.{Bytes}
use Rattle.text.specs.JudgeLaws.{verdict_within}
use Rattle.text.specs.declared.ruling.VerdictResult.{VerdictResult}
use Rattle.verdict.specs.Input.{Reads, Taken}
use Rattle.verdict.specs.InputLaws.{reads_held}
use Rattle.verdict.specs.Outcome.{AnswerTo, JudgeEnsures}
use Rattle.verdict.specs.Verdict.{RunEnsures, AnswersWhole}
use Rattle.verdict.specs.declared.input.Buffer.{Buffer}
use Rattle.verdict.specs.declared.outcome.Unjudged.{Unjudged}
use Rattle.verdict.specs.declared.outcome.Unjudged.TheVariants.{ReadFailed as Unread}

pub run_judged : {lent a : Buffer} {s : List ℕ} {o o' : Bytes} {u : ⊤} {r : Result VerdictResult Unjudged}
    → Reads lent a (Ok u) → JudgeEnsures a s o o' r
    → RunEnsures lent a s o o' r
run_judged {u = u} w j =
    let v = reads_held w in
    record {
      received = Ok u;
      reads = w;
      cut = λ e q. absurd (let i : ◌≡◌ {A = ℕ} 0 1 = cc in omega arith);
      whole = λ x q. j.read;
      came = v.came;
      holds = v.holds;
      answer = j.on v.came v.holds;
    }

pub run_cut : {lent a : Buffer} {s : List ℕ} {o : Bytes} {e : ReadFailed} {r : Result VerdictResult Unjudged}
    → r ≡ Err Unread → Reads lent a (Err e)
    → RunEnsures lent a s o o r
run_cut {e = e} p w =
    let v = reads_held w in
    rw p (record {
      received = Err e;
      reads = w;
      cut = λ x q. refl;
      whole = λ u q. absurd (let i : ◌≡◌ {A = ℕ} 0 1 = cc in omega arith);
      came = v.came;
      holds = v.holds;
      answer = refl;
    })

pub run_whole : {w w' : Option Bytes} {a : Buffer} {s : List ℕ} {o o' : Bytes} {r : Result VerdictResult Unjudged}
    → Taken w w' a → IsAtEnd w' → JudgeEnsures a s o o' r
    → AnswersWhole w a s o o' r
run_whole {w} {w'} {a} {s} {o} {o'} {r} v e j h =
    Consumes-whole w w' v.came (λ xs. AnswerTo r xs (length a.text.now) s o o') v.consumes e (j.on v.came v.holds)

pub run_within : {lent a : Buffer} {s : List ℕ} {o o' : Bytes} (r : Result VerdictResult Unjudged)
    → RunEnsures lent a s o o' r
    → IfOk r (λ v. v.bytes ≤ length o')
run_within (Ok v) w = verdict_within w.answer.1
run_within (Err e) w = tt
