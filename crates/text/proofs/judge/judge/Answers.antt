use Rattle.std.specs.Prelude.{◌≡◌, Err}
use borrow.Author.Rules.{rules}
use Rattle.text.specs.JudgeLaws.{judge_faulty}
use Rattle.text.proofs.judge.judge.Goals as goal

pub returns-in_err-good : goal.returns-in_err-good
returns-in_err-good c =
    let checked : c.check.result ≡ Err c.in_err-good.field-0.0 = search rules in
    let fault : c.from_residual.result ≡ Err c.in_err-good.field-0.0 = search rules in
    rw fault (judge_faulty c.check.ensures checked)
