use Rattle.std.specs.Prelude.{◌≡◌, is_err, true, false}
use borrow.Author.Rules.{rules}
use Rattle.text.specs.Ruling.{no_at}
use Rattle.text.specs.JudgeLaws.{second_refused, second_ensures}
use Rattle.text.specs.declared.check.Fault.TheVariants.{Full}
use Rattle.text.proofs.judge.second.Goals as goal

pub returns-in_err-map_err : goal.returns-in_err-map_err
returns-in_err-map_err c =
    let refused : is_err c.run.result ≡ true = search rules in
    let at : c.from_residual.result ≡ no_at Full c.run.new.self.line = search rules in
    rw at (second_refused c.run.ensures.runs refused)

pub returns : goal.returns
returns c =
    let accepted : is_err c.run.result ≡ false = search rules in
    second_ensures c.run.ensures.runs c.run.ensures.text.engine.loans.long accepted
    ((c.cmp.ensures.on _).on _ c.run.ensures.runs.invariant) c.comparison_of.ensures
