use Rattle.std.specs.Prelude.{◌≡◌, is_err, true, false}
use borrow.Author.Rules.{rules}
use Rattle.text.specs.Ruling.{no_at}
use Rattle.text.specs.JudgeLaws.{first_ahead, first_refused, second_ahead, judge_ensures}
use Rattle.text.specs.declared.check.Fault.TheVariants.{Full}
use Rattle.text.proofs.judge.run.Goals as goal

pub run-requires : goal.run-requires
run-requires c =
    ((c.start.ensures.start.invariant, (c.requires.1.0, c.requires.1.1)), (first_ahead c.requires.0, search rules))

pub returns-in_err-map_err : goal.returns-in_err-map_err
returns-in_err-map_err c =
    let refused : is_err c.run.result ≡ true = search rules in
    let at : c.from_residual.result ≡ no_at Full c.run.new.self.line = search rules in
    rw (at, ← c.over-diagram.ensures.store.1)
    (first_refused c.requires.0 c.start.ensures.start c.run.ensures.runs refused)

pub second-requires : goal.second-requires
second-requires c =
    let k = c.run.ensures.text in
    let w = c.run.ensures.runs in
    let accepted : is_err c.run.result ≡ false = search rules in (
      (w.invariant, rw k.same_qubits (c.requires.1.0, c.requires.1.1)),
      rw (k.same_text, k.same_qubits) (second_ahead c.requires.0 c.start.ensures.start w accepted),
    )

pub returns : goal.returns
returns c =
    let k = c.run.ensures.text in
    let accepted : is_err c.run.result ≡ false = search rules in
    rw (← c.over-diagram.ensures.store.1)
    (judge_ensures c.requires.0 c.start.ensures.start c.run.ensures.runs accepted k.engine.loans.long
    (rw (k.same_text, k.same_qubits) at c.second.ensures))
