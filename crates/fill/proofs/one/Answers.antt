use borrow.Author.Rules.{rules}
use Rattle.fill.specs.FillLaws.{invariant_attempted}
use Rattle.fill.proofs.one.Goals as goal

pub returns : goal.returns
returns c =
    let a = c.attempt.ensures in
    let met = a.met.met in
    invariant_attempted c.attempt.result c.requires.0 (search (rules, met)) (search (rules, met)) a.ends
