use borrow.Author.Rules.{rules}
use Rattle.text.specs.EngineLaws.{attempt_loans, attempt_full, attempt_edge}
use Rattle.text.proofs.engine.Engine.set.Goals as goal

pub returns-in_default-clause-loans : goal.returns-in_default-clause-loans
returns-in_default-clause-loans g c =
    let kept = attempt_loans c.attempt.ensures c.requires.1.1 in search (rules, kept)

pub returns-in_default-clause-sets : goal.returns-in_default-clause-sets
returns-in_default-clause-sets g c = attempt_full c.attempt.ensures (search rules) (search rules) (search rules)

pub returns-clause-loans : goal.returns-clause-loans
returns-clause-loans g c = let kept = attempt_loans c.attempt.ensures c.requires.1.1 in search (rules, kept)

pub returns-clause-sets : goal.returns-clause-sets
returns-clause-sets g c = attempt_edge c.attempt.ensures (search rules) c.in-Ok.is (search rules) (search rules)
