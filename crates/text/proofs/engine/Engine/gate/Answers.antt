use borrow.Author.Rules.{rules}
use Rattle.text.specs.EngineLaws.{sets_by_step}
use Rattle.text.specs.RespondLaws.{responds_gate}
use Rattle.text.proofs.engine.Engine.gate.Goals as goal

pub returns-clause-responds : goal.returns-clause-responds
returns-clause-responds c =
    let k = c.set.ensures.sets in
    let met = k.met.met in
    responds_gate (sets_by_step c.requires.0 k (search (rules, met)) (search (rules, met)))
