use borrow.Author.Rules.{rules}
use Rattle.text.specs.EngineLaws.{sets_by_constant}
use Rattle.text.specs.RespondLaws.{responds_put}
use Rattle.text.proofs.engine.Engine.put.Goals as goal

pub returns-clause-responds : goal.returns-clause-responds
returns-clause-responds c =
    let k = c.set.ensures.sets in
    let met = k.met.met in
    responds_put (sets_by_constant c.requires.0 k c.requires.1.1 (search (rules, met)) (search (rules, met)))
