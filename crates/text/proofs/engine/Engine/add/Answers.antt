-- The step is its operation (the same in add, cont, lower, lower_set and apply, whose goals differ in their names).
use borrow.Author.Rules.{rules}
use Rattle.text.specs.EngineLaws.{sets_by_cached}
use Rattle.text.proofs.engine.Engine.add.Goals as goal

pub returns-clause-sets : goal.returns-clause-sets
returns-clause-sets c =
    let met = c.set.ensures.sets.met.met in sets_by_cached c.requires.0 c.set.ensures.sets (search (rules, met))
