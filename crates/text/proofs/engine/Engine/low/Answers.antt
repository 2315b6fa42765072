use borrow.Author.Rules.{rules}
use Rattle.diagram.specs.InvariantLaws.{lower_allowed}
use Rattle.text.specs.OperateLaws.{unless_refused}
use Rattle.text.proofs.engine.Engine.low.Goals as goal

pub returns-then-depends-clause-sets : goal.returns-then-depends-clause-sets
returns-then-depends-clause-sets c = search (rules, unless_refused)

pub lower-requires : goal.lower-requires
lower-requires c = (search rules, (search rules, (search rules, search (rules, lower_allowed))))
