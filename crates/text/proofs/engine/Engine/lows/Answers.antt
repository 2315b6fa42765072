use borrow.Author.Rules.{rules}
use Rattle.text.specs.OperateLaws.{unless_refused}
use Rattle.text.proofs.engine.Engine.lows.Goals as goal

pub returns-then-clash-clause-sets : goal.returns-then-clash-clause-sets
returns-then-clash-clause-sets c = search (rules, unless_refused)
