use borrow.Author.Rules.{rules}
use Rattle.text.specs.EngineLaws.{engine_start_ensures}
use Rattle.text.proofs.engine.Engine.start.Goals as goal

pub returns-clause-start : goal.returns-clause-start
returns-clause-start c = search (rules, engine_start_ensures)
