use borrow.Author.Rules.{rules}
use Rattle.diagram.specs.InvariantLaws.{invariant_collectable, invariant_clear}
use Rattle.text.specs.PerformLaws.{drop_collect_ensures}
use Rattle.text.proofs.engine.Engine.drop_collect.Goals as goal

pub collect-requires : goal.collect-requires
collect-requires c = search (rules, invariant_collectable, invariant_clear)

pub returns-clause-drops : goal.returns-clause-drops
returns-clause-drops c = search (rules, drop_collect_ensures)
