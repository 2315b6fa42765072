use borrow.Author.Rules.{rules}
use Rattle.diagram.specs.InvariantLaws.{read_valid}
use Rattle.replay.proofs.calls.Replay.values.Goals as goal

pub values_at-requires : goal.values_at-requires
values_at-requires c = search (rules, read_valid)
