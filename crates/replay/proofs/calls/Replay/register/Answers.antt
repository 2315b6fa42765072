use borrow.Author.Rules.{rules}
use Rattle.diagram.specs.InvariantLaws.{read_valid}
use Rattle.replay.proofs.calls.Replay.register.Goals as goal

pub line-requires : goal.line-requires
line-requires c = search (rules, read_valid)
