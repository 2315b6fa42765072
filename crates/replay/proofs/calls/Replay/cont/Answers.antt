use borrow.Author.Rules.{rules}
use Rattle.diagram.specs.InvariantLaws.{read_valid}
use Rattle.replay.proofs.calls.Replay.cont.Goals as goal

pub multiply-requires : goal.multiply-requires
multiply-requires c = search (rules, read_valid)
