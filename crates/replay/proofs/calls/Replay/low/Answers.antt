use borrow.Author.Rules.{rules}
use Rattle.diagram.specs.InvariantLaws.{read_valid, lower_allowed}
use Rattle.replay.proofs.calls.Replay.low.Goals as goal

pub depends-requires : goal.depends-requires
depends-requires c = search (rules, read_valid)

pub lower-requires : goal.lower-requires
lower-requires c = (search rules, (search (rules, read_valid), search (rules, lower_allowed)))
