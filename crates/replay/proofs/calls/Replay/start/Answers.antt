use borrow.Author.Rules.{rules}
use Rattle.diagram.specs.InvariantLaws.{invariant_start}
use Rattle.replay.proofs.calls.Replay.start.Goals as goal

pub returns-clause-replay : goal.returns-clause-replay
returns-clause-replay c = search (rules, invariant_start)
