use borrow.Author.Rules.{rules}
use Rattle.replay.specs.ReplayLaws.{invariant_cleared}
use Rattle.replay.proofs.calls.Replay.first_pair.Goals as goal

pub returns : goal.returns
returns c = search (rules, invariant_cleared)
