use borrow.Author.Rules.{rules}
use Rattle.diagram.specs.InvariantLaws.{invariant_clear}
use Rattle.replay.proofs.calls.Replay.contract_gate.Goals as goal

pub returns : goal.returns
returns c = search (rules, invariant_clear)
