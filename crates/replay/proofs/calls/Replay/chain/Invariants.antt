use Rattle.replay.specs.Replay.{IsReplay}
use Rattle.replay.proofs.calls.Replay.chain.Given as goal

abbrev pub invariant-loop-q : goal.invariant-loop-q
invariant-loop-q l = IsReplay l.self
