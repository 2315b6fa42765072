use Rattle.std.proofs.Common.{take}
use Rattle.verdict.specs.Input.{KeepsBuffer, FeedEnsures}
use Rattle.verdict.proofs.input.Buffer.feed.Given as goal

abbrev pub invariant-loop-b : goal.invariant-loop-b
invariant-loop-b l = KeepsBuffer l.fn.self l.self × FeedEnsures (take l.b-index l.part) l.fn.self l.self
