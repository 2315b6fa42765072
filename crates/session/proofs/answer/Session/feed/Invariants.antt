use Rattle.std.specs.Prelude.{take, Ok}
use Rattle.session.specs.Answer.{memory_of, state_of, KeepsSession}
use Rattle.session.specs.Feed.{FeedEnsures}
use Rattle.session.proofs.answer.Session.feed.Given as goal

abbrev pub invariant-loop-b : goal.invariant-loop-b
invariant-loop-b g l =
    FeedEnsures (take l.b-index l.part) (memory_of l.initial.self)
    (state_of g.W.Output.outcomes l.initial.self) (memory_of l.self)
    (state_of g.W.Output.outcomes l.self) (Ok tt)
    × KeepsSession l.initial.self l.self
