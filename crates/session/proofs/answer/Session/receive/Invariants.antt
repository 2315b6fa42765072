use Rattle.std.specs.Prelude.{Ok}
use Rattle.session.specs.Answer.{memory_of, state_of, KeepsSession}
use Rattle.session.specs.Input.{ReceiveLoop, Taken}
use Rattle.session.proofs.answer.Session.receive.Given as goal

abbrev pub invariant-loop : goal.invariant-loop
invariant-loop g l =
    ReceiveLoop (memory_of l.initial.self) (state_of g.W.Output.outcomes l.initial.self)
    (memory_of l.self) (state_of g.W.Output.outcomes l.self)
    × (KeepsSession l.initial.self l.self
    × Taken (g.R.Read.remaining l.initial.input) (g.R.Read.remaining l.input)
    (memory_of l.initial.self) (state_of g.W.Output.outcomes l.initial.self)
    (memory_of l.self) (state_of g.W.Output.outcomes l.self) (Ok tt))
