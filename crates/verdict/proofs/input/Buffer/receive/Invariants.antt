use Rattle.verdict.specs.Input.{KeepsBuffer, ReadsMore, Taken}
use Rattle.verdict.proofs.input.Buffer.receive.Given as goal

abbrev pub invariant-loop : goal.invariant-loop
invariant-loop g l =
    KeepsBuffer l.fn.self l.self
    × (ReadsMore l.fn.self l.self
    × Taken (g.R.Read.remaining l.fn.input) (g.R.Read.remaining l.input) l.self)
