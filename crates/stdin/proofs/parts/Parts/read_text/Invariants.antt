use Rattle.stdin.specs.Parts.{left, KeepsPart, TextComes}
use Rattle.stdin.proofs.parts.Parts.read_text.Given as goal

abbrev pub invariant-loop : goal.invariant-loop
invariant-loop g l =
    KeepsPart l.fn.self l.self
    × TextComes l.end (left g.R.Read.remaining l.fn.self) (left g.R.Read.remaining l.self) l.fn.text l.text l.len
