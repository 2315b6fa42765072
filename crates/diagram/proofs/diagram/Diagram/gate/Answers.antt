use Rattle.diagram.specs.BuildLaws.{bits_below_first, gate_whole}
use borrow.Author.Rules.{rules}
use Rattle.diagram.proofs.diagram.Diagram.gate.Goals as goal

pub part-requires : goal.part-requires
part-requires c = search (rules, bits_below_first)

pub returns-clause-does : goal.returns-clause-does
returns-clause-does c = search (rules, gate_whole)
