-- The qubits after q first; then q's three joins.
use borrow.Author.Rules.{rules}
use Rattle.diagram.specs.UnitLaws.{unit_leaf, unit_full, unit_ready, unit_refines}
use Rattle.diagram.proofs.diagram.Diagram.+unit_from.Goals as goal

pub returns-then-q-n-clause-does : goal.returns-then-q-n-clause-does
returns-then-q-n-clause-does t c = search (rules, unit_leaf)

pub returns-in_err-e-clause-does : goal.returns-in_err-e-clause-does
returns-in_err-e-clause-does t c = search (rules, unit_full)

pub onto-requires : goal.onto-requires
onto-requires t c =
    unit_ready _ _ c.if-q-n.false c.requires.1.0 c.requires.1.1 c.in_ok-e.ensures.does

pub returns-clause-does : goal.returns-clause-does
returns-clause-does t c = search (rules, unit_refines)
