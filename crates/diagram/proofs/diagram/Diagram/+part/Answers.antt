-- The part is built low before high; what is left is a join, and the last two goals are told by `gate_joins` from both
-- answers.
use borrow.Author.Rules.{rules}
use Rattle.diagram.specs.BuildLaws.{bits_below_low, bits_below_high, bits_below_next, gate_leaf, gate_low_full}
use Rattle.diagram.specs.BuildLaws.{gate_sound, gate_high_full, gate_joins}
use Rattle.diagram.proofs.diagram.Diagram.+part.Goals as goal

pub returns-then-k-eq-INDICES-clause-does : goal.returns-then-k-eq-INDICES-clause-does
returns-then-k-eq-INDICES-clause-does t c = search (rules, gate_leaf)

pub part-requires : goal.part-requires
part-requires t c = search (rules, bits_below_low, bits_below_next)

pub returns-in_err-l-clause-does : goal.returns-in_err-l-clause-does
returns-in_err-l-clause-does t c = search (rules, gate_low_full)

pub part-requires-2 : goal.part-requires-2
part-requires-2 t c =
    let prefix = c.requires.1.1 in
    let sound = gate_sound _ _ _ c.if-k-eq-INDICES.false prefix c.next_used-n.ensures c.in_ok-l.ensures.does in
    let high = bits_below_next (bits_below_high prefix c.if-k-eq-INDICES.false c.with_bit-w.ensures)
    c.next_used-n.ensures in
    search (rules, sound, high)

pub returns-in_err-h-clause-does : goal.returns-in_err-h-clause-does
returns-in_err-h-clause-does t c = search (rules, gate_high_full)

pub join-requires : goal.join-requires
join-requires t c =
    let joins = gate_joins _ _ _ c.if-k-eq-INDICES.false c.requires.1.1 c.next_used-n.ensures
    c.in_ok-l.ensures.does c.with_bit-w.ensures c.in_ok-h.ensures.does in
    (joins.sound, joins.joinable)

pub returns-clause-does : goal.returns-clause-does
returns-clause-does t c =
    let joins = gate_joins _ _ _ c.if-k-eq-INDICES.false c.requires.1.1 c.next_used-n.ensures
    c.in_ok-l.ensures.does c.with_bit-w.ensures c.in_ok-h.ensures.does in
    joins.does _ _ c.join.result c.join.ensures.does
