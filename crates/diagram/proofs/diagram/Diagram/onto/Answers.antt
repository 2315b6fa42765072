-- The first join builds the low part, the second the high part, and `onto_joins` says that the third joins them.
use Rattle.diagram.specs.UnitLaws.{first_joinable, first_full, first_sound, second_joinable, second_full}
use Rattle.diagram.specs.UnitLaws.{onto_joins}
use borrow.Author.Rules.{rules}
use Rattle.diagram.proofs.diagram.Diagram.onto.Goals as goal

pub join-requires : goal.join-requires
join-requires c = search (rules, first_joinable)

pub returns-in_err-a-clause-does : goal.returns-in_err-a-clause-does
returns-in_err-a-clause-does c = search (rules, first_full)

pub join-requires-2 : goal.join-requires-2
join-requires-2 c =
    let a = c.in_ok-a.ensures.does in (first_sound _ _ _ _ c.requires a, second_joinable _ _ _ _ c.requires a)

pub returns-in_err-b-clause-does : goal.returns-in_err-b-clause-does
returns-in_err-b-clause-does c = search (rules, second_full)

pub join-requires-3 : goal.join-requires-3
join-requires-3 c =
    let joins = onto_joins _ _ _ _ c.requires c.in_ok-a.ensures.does c.in_ok-b.ensures.does in
    (joins.sound, joins.joinable)

pub returns-clause-does : goal.returns-clause-does
returns-clause-does c =
    (onto_joins _ _ _ _ c.requires c.in_ok-a.ensures.does c.in_ok-b.ensures.does).does _ _ c.join-3.result
    c.join-3.ensures.does
