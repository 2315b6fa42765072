-- Found, full, or one node more: one law for each.
use Rattle.diagram.specs.MakeLaws.{state_sound_table, make_none, make_old, make_no_room, make_new}
use borrow.Author.Rules.{rules}
use Rattle.diagram.proofs.diagram.Diagram.make.Goals as goal

pub returns-then-room-eq0-clause-makes : goal.returns-then-room-eq0-clause-makes
returns-then-room-eq0-clause-makes c = search (rules, make_none)

pub find-requires : goal.find-requires
find-requires c = search (rules, state_sound_table)

pub returns-in-Some-clause-makes : goal.returns-in-Some-clause-makes
returns-in-Some-clause-makes c = search (rules, make_old)

pub returns-then-room-count-clause-makes : goal.returns-then-room-count-clause-makes
returns-then-room-count-clause-makes c = search (rules, make_no_room)

pub append-requires : goal.append-requires
append-requires c = (search (rules, state_sound_table), search rules)

pub returns-clause-makes : goal.returns-clause-makes
returns-clause-makes c = search (rules, make_new)
