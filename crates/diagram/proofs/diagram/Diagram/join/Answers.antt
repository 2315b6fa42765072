-- The four ways out are the four cases of the tally's join.
use Rattle.diagram.specs.JoinLaws.{join_equal, normalise_allowed, join_full, join_made}
use borrow.Author.Rules.{rules}
use Rattle.diagram.proofs.diagram.Diagram.join.Goals as goal

pub returns-then-equal-clause-does : goal.returns-then-equal-clause-does
returns-then-equal-clause-does c = search (rules, join_equal)

pub normalise-x-requires : goal.normalise-x-requires
normalise-x-requires c = search (rules, normalise_allowed)

pub returns-in_err-node-clause-does : goal.returns-in_err-node-clause-does
returns-in_err-node-clause-does c = search (rules, join_full)

pub returns-clause-does : goal.returns-clause-does
returns-clause-does c = let made = c.in_ok-node.ensures.makes in search (rules, join_made, made)
