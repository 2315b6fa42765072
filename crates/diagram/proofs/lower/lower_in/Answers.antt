use borrow.Author.Rules.{rules}
use Rattle.diagram.specs.LowerLaws.{lower_in_some, lower_in_member, lower_in_other}
use Rattle.diagram.proofs.lower.lower_in.Goals as goal

pub overflow_sub-result : goal.overflow_sub-result
overflow_sub-result c = search (rules, lower_in_some)

pub returns-then-has : goal.returns-then-has
returns-then-has c = search (rules, lower_in_member)

pub returns-else-has : goal.returns-else-has
returns-else-has c = search (rules, lower_in_other)
