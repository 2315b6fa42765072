use Rattle.diagram.specs.MaskLaws.{without_some, without_is, without_none}
use borrow.Author.Rules.{rules}
use Rattle.diagram.proofs.mask.without.Goals as goal

pub overflow_sub-result : goal.overflow_sub-result
overflow_sub-result c = search (rules, without_some)

pub returns-then-has : goal.returns-then-has
returns-then-has c = search (rules, without_is)

pub returns : goal.returns
returns c = search (rules, without_none)
