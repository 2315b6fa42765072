use Rattle.diagram.specs.MaskLaws.{factor_none, factor_is}
use borrow.Author.Rules.{rules}
use Rattle.diagram.proofs.mask.factor.Goals as goal

pub returns-then-b-eq0 : goal.returns-then-b-eq0
returns-then-b-eq0 c = search (rules, factor_none)

pub returns : goal.returns
returns c = search (rules, factor_is)
