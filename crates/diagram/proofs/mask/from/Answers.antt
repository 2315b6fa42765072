use Rattle.diagram.specs.MaskLaws.{from_is}
use borrow.Author.Rules.{rules}
use Rattle.diagram.proofs.mask.from.Goals as goal

pub returns : goal.returns
returns c = search (rules, from_is)
