use Rattle.diagram.specs.BuildLaws.{bits_below_fits, bits_below_assign}
use borrow.Author.Rules.{rules}
use Rattle.diagram.proofs.build.with_bit.Goals as goal

pub overflow_add-result : goal.overflow_add-result
overflow_add-result c = search (rules, bits_below_fits)

pub returns : goal.returns
returns c = search (rules, bits_below_assign)
