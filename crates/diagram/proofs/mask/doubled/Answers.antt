use Rattle.diagram.specs.MaskLaws.{doubled_start, doubled_on}
use borrow.Author.Rules.{rules}
use Rattle.diagram.proofs.mask.doubled.Goals as goal

pub loop-init : goal.loop-init
loop-init c = doubled_start

pub loop-preserved : goal.loop-preserved
loop-preserved c = search (rules, doubled_on)
