-- The walk along x's chain: numbers fall along it, and no node above the place reached is x.
use Rattle.diagram.specs.TableLaws.{walk_start, walk_on, walk_less}
use borrow.Author.Rules.{rules}
use Rattle.diagram.proofs.table.find.Goals as goal

pub loop-n-init : goal.loop-n-init
loop-n-init c = search (rules, walk_start)

pub loop-n-smaller : goal.loop-n-smaller
loop-n-smaller c = search (rules, walk_less)

pub loop-n-preserved : goal.loop-n-preserved
loop-n-preserved c = search (rules, walk_on)
