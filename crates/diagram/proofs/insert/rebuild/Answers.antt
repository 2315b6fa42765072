-- The heads are emptied, and the nodes linked in rising order, as they were made.
use Rattle.diagram.specs.InsertLaws.{cleared_heads, rebuild_start, rebuild_on, rebuild_end}
use borrow.Author.Rules.{rules}
use Rattle.diagram.proofs.insert.rebuild.Goals as goal

pub loop-m-init : goal.loop-m-init
loop-m-init c = search (rules, rebuild_start, cleared_heads)

pub loop-m-preserved : goal.loop-m-preserved
loop-m-preserved c = search (rules, rebuild_on)

pub returns : goal.returns
returns c = search (rules, rebuild_end, cleared_heads)
