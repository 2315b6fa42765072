-- The six fields, from the last to the first.
use Rattle.diagram.specs.NodeLaws.{written_by}
use Rattle.diagram.proofs.node.write.Goals as goal

pub returns : goal.returns
returns c = written_by _ _ _ c.set.ensures c.set-2.ensures c.set-3.ensures c.set-4.ensures c.set-5.ensures
    c.set-6.ensures
