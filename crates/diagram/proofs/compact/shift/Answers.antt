use Rattle.diagram.specs.CompactLaws.{shift_by}
use Rattle.diagram.proofs.compact.shift.Goals as goal

pub returns : goal.returns
returns c = shift_by _ _ _
    c.read-x.ensures.0 c.read-x.ensures.1
    c.forward-low.ensures.0 c.forward-low.ensures.1
    c.forward-high.ensures.0
    c.forward-high.ensures.1
    c.write.ensures c.set.ensures
