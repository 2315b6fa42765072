use Rattle.diagram.specs.MarkLaws.{mark_ensures}
use Rattle.diagram.proofs.mark.mark.Goals as goal

pub returns : goal.returns
returns c = rw c.set.ensures
    (mark_ensures _ _ c.requires
    c.if-c-eq0.false)
