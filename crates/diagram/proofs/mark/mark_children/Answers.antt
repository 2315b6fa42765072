use Rattle.diagram.specs.MarkLaws.{children_of_unmarked, children_of_marked}
use Rattle.diagram.proofs.mark.mark_children.Goals as goal

pub returns-then-get-eq0 : goal.returns-then-get-eq0
returns-then-get-eq0 c = children_of_unmarked c.get.ensures.0
    c.requires.0.first c.requires.1.0 c.if-get-eq0.true

pub returns : goal.returns
returns c = children_of_marked c.get.ensures.0 c.requires.0.first c.requires.1.0
    c.if-get-eq0.false c.read-x.ensures.0
    c.mark.ensures c.mark-2.ensures
