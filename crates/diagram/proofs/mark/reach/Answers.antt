use borrow.Author.Rules.{rules}
use Rattle.diagram.specs.MarkLaws.{cleared_marks, exactly_none, reach_ensures}
use Rattle.diagram.proofs.mark.reach.Goals as goal

pub spread-requires : goal.spread-requires
spread-requires c =
    let rooted = c.roots.ensures.on _ (exactly_none (cleared_marks c.clear.ensures)) in
    (search rules, rw rooted.kept c.requires.1.0)

pub returns : goal.returns
returns c =
    let rooted = c.roots.ensures.on _ (exactly_none (cleared_marks c.clear.ensures)) in
    reach_ensures c.requires.1.1.valid rooted c.spread.ensures
