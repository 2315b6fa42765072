use Rattle.fill.specs.FillLaws.{leaf_joinable}
use Rattle.fill.proofs.leaf.Goals as goal

pub join-requires : goal.join-requires
join-requires c = (c.requires.0, leaf_joinable c.args.d.now c.requires.0 c.requires.1)
