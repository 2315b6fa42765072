use native.Mathlib.Omega.{arith}
use Rattle.diagram.specs.CollectLaws.{sweep_ensures}
use Rattle.diagram.proofs.collect.sweep.Goals as goal

pub compact-kept-requires : goal.compact-kept-requires
compact-kept-requires c = (
  omega (arith, c.requires.0, c.reach.auto.s),
  (c.requires.1.0, rw c.reach.ensures.kept c.reach.ensures.closed),
)

pub returns : goal.returns
returns c = sweep_ensures c.requires.1.1.1 c.reach.ensures c.compact-kept.ensures c.renumber.ensures
