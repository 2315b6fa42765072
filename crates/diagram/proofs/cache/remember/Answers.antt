use Rattle.diagram.specs.CacheLaws.{remember_written}
use native.Mathlib.Omega.{arith}
use Rattle.diagram.proofs.cache.remember.Goals as goal

pub returns : goal.returns
returns c = remember_written _ c.place-at.result _ _ _ _ (omega arith) c.requires.0 c.requires.1 c.packed.ensures
