use native.Mathlib.Omega.{arith}
use mathlib.Core.Path.{refl}
use Rattle.diagram.specs.MarkLaws.{roots_start, roots_on, roots_end}
use Rattle.diagram.specs.RegistersLaws.{edge_valid}
use Rattle.diagram.proofs.mark.roots.Goals as goal

pub loop-r-init : goal.loop-r-init
loop-r-init c = roots_start _ _ _

pub root-requires : goal.root-requires
root-requires c = λ e q. (let v = edge_valid _ _ _ c.requires.1.valid q in omega (arith, c.requires.0, v.within))

pub loop-r-preserved : goal.loop-r-preserved
loop-r-preserved c = roots_on _ (omega (arith, c.requires.1.sixteen)) refl c.root.ensures c.loop-r.invariant

pub returns : goal.returns
returns c = roots_end (omega (arith, c.requires.1.sixteen)) c.loop-r.invariant
