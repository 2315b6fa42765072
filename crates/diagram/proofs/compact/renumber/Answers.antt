use mathlib.Core.Path.{sym, ◌∙◌}
use native.Mathlib.Omega.{arith}
use Rattle.diagram.specs.RegistersLaws.{edge_valid}
use Rattle.diagram.specs.CompactRenumberLaws.{renumber_start, renumber_on, renumber_ahead, renumber_end}
use Rattle.diagram.proofs.compact.renumber.Goals as goal

pub loop-r-init : goal.loop-r-init
loop-r-init c = renumber_start _ _

pub moved-requires : goal.moved-requires
moved-requires c = λ e q.
    let v = edge_valid _ _ _ c.requires.1.valid (sym (renumber_ahead _ _ _ _ c.loop-r.invariant) ∙ q) in
    omega (arith, c.requires.0, v.within)

pub loop-r-preserved : goal.loop-r-preserved
loop-r-preserved c =
    renumber_on _ _ _ _ _ (omega (arith, c.requires.1.sixteen)) c.loop-r.invariant c.moved.ensures

pub returns : goal.returns
returns c = c.loop-r.invariant ∙ renumber_end _ _ _ (omega (arith, c.requires.1.sixteen))
