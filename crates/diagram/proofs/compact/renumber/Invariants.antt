use mathlib.Core.Path.{◌≡◌}
use Rattle.diagram.specs.Compact.{forward, renumber_first}
use Rattle.diagram.proofs.compact.renumber.Given as goal

abbrev pub invariant-loop-r : goal.invariant-loop-r
invariant-loop-r l = l.r-items ≡ renumber_first (forward l.s) l.r-index l.fn.registers.all
