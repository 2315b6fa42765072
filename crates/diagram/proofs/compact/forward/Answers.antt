use Rattle.diagram.specs.CompactLaws.{forward_zero, forward_node}
use native.Mathlib.Omega.{arith}
use mathlib.Core.Path.{sym, ◌∙◌}
use Rattle.diagram.proofs.compact.forward.Goals as goal

pub returns-then-c-eq0 : goal.returns-then-c-eq0
returns-then-c-eq0 c = rw c.if-c-eq0.true (sym (forward_zero _), omega arith)

pub returns : goal.returns
returns c = (c.get.ensures.0 ∙ sym (forward_node _ _ c.if-c-eq0.false), c.get.ensures.1)
