use native.Mathlib.Omega.{arith}
use Rattle.diagram.proofs.collect.fewer.Goals as goal

pub loop-b-init : goal.loop-b-init
loop-b-init c = ((λ p. p), omega arith)

pub loop-b-smaller : goal.loop-b-smaller
loop-b-smaller c = omega arith

pub loop-b-preserved : goal.loop-b-preserved
loop-b-preserved c = ((λ p. omega arith), omega (arith, c.loop-b.invariant.1))

pub returns : goal.returns
returns c = λ p. (c.loop-b.invariant.0 p, c.loop-b.invariant.1)
