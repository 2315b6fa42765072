use Rattle.std.proofs.Common.{◌-◌}
use Rattle.diagram.specs.Store.{level_of}
use Rattle.diagram.specs.Value.{ValueLoop}
use Rattle.diagram.specs.Tensor.{index_count}
use Rattle.diagram.proofs.value.value.Given as goal

abbrev pub invariant-loop-e : goal.invariant-loop-e
invariant-loop-e l = ValueLoop l.store l.s l.initial.e l.v l.e

abbrev pub decreases-loop-e : goal.decreases-loop-e
decreases-loop-e l = index_count - level_of l.store l.s l.e
