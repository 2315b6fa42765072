use Rattle.diagram.specs.Table.{FindLoop}
use Rattle.diagram.proofs.table.find.Given as goal

abbrev pub invariant-loop-n : goal.invariant-loop-n
invariant-loop-n l = FindLoop l.s l.count l.buckets l.x l.n

abbrev pub decreases-loop-n : goal.decreases-loop-n
decreases-loop-n l = l.n
