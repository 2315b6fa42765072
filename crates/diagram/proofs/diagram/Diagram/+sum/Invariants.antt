-- A turn goes down to lower parts, and through the functions of the cycle in this order.
use Rattle.std.proofs.Common.{◌+◌, ◌*◌}
use Rattle.diagram.specs.Operation.{edges_measure}
use Rattle.diagram.proofs.diagram.Diagram.+sum.Given as goal

abbrev pub decreases-sum : goal.decreases-sum
decreases-sum l = 4 * edges_measure l.self.now.store.now l.self.now.state l.a l.b + 3

abbrev pub decreases-sum_cached : goal.decreases-sum_cached
decreases-sum_cached l = 4 * edges_measure l.self.now.store.now l.self.now.state l.a l.b + 2

abbrev pub decreases-sum_high : goal.decreases-sum_high
decreases-sum_high l = 4 * edges_measure l.self.now.store.now l.self.now.state l.a l.b

abbrev pub decreases-sum_split : goal.decreases-sum_split
decreases-sum_split l = 4 * edges_measure l.self.now.store.now l.self.now.state l.a l.b + 1
