-- A turn goes down to lower parts, and through the functions of the cycle in this order.
use Rattle.std.proofs.Common.{◌+◌, ◌*◌}
use Rattle.diagram.specs.Operation.{edges_measure}
use Rattle.diagram.proofs.diagram.Diagram.+lows.Given as goal

abbrev pub decreases-lows : goal.decreases-lows
decreases-lows l = 4 * edges_measure l.self.now.store.now l.self.now.state l.a l.a + 3

abbrev pub decreases-lows_cached : goal.decreases-lows_cached
decreases-lows_cached l = 4 * edges_measure l.self.now.store.now l.self.now.state l.a l.a + 2

abbrev pub decreases-lows_high : goal.decreases-lows_high
decreases-lows_high l = 4 * edges_measure l.self.now.store.now l.self.now.state l.a l.a

abbrev pub decreases-lows_split : goal.decreases-lows_split
decreases-lows_split l = 4 * edges_measure l.self.now.store.now l.self.now.state l.a l.a + 1
