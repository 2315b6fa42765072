-- A turn goes down to lower parts, and through the functions of the cycle in this order.
use Rattle.std.proofs.Common.{◌+◌, ◌*◌}
use Rattle.diagram.specs.Operation.{edges_measure}
use Rattle.diagram.proofs.diagram.Diagram.+contract.Given as goal

abbrev pub decreases-contract : goal.decreases-contract
decreases-contract l = 4 * edges_measure l.self.now.store.now l.self.now.state l.a l.b + 3

abbrev pub decreases-contract_cached : goal.decreases-contract_cached
decreases-contract_cached l = 4 * edges_measure l.self.now.store.now l.self.now.state l.a l.b + 2

abbrev pub decreases-contract_high : goal.decreases-contract_high
decreases-contract_high l = 4 * edges_measure l.self.now.store.now l.self.now.state l.a l.b

abbrev pub decreases-contract_split : goal.decreases-contract_split
decreases-contract_split l = 4 * edges_measure l.self.now.store.now l.self.now.state l.a l.b + 1
