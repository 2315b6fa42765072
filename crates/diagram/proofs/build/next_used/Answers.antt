use Rattle.diagram.specs.BuildLaws.{none_used_ordered}
use Rattle.diagram.proofs.build.next_used.Goals as goal

pub returns : goal.returns
returns c = none_used_ordered c.qubits-a.ensures.first c.qubits-a.ensures.second c.min.ensures c.max.ensures
    c.owned.ensures
