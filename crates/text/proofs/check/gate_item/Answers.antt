use Rattle.std.proofs.Common.{◌∙◌}
use Rattle.text.specs.Args.{by_count}
use Rattle.text.specs.Check.{gate_item_of}
use Rattle.text.specs.CheckLaws.{one_item_as, two_item_as}
use Rattle.text.proofs.check.gate_item.Goals as goal

pub returns-in-One : goal.returns-in-One
unfolding gate_item_of by_count
returns-in-One c = rw c.in-One.is (c.named.ensures ∙ rw c.one_qubit.ensures (one_item_as _ _ _))

pub returns-in-Two : goal.returns-in-Two
unfolding gate_item_of by_count
returns-in-Two c = rw c.in-Two.is (c.named-in-Two.ensures ∙ rw c.two_qubits.ensures (two_item_as _ _ _ _))
