use Rattle.std.specs.Prelude.{◌≡◌}
use Rattle.std.proofs.Common.{rules, ◌∙◌}
use Rattle.text.specs.Args.{by_count}
use Rattle.text.specs.Gate.{one_qubit_call, two_qubit_call}
use Rattle.text.specs.Names.{one_qubit, two_qubits}
use Rattle.text.specs.GateLaws.{one_named, two_named}
use Rattle.text.proofs.gate.make.Goals as goal

pub returns-in_ok-check_register-in-One : goal.returns-in_ok-check_register-in-One
unfolding by_count
returns-in_ok-check_register-in-One c =
    let is : c.named.result ≡ one_qubit_call c.args.d c.in-One.q (one_qubit c.args.name.now c.in-One.q) =
    c.named.ensures ∙ rw c.one_qubit.ensures (one_named _ _ _) in
    search rules

pub returns-in_ok-check_register-in-Two : goal.returns-in_ok-check_register-in-Two
unfolding by_count
returns-in_ok-check_register-in-Two c =
    let is : c.named-in-Two.result
    ≡ two_qubit_call c.args.d c.in-Two.p c.in-Two.q (two_qubits c.args.name.now c.in-Two.p c.in-Two.q) =
    c.named-in-Two.ensures ∙ rw c.two_qubits.ensures (two_named _ _ _ _) in
    search rules
