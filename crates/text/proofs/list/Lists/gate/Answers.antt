use Rattle.std.specs.Prelude.{refl}
use Rattle.text.specs.ListLaws.{gate_ensures, line_is_gate}
use Rattle.text.proofs.list.Lists.gate.Goals as goal

pub gate-g-requires : goal.gate-g-requires
gate-g-requires c =
    rw c.next_line-line.ensures.text.same_qubits (line_is_gate c.requires.1.0 c.next_line-line.ensures.passes.is)

pub returns-clause-runs : goal.returns-clause-runs
returns-clause-runs c =
    let p = c.next_line-line.ensures.passes in
    let k = c.next_line-line.ensures.text in
    gate_ensures c.requires.1.0.ahead (rw (p.line, p.place) refl) p.is (rw k.same_qubits at c.gate-g.ensures)
    (rw p.same_engine at c.perform_gate.ensures.performs)
