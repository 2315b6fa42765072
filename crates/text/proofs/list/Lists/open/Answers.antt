use Rattle.std.specs.Prelude.{refl}
use Rattle.text.specs.ListLaws.{open_ensures}
use Rattle.text.proofs.list.Lists.open.Goals as goal

pub returns-clause-opens : goal.returns-clause-opens
returns-clause-opens c =
    let p = c.next_line.ensures.passes in
    let k = c.next_line.ensures.text in
    open_ensures c.requires.1.0 (rw (p.line, p.place) refl)
    (rw (p.same_engine, k.same_qubits) at c.perform.ensures.performs)
