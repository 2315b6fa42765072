use Rattle.std.specs.Prelude.{◌≡◌, Err}
use Rattle.std.proofs.Common.{rules, ◌∙◌}
use Rattle.text.specs.ArgsLaws.{known_ok, known_err, ok_or_some, ok_or_none}
use Rattle.text.specs.GateLaws.{gate_none, gate_short, gate_fields}
use Rattle.text.specs.declared.call.Refusal.TheVariants.{Malformed}
use Rattle.text.proofs.gate.read.Goals as goal

pub returns-in_err-d : goal.returns-in_err-d
returns-in_err-d c =
    let malformed : c.from_residual.result ≡ Err Malformed = search rules in
    malformed ∙ gate_none _ _ (rw (ok_or_none _ c.in_err-d.ensures.value) at c.field_after.ensures)

pub returns-in_err-name : goal.returns-in_err-name
returns-in_err-name c =
    let malformed : c.from_residual-in_err-name.result ≡ Err Malformed = search rules in
    let d = rw (ok_or_some _ c.in_ok-d.ensures.value) at c.field_after.ensures in
    malformed ∙ gate_short d (rw (ok_or_none _ c.in_err-name.ensures.value) at c.field_after-2.ensures)

pub returns-in_err-d-2 : goal.returns-in_err-d-2
returns-in_err-d-2 c =
    let malformed : c.from_residual-in_err-d-2.result ≡ Err Malformed = search rules in
    let d = rw (ok_or_some _ c.in_ok-d.ensures.value) at c.field_after.ensures in
    let name = rw (ok_or_some _ c.in_ok-name.ensures.value) at c.field_after-2.ensures in
    malformed ∙ known_err _ _ c.read.ensures c.in_err-d-2.ensures.value ∙ gate_fields d name

pub returns-in_err-qubits : goal.returns-in_err-qubits
returns-in_err-qubits c =
    let malformed : c.from_residual-in_err-qubits.result ≡ Err Malformed = search rules in
    let d = rw (ok_or_some _ c.in_ok-d.ensures.value) at c.field_after.ensures in
    let name = rw (ok_or_some _ c.in_ok-name.ensures.value) at c.field_after-2.ensures in
    malformed ∙ known_err _ _ c.after.ensures c.in_err-qubits.ensures.value
    ∙ known_ok _ _ c.read.ensures c.in_ok-d-2.ensures.value ∙ gate_fields d name

pub returns : goal.returns
returns c =
    let d = rw (ok_or_some _ c.in_ok-d.ensures.value) at c.field_after.ensures in
    let name = rw (ok_or_some _ c.in_ok-name.ensures.value) at c.field_after-2.ensures in
    c.make.ensures ∙ known_ok _ _ c.after.ensures c.in_ok-qubits.ensures.value
    ∙ known_ok _ _ c.read.ensures c.in_ok-d-2.ensures.value ∙ gate_fields d name
