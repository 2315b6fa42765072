-- `=`, or a name before single digits.
use Rattle.std.specs.Prelude.{◌≡◌, Err}
use Rattle.std.proofs.Common.{rules, ◌∙◌}
use Rattle.text.specs.ArgsLaws.{known_ok, known_err}
use Rattle.text.specs.CheckLaws.{item_read, item_parting, item_gate}
use Rattle.text.specs.SplitLaws.{same_word}
use Rattle.text.specs.declared.check.Fault.TheVariants.{Line}
use Rattle.text.proofs.check.read.Goals as goal

pub returns-then-eq : goal.returns-then-eq
returns-then-eq c = item_read (item_parting _ _ (same_word _ c.if-eq.ensures c.as_slice.ensures))

pub returns-in_err-qubits : goal.returns-in_err-qubits
returns-in_err-qubits c =
    let fault : c.from_residual.result ≡ Err Line = search rules in
    item_read (fault ∙ known_err _ _ c.after.ensures c.in_err-qubits.ensures.value
    ∙ item_gate _ c.end-e.ensures (same_word _ c.if-eq.ensures c.as_slice.ensures))

pub returns : goal.returns
returns c = item_read (c.gate_item.ensures ∙ known_ok _ _ c.after.ensures c.in_ok-qubits.ensures.value
    ∙ item_gate _ c.end-e.ensures (same_word _ c.if-eq.ensures c.as_slice.ensures))
