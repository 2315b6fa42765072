use Rattle.std.specs.Prelude.{refl}
use Rattle.std.proofs.lemmas.Result.{err_from_is_err_and}
use borrow.Author.Rules.{rules}
use Rattle.text.specs.ListLaws.{gates_loop_gate, gates_loop_next, gates_loop_refused}
use Rattle.text.specs.ListLaws.{gates_loop_end}
use Rattle.text.proofs.list.Lists.gates.Goals as goal

pub gate-requires : goal.gate-requires
gate-requires c =
    let g = c.loop.invariant.0 in
    let k = c.loop.invariant.1 in (
      search rules,
      (
        rw (k.same_text, k.same_qubits) (gates_loop_gate g c.requires.1.0 (search rules) refl),
        search rules,
      ),
    )

pub returns-in_err-gate-clause-runs : goal.returns-in_err-gate-clause-runs
returns-in_err-gate-clause-runs c =
    let p = err_from_is_err_and c.from_residual.result c.from_residual.ensures.1 in
    let g = c.loop.invariant.0 in
    let k = c.loop.invariant.1 in
    rw p.1
    (gates_loop_refused (gates_loop_next g (search rules) (gates_loop_gate g c.requires.1.0 (search rules) refl)
    (search rules) (rw (k.same_text, k.same_qubits) at c.in_err-gate.ensures.runs)) refl)

pub loop-preserved : goal.loop-preserved
loop-preserved c =
    let g = c.loop.invariant.0 in
    let k = c.loop.invariant.1 in (
      gates_loop_next g (search rules) (gates_loop_gate g c.requires.1.0 (search rules) refl) (search rules)
          (rw (k.same_text, k.same_qubits) at c.in_ok-gate.ensures.runs),
      search rules,
    )

pub returns-clause-runs : goal.returns-clause-runs
returns-clause-runs c = gates_loop_end c.loop.invariant.0 (search rules)
