-- The low part, then the high part, joined; a weight taken out first, and a remembered answer used. (`sum`, `contract`
-- and `lows` each do this for themselves: operation.rt.)
use Rattle.std.proofs.lemmas.Result.{err_from_is_err_and}
use borrow.Author.Rules.{rules}
use native.Mathlib.Omega.{arith}
use Rattle.diagram.specs.CacheLaws.{lookup_is}
use Rattle.diagram.specs.OperationLaws.{cached_fits, cached_hit, cached_kept}
use Rattle.diagram.specs.OperationHalvesLaws.{inside, fixable_left, fixable_right, part}
use Rattle.diagram.specs.ContractLaws.{contract_left, contract_right, constant_right, constant_left}
use Rattle.diagram.specs.ContractLaws.{contract_reduced_measure, contract_reduced_ready, contract_reduced_some}
use Rattle.diagram.specs.ContractLaws.{contract_times, contract_times_full}
use Rattle.diagram.specs.ContractLaws.{contract_key_fits, contract_key_step, contract_known}
use Rattle.diagram.specs.ContractLaws.{contract_low_full, contract_high_ready, contract_measure}
use Rattle.diagram.specs.ContractLaws.{contract_low_refines}
use Rattle.diagram.specs.ContractLaws.{contract_high_full, contract_combine_requires, contract_high_refines}
use Rattle.diagram.proofs.diagram.Diagram.+contract.Goals as goal
use Rattle.diagram.proofs.diagram.Diagram.+contract.Goals.{contract-then-rest-eq0+else-y-eq0+else-x-eq0}
use Rattle.diagram.proofs.diagram.Diagram.+contract.Goals.{contract-else-rest-eq0}

pub contract-returns-then-v-eq0-clause-does : goal.contract-returns-then-v-eq0-clause-does
contract-returns-then-v-eq0-clause-does t c = search (rules, contract_left)

pub contract-returns-then-w-eq0-clause-does : goal.contract-returns-then-w-eq0-clause-does
contract-returns-then-w-eq0-clause-does t c = search (rules, contract_right)

pub contract-returns-then-y-eq0-clause-does : goal.contract-returns-then-y-eq0-clause-does
contract-returns-then-y-eq0-clause-does t c = search (rules, constant_right)

pub contract-returns-then-x-eq0-clause-does : goal.contract-returns-then-x-eq0-clause-does
contract-returns-then-x-eq0-clause-does t c = search (rules, constant_left)

pub contract-contract_cached-requires : goal.contract-contract_cached-requires
contract-contract_cached-requires t c =
    let g = c.requires.0 in
    let v = c.if-v-eq0.false in
    let w = c.if-w-eq0.false in (
      omega (
        arith,
        contract_reduced_measure g c.requires.1 v w c.lowest-k.ensures.0
            c.factored-weight.ensures c.from-rest.ensures,
        c.decreases,
      ),
      (
        contract_reduced_ready g c.requires.1 v w c.lowest-k.ensures.0 c.factored-weight.ensures
            c.from-rest.ensures,
        contract_reduced_some g c.requires.1 v w c.lowest-k.ensures.0 c.factored-weight.ensures
            c.from-rest.ensures
            (λ z. elim c.if-rest-eq0.branch [
              | contract-then-rest-eq0+else-y-eq0+else-x-eq0 w ↦ w.if-y-eq0.false
              | contract-else-rest-eq0 w
                  ↦ absurd (w.if-rest-eq0.false z)
            ]),
      ),
    )

pub contract-returns-in_err-e-clause-does : goal.contract-returns-in_err-e-clause-does
contract-returns-in_err-e-clause-does t c =
    let p = err_from_is_err_and c.from_residual.result c.from_residual.ensures.1 in
    rw p.1
    (contract_times_full c.requires.0 c.requires.1 c.if-v-eq0.false c.if-w-eq0.false c.lowest-k.ensures.0
    c.factored-weight.ensures c.from-rest.ensures c.in_err-e.ensures.does)

pub contract-returns-clause-does : goal.contract-returns-clause-does
contract-returns-clause-does t c =
    contract_times c.requires.0 c.requires.1 c.if-v-eq0.false c.if-w-eq0.false c.lowest-k.ensures.0
    c.factored-weight.ensures c.from-rest.ensures c.in_ok-e.ensures.does c.times.ensures

pub contract_cached-recall-requires : goal.contract_cached-recall-requires
contract_cached-recall-requires t c = search (rules, contract_key_fits)

pub contract_cached-returns-in-Some-clause-does : goal.contract_cached-returns-in-Some-clause-does
contract_cached-returns-in-Some-clause-does t c =
    let pre = c.requires in
    cached_hit pre.0 (contract_key_step pre.0 pre.1)
    (lookup_is _ c.recall.ensures c.in-Some.is)

pub contract_cached-remember-requires : goal.contract_cached-remember-requires
contract_cached-remember-requires t c = search (rules, contract_key_fits, cached_fits)

pub contract_cached-returns-clause-does : goal.contract_cached-returns-clause-does
contract_cached-returns-clause-does t c =
    let pre = c.requires in
    cached_kept pre.0 (contract_key_step pre.0 pre.1) pre.0.left.within pre.0.right.within
    (contract_known pre.0 pre.1) c.in_ok-e.ensures.does c.remember.ensures

pub contract_high-cofactor-a1-requires : goal.contract_high-cofactor-a1-requires
contract_high-cofactor-a1-requires t c = search (rules, fixable_left)

pub contract_high-cofactor-b1-requires : goal.contract_high-cofactor-b1-requires
contract_high-cofactor-b1-requires t c = search (rules, fixable_right)

pub contract_high-contract-requires : goal.contract_high-contract-requires
contract_high-contract-requires t c =
    let w = c.requires.0 in
    let p = part w.ready w.inside w.lowest c.cofactor-a1.ensures c.cofactor-b1.ensures in
    (omega (arith, p.0, c.decreases), (p.1, omega (arith, c.without-rest.ensures.most, c.requires.1)))

pub contract_high-returns-in_err-h-clause-does : goal.contract_high-returns-in_err-h-clause-does
contract_high-returns-in_err-h-clause-does t c =
    let p = err_from_is_err_and c.from_residual.result c.from_residual.ensures.1 in
    rw p.1
    (contract_high_full c.requires.0 c.without-rest.ensures c.cofactor-a1.ensures c.cofactor-b1.ensures
    c.in_err-h.ensures.does)

pub contract_high-combine-requires : goal.contract_high-combine-requires
contract_high-combine-requires t c =
    contract_combine_requires c.requires.0 c.without-rest.ensures c.cofactor-a1.ensures
    c.cofactor-b1.ensures c.in_ok-h.ensures.does

pub contract_high-returns-clause-does : goal.contract_high-returns-clause-does
contract_high-returns-clause-does t c =
    contract_high_refines c.requires.0 c.without-rest.ensures c.cofactor-a1.ensures
    c.cofactor-b1.ensures c.in_ok-h.ensures.does _ _ _ c.combine.result c.combine.ensures.does

pub contract_split-without-rest-requires : goal.contract_split-without-rest-requires
contract_split-without-rest-requires t c = search (rules, inside)

pub contract_split-cofactor-a0-requires : goal.contract_split-cofactor-a0-requires
contract_split-cofactor-a0-requires t c = search (rules, fixable_left, inside)

pub contract_split-cofactor-b0-requires : goal.contract_split-cofactor-b0-requires
contract_split-cofactor-b0-requires t c = search (rules, fixable_right, inside)

pub contract_split-contract-requires : goal.contract_split-contract-requires
contract_split-contract-requires t c =
    let g = c.requires.0 in
    let k = inside g c.requires.1.some c.lowest-k.ensures.0 in
    let p = part g k c.lowest-k.ensures.0 c.cofactor-a0.ensures c.cofactor-b0.ensures in
    (omega (arith, p.0, c.decreases), (p.1, omega (arith, c.without-rest.ensures.most, c.requires.1.mask)))

pub contract_split-returns-in_err-l-clause-does : goal.contract_split-returns-in_err-l-clause-does
contract_split-returns-in_err-l-clause-does t c =
    let p = err_from_is_err_and c.from_residual.result c.from_residual.ensures.1 in
    rw p.1
    (contract_low_full c.requires.0 c.requires.1 c.lowest-k.ensures.0 c.without-rest.ensures c.cofactor-a0.ensures
    c.cofactor-b0.ensures c.in_err-l.ensures.does)

pub contract_split-contract_high-requires : goal.contract_split-contract_high-requires
contract_split-contract_high-requires t c =
    let low = c.in_ok-l.ensures.does in
    let same = contract_measure c.requires.0 c.requires.1 c.lowest-k.ensures.0
    c.without-rest.ensures c.cofactor-a0.ensures c.cofactor-b0.ensures low in (
      omega (arith, same, c.decreases),
      (
        contract_high_ready c.requires.0 c.requires.1 c.lowest-k.ensures.0
            c.without-rest.ensures c.cofactor-a0.ensures c.cofactor-b0.ensures low,
        c.requires.1.mask,
      ),
    )

pub contract_split-returns-clause-does : goal.contract_split-returns-clause-does
contract_split-returns-clause-does t c =
    contract_low_refines c.requires.0 c.requires.1 c.lowest-k.ensures.0 c.without-rest.ensures
    c.cofactor-a0.ensures c.cofactor-b0.ensures c.in_ok-l.ensures.does _ _ _ c.contract_high.result
    c.contract_high.ensures.does
