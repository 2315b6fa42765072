-- The low part, then the high part, joined; a weight taken out first, and a remembered answer used. (`sum`, `contract`
-- and `lows` each do this for themselves: operation.rt.)
use Rattle.std.proofs.lemmas.Result.{err_from_is_err_and}
use borrow.Author.Rules.{rules}
use native.Mathlib.Omega.{arith}
use Rattle.diagram.specs.CacheLaws.{lookup_is}
use Rattle.diagram.specs.OperationLaws.{cached_fits, cached_hit, cached_kept}
use Rattle.diagram.specs.OperationHalvesLaws.{inside, fixable_left, fixable_right, part}
use Rattle.diagram.specs.SumLaws.{sum_left, sum_right, sum_one, sum_reduced_measure, sum_reduced_ready}
use Rattle.diagram.specs.SumLaws.{sum_reduced, sum_times, sum_times_full}
use Rattle.diagram.specs.SumLaws.{sum_key_fits, sum_key_step, sum_known, sum_some}
use Rattle.diagram.specs.SumLaws.{sum_low_full, sum_high_ready, sum_measure, sum_low_refines, sum_high_full}
use Rattle.diagram.specs.SumLaws.{sum_joinable, sum_high_refines}
use Rattle.diagram.proofs.diagram.Diagram.+sum.Goals as goal

pub sum-returns-then-v-eq0-clause-does : goal.sum-returns-then-v-eq0-clause-does
sum-returns-then-v-eq0-clause-does t c = search (rules, sum_left)

pub sum-returns-then-w-eq0-clause-does : goal.sum-returns-then-w-eq0-clause-does
sum-returns-then-w-eq0-clause-does t c = search (rules, sum_right)

pub sum-returns-then-m-n-clause-does : goal.sum-returns-then-m-n-clause-does
sum-returns-then-m-n-clause-does t c = search (rules, sum_one)

pub sum-sum_cached-requires : goal.sum-sum_cached-requires
sum-sum_cached-requires t c =
    let g = c.requires in
    let a = c.if-v-eq0.false in
    let b = c.if-w-eq0.false in (
      omega (
        arith,
        sum_reduced_measure g a b c.if-m-n.false c.inverse-i.ensures c.mul-r.ensures,
        c.decreases,
      ),
      search
          (rules, sum_reduced_ready, sum_reduced),
    )

pub sum-returns-in_err-e-clause-does : goal.sum-returns-in_err-e-clause-does
sum-returns-in_err-e-clause-does t c =
    let p = err_from_is_err_and c.from_residual.result c.from_residual.ensures.1 in
    rw p.1
    (sum_times_full c.requires c.if-v-eq0.false c.if-w-eq0.false c.if-m-n.false c.inverse-i.ensures c.mul-r.ensures
    c.in_err-e.ensures.does)

pub sum-returns-clause-does : goal.sum-returns-clause-does
sum-returns-clause-does t c =
    sum_times c.requires c.if-v-eq0.false c.if-w-eq0.false c.if-m-n.false
    c.inverse-i.ensures c.mul-r.ensures c.in_ok-e.ensures.does c.times.ensures

pub sum_cached-recall-requires : goal.sum_cached-recall-requires
sum_cached-recall-requires t c = search (rules, sum_key_fits)

pub sum_cached-returns-in-Some-clause-does : goal.sum_cached-returns-in-Some-clause-does
sum_cached-returns-in-Some-clause-does t c =
    cached_hit c.requires.0 (sum_key_step c.requires.0 c.requires.1)
    (lookup_is _ c.recall.ensures c.in-Some.is)

pub sum_cached-remember-requires : goal.sum_cached-remember-requires
sum_cached-remember-requires t c = search (rules, sum_key_fits, cached_fits)

pub sum_cached-returns-clause-does : goal.sum_cached-returns-clause-does
sum_cached-returns-clause-does t c =
    cached_kept c.requires.0 (sum_key_step c.requires.0 c.requires.1)
    c.requires.0.left.within c.requires.0.right.within (sum_known c.requires.0 c.requires.1)
    c.in_ok-e.ensures.does c.remember.ensures

pub sum_high-cofactor-a1-requires : goal.sum_high-cofactor-a1-requires
sum_high-cofactor-a1-requires t c = search (rules, fixable_left)

pub sum_high-cofactor-b1-requires : goal.sum_high-cofactor-b1-requires
sum_high-cofactor-b1-requires t c = search (rules, fixable_right)

pub sum_high-sum-requires : goal.sum_high-sum-requires
sum_high-sum-requires t c =
    let w = c.requires in
    let p = part w.ready w.inside w.lowest c.cofactor-a1.ensures c.cofactor-b1.ensures in
    (omega (arith, p.0, c.decreases), p.1)

pub sum_high-returns-in_err-h-clause-does : goal.sum_high-returns-in_err-h-clause-does
sum_high-returns-in_err-h-clause-does t c =
    let p = err_from_is_err_and c.from_residual.result c.from_residual.ensures.1 in
    rw p.1
    (sum_high_full c.requires c.cofactor-a1.ensures c.cofactor-b1.ensures c.in_err-h.ensures.does)

pub sum_high-join-requires : goal.sum_high-join-requires
sum_high-join-requires t c =
    sum_joinable c.requires c.cofactor-a1.ensures c.cofactor-b1.ensures c.in_ok-h.ensures.does

pub sum_high-returns-clause-does : goal.sum_high-returns-clause-does
sum_high-returns-clause-does t c =
    sum_high_refines c.requires c.cofactor-a1.ensures c.cofactor-b1.ensures c.in_ok-h.ensures.does
    _ _ _ c.join.result c.join.ensures.cache.same_words c.join.ensures.does

pub sum_split-cofactor-a0-requires : goal.sum_split-cofactor-a0-requires
sum_split-cofactor-a0-requires t c = search (rules, fixable_left, inside, sum_some)

pub sum_split-cofactor-b0-requires : goal.sum_split-cofactor-b0-requires
sum_split-cofactor-b0-requires t c = search (rules, fixable_right, inside, sum_some)

pub sum_split-sum-requires : goal.sum_split-sum-requires
sum_split-sum-requires t c =
    let k = inside c.requires.0 (sum_some c.requires.0 c.requires.1) c.lowest-k.ensures.0 in
    let p = part c.requires.0 k c.lowest-k.ensures.0 c.cofactor-a0.ensures c.cofactor-b0.ensures in
    (omega (arith, p.0, c.decreases), p.1)

pub sum_split-returns-in_err-l-clause-does : goal.sum_split-returns-in_err-l-clause-does
sum_split-returns-in_err-l-clause-does t c =
    let p = err_from_is_err_and c.from_residual.result c.from_residual.ensures.1 in
    rw p.1
    (sum_low_full c.requires.0 c.requires.1 c.lowest-k.ensures.0 c.cofactor-a0.ensures c.cofactor-b0.ensures
    c.in_err-l.ensures.does)

pub sum_split-sum_high-requires : goal.sum_split-sum_high-requires
sum_split-sum_high-requires t c =
    let low = c.in_ok-l.ensures.does in
    let same = sum_measure c.requires.0 c.requires.1 c.lowest-k.ensures.0 c.cofactor-a0.ensures
    c.cofactor-b0.ensures low in (
      omega (arith, same, c.decreases),
      sum_high_ready c.requires.0 c.requires.1 c.lowest-k.ensures.0 c.cofactor-a0.ensures
          c.cofactor-b0.ensures low,
    )

pub sum_split-returns-clause-does : goal.sum_split-returns-clause-does
sum_split-returns-clause-does t c =
    sum_low_refines c.requires.0 c.requires.1 c.lowest-k.ensures.0 c.cofactor-a0.ensures
    c.cofactor-b0.ensures c.in_ok-l.ensures.does _ _ _ c.sum_high.result c.sum_high.ensures.does
