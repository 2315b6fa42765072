-- The low part, then the high part, joined where the top goes; a weight taken out first, and a remembered answer used.
-- (`sum`, `contract` and `lows` each do this for themselves: operation.rt.)
use Rattle.std.proofs.lemmas.Result.{err_from_is_err_and}
use borrow.Author.Rules.{rules}
use native.Mathlib.Omega.{arith}
use Rattle.diagram.specs.CacheLaws.{lookup_is}
use Rattle.diagram.specs.OperationLaws.{cached_fits, cached_hit, cached_kept}
use Rattle.diagram.specs.OperationHalvesLaws.{fixable_left, part}
use Rattle.diagram.specs.LowerLaws.{lows_part, lows_none, lows_reduced_ready, lows_reduced, lows_reduced_measure}
use Rattle.diagram.specs.LowerLaws.{lows_times, lows_times_full, lows_key_fits, lows_key_step, lows_known}
use Rattle.diagram.specs.LowerLaws.{lows_inside, lows_lowest, lows_fixable}
use Rattle.diagram.specs.LowerLaws.{lows_low_full, lows_high_ready, lows_measure, lows_still, lows_low_refines}
use Rattle.diagram.specs.LowerLaws.{lows_high_full, lows_joinable, lows_high_refines}
use Rattle.diagram.proofs.diagram.Diagram.+lows.Goals as goal

pub lows-returns-then-m-u-eq0-clause-does : goal.lows-returns-then-m-u-eq0-clause-does
lows-returns-then-m-u-eq0-clause-does t c = search (rules, lows_none)

pub lows-lows_cached-requires : goal.lows-lows_cached-requires
lows-lows_cached-requires t c =
    let pre = c.requires in
    let u = c.support-u.ensures.0 in
    let n = c.if-m-u-eq0.false in (
      omega (arith, lows_reduced_measure pre.0 pre.1 u n, c.decreases),
      (lows_reduced_ready pre.0 pre.1 u n, lows_reduced pre.0 pre.1 u n),
    )

pub lows-returns-in_err-e-clause-does : goal.lows-returns-in_err-e-clause-does
lows-returns-in_err-e-clause-does t c =
    let p = err_from_is_err_and c.from_residual.result c.from_residual.ensures.1 in
    rw p.1
    (lows_times_full c.requires.0 c.requires.1 c.support-u.ensures.0 c.if-m-u-eq0.false c.in_err-e.ensures.does)

pub lows-returns-clause-does : goal.lows-returns-clause-does
lows-returns-clause-does t c =
    let pre = c.requires in
    lows_times pre.0 pre.1 c.support-u.ensures.0 c.if-m-u-eq0.false c.in_ok-e.ensures.does c.times.ensures

pub lows_cached-recall-requires : goal.lows_cached-recall-requires
lows_cached-recall-requires t c = search (rules, lows_key_fits)

pub lows_cached-returns-in-Some-clause-does : goal.lows_cached-returns-in-Some-clause-does
lows_cached-returns-in-Some-clause-does t c =
    let pre = c.requires in
    cached_hit pre.0 (lows_key_step pre.0 pre.1)
    (lookup_is _ c.recall.ensures c.in-Some.is)

pub lows_cached-remember-requires : goal.lows_cached-remember-requires
lows_cached-remember-requires t c = search (rules, lows_key_fits, cached_fits)

pub lows_cached-returns-clause-does : goal.lows_cached-returns-clause-does
lows_cached-returns-clause-does t c =
    let pre = c.requires in
    cached_kept pre.0 (lows_key_step pre.0 pre.1) pre.0.left.within pre.0.left.within
    (lows_known pre.0 pre.1) c.in_ok-e.ensures.does c.remember.ensures

pub lows_high-cofactor-a1-requires : goal.lows_high-cofactor-a1-requires
lows_high-cofactor-a1-requires t c = search (rules, fixable_left)

pub lows_high-lows-requires : goal.lows_high-lows-requires
lows_high-lows-requires t c =
    let w = c.requires.0 in
    let a1 = c.cofactor-a1.ensures in
    let p = part w.ready w.inside w.lowest a1 a1 in
    (omega (arith, p.0, c.decreases), (p.1, lows_part c.requires.1.requires a1))

pub lows_high-returns-in_err-h-clause-does : goal.lows_high-returns-in_err-h-clause-does
lows_high-returns-in_err-h-clause-does t c =
    let p = err_from_is_err_and c.from_residual.result c.from_residual.ensures.1 in
    rw p.1
    (lows_high_full c.requires.0 c.requires.1 c.cofactor-a1.ensures c.in_err-h.ensures.does)

pub lows_high-join-requires : goal.lows_high-join-requires
lows_high-join-requires t c =
    lows_joinable c.requires.0 c.requires.1 c.cofactor-a1.ensures c.in_ok-h.ensures.does c.lower_in-j.ensures

pub lows_high-returns-clause-does : goal.lows_high-returns-clause-does
lows_high-returns-clause-does t c =
    lows_high_refines c.requires.0 c.requires.1 c.cofactor-a1.ensures c.in_ok-h.ensures.does c.lower_in-j.ensures
    _ _ _ c.join.result c.join.ensures.cache.same_words c.join.ensures.does

pub lows_split-cofactor-a0-requires : goal.lows_split-cofactor-a0-requires
lows_split-cofactor-a0-requires t c = search (rules, lows_fixable)

pub lows_split-lows-requires : goal.lows_split-lows-requires
lows_split-lows-requires t c =
    let g = c.requires.0 in
    let x = c.requires.1 in
    let k = c.top-k.ensures.0 in
    let a0 = c.cofactor-a0.ensures in
    let p = part g (lows_inside g x k) (lows_lowest g x k) a0 a0 in
    (omega (arith, p.0, c.decreases), (p.1, lows_part x.requires a0))

pub lows_split-returns-in_err-l-clause-does : goal.lows_split-returns-in_err-l-clause-does
lows_split-returns-in_err-l-clause-does t c =
    let p = err_from_is_err_and c.from_residual.result c.from_residual.ensures.1 in
    rw p.1
    (lows_low_full c.requires.0 c.requires.1 c.top-k.ensures.0 c.cofactor-a0.ensures c.in_err-l.ensures.does)

pub lows_split-lows_high-requires : goal.lows_split-lows_high-requires
lows_split-lows_high-requires t c =
    let g = c.requires.0 in
    let x = c.requires.1 in
    let k = c.top-k.ensures.0 in
    let low = c.in_ok-l.ensures.does in
    let same = lows_measure g x k c.cofactor-a0.ensures low in (
      omega (arith, same, c.decreases),
      (lows_high_ready g x k c.cofactor-a0.ensures low, lows_still g x k c.cofactor-a0.ensures low),
    )

pub lows_split-returns-clause-does : goal.lows_split-returns-clause-does
lows_split-returns-clause-does t c =
    lows_low_refines c.requires.0 c.requires.1 c.top-k.ensures.0 c.cofactor-a0.ensures c.in_ok-l.ensures.does _ _ _
    c.lows_high.result c.lows_high.ensures.does
