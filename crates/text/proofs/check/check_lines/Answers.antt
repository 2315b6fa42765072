-- Line after line; the first fault decides.
use Rattle.std.specs.Prelude.{◌≡◌, ◌<◌, length, Err}
use Rattle.std.proofs.Common.{rules, ◌∙◌}
use native.Mathlib.Omega.{arith}
use Rattle.text.specs.Check.{checked_at_end}
use Rattle.text.specs.SplitLinesLaws.{computes_lf, lines_inclusive}
use Rattle.text.specs.CheckTextLaws.{check_loop_start, check_loop_next, check_loop_fault, check_loop_end}
use Rattle.text.proofs.check.check_lines.Goals as goal

pub loop-part-init : goal.loop-part-init
loop-part-init c =
    check_loop_start c.min.ensures
    (rw c.into_iter-part-iterator.ensures.into_iter_gives c.split_inclusive-part-items.ensures.rest)

pub returns-in_err-parting : goal.returns-in_err-parting
returns-in_err-parting c =
    let fault : c.from_residual.result ≡ Err c.in_err-parting.field-0.0 = search rules in
    let cut = c.in-Some.ensures.steps in
    let tests = computes_lf _ (λ x r q h. search rules) in
    let line = lines_inclusive _ _ cut.0 cut.1.0 cut.1.1 (cut.1.2 _ tests).1 cut.2 in
    fault ∙ check_loop_fault c.loop-part.invariant _ _ line c.line_of.ensures c.read.ensures c.parting_after.ensures
    c.in_err-parting.was

pub loop-part-preserved : goal.loop-part-preserved
loop-part-preserved c =
    let cut = c.in-Some.ensures.steps in
    let some : 0 < length c.in-Some.part.now = omega (arith, cut.1.1, cut.2) in
    let tests = computes_lf _ (λ x r q h. search rules) in
    let line = lines_inclusive _ _ cut.0 cut.1.0 cut.1.1 (cut.1.2 _ tests).1 cut.2 in
    check_loop_next c.loop-part.invariant _ _ line c.line_of.ensures c.read.ensures c.parting_after.ensures cut.0
    some c.in_ok-parting.was

pub returns-in-Some-parting : goal.returns-in-Some-parting
unfolding checked_at_end
returns-in-Some-parting c =
    rw c.in-Some-parting.is at (check_loop_end c.loop-part.invariant c.in-None.ensures.steps.0)

pub returns-in-None-parting : goal.returns-in-None-parting
unfolding checked_at_end
returns-in-None-parting c =
    rw c.in-None-parting.is at (check_loop_end c.loop-part.invariant c.in-None.ensures.steps.0)
