-- The fields from the left: each adds its number.
use Rattle.std.proofs.Common.{rules, ◌∙◌}
use native.Mathlib.Omega.{arith}
use Rattle.std.proofs.lemmas.List.{length_push}
use Rattle.text.specs.SplitLaws.{field_turn, field_end}
use Rattle.text.specs.ArgsLaws.{args_loop_next, args_loop_malformed, args_loop_fifth, args_loop_end}
use Rattle.text.specs.ArgsLaws.{no_fields}
use Rattle.text.proofs.args.after.Goals as goal

pub returns-then-e-line : goal.returns-then-e-line
returns-then-e-line c = no_fields _ _ _ (omega (arith, c.if-e-line.true))

pub returns-in_err-read : goal.returns-in_err-read
returns-in_err-read c =
    let turn = field_turn _ _ _ (omega (arith, c.requires.0, c.if-e-line.false))
    c.into_iter-field-iterator.ensures.into_iter_gives c.split-field-items.ensures.rest
    c.split-field-items.ensures.done c.split-field-items.ensures.closure (λ x r q h. search rules)
    c.loop-field.yielded _ c.loop-field.yielded_by _ c.in-Some.field c.in-Some.is c.next.ensures.steps in
    c.from_residual.ensures ∙ args_loop_malformed c.loop-field.invariant turn c.in_err-read.ensures

pub returns-in_err-args : goal.returns-in_err-args
returns-in_err-args c =
    let turn = field_turn _ _ _ (omega (arith, c.requires.0, c.if-e-line.false))
    c.into_iter-field-iterator.ensures.into_iter_gives c.split-field-items.ensures.rest
    c.split-field-items.ensures.done c.split-field-items.ensures.closure (λ x r q h. search rules)
    c.loop-field.yielded _ c.loop-field.yielded_by _ c.in-Some.field c.in-Some.is c.next.ensures.steps in
    c.from_residual-in_err-args.ensures
    ∙ args_loop_fifth c.loop-field.invariant turn c.in_ok-read.ensures c.in_err-args.ensures

pub loop-field-preserved : goal.loop-field-preserved
loop-field-preserved c =
    let turn = field_turn _ _ _ (omega (arith, c.requires.0, c.if-e-line.false))
    c.into_iter-field-iterator.ensures.into_iter_gives c.split-field-items.ensures.rest
    c.split-field-items.ensures.done c.split-field-items.ensures.closure (λ x r q h. search rules)
    c.loop-field.yielded _ c.loop-field.yielded_by _ c.in-Some.field c.in-Some.is c.next.ensures.steps in
    rw (length_push c.loop-field.yielded c.in-Some.field)
    (args_loop_next c.loop-field.invariant turn c.in_ok-read.ensures c.in_ok-args.ensures)

pub returns : goal.returns
returns c = args_loop_end c.loop-field.invariant (field_end _ _ _ (omega (arith, c.requires.0, c.if-e-line.false))
    c.into_iter-field-iterator.ensures.into_iter_gives c.split-field-items.ensures.rest
    c.split-field-items.ensures.done c.split-field-items.ensures.closure (λ x r q h. search rules)
    c.loop-field.yielded _ c.loop-field.yielded_by _ c.in-None.is c.next.ensures.steps)
