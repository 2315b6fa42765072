-- The walk down keeps the value at v; the level rises at each step.
use Rattle.diagram.specs.ValueLaws.{value_start, value_index, value_fixable, value_on, value_less, value_end}
use borrow.Author.Rules.{rules}
use Rattle.diagram.proofs.value.value.Goals as goal

pub loop-e-init : goal.loop-e-init
loop-e-init c = search (rules, value_start)

pub has-high-requires : goal.has-high-requires
has-high-requires c = search (rules, value_index)

pub cofactor-e-requires : goal.cofactor-e-requires
cofactor-e-requires c = search (rules, value_fixable)

pub loop-e-smaller : goal.loop-e-smaller
loop-e-smaller c = search (rules, value_less)

pub loop-e-preserved : goal.loop-e-preserved
loop-e-preserved c = search (rules, value_on)

pub returns : goal.returns
returns c = search (rules, value_end)
