use borrow.Author.Rules.{rules}
use Rattle.field.specs.FieldLaws.{descent_start, descent_step, descent_end, represents_inverse_zero}
use Rattle.field.proofs.inverse.Goals as goal

pub returns-then-a-eq0 : goal.returns-then-a-eq0
returns-then-a-eq0 c = search (rules, represents_inverse_zero)

pub loop-d-init : goal.loop-d-init
loop-d-init c = search (rules, descent_start)

pub loop-d-preserved : goal.loop-d-preserved
loop-d-preserved c = search (rules, descent_step)

pub returns : goal.returns
returns c = search (rules, descent_end)
