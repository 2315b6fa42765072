-- What the step has left can be rolled back where it did not fit; where it was done, it is there.
use borrow.Author.Rules.{rules}
use Rattle.diagram.specs.AttemptLaws.{undo_full, attempted}
use Rattle.diagram.proofs.diagram.Diagram.attempt.Goals as goal

pub rollback-requires : goal.rollback-requires
rollback-requires g c =
    undo_full c.step-made.result (c.requires.ends c.step-made.result c.step-made.new.arg2 (search rules)) (search rules)

pub returns-else-is_err : goal.returns-else-is_err
returns-else-is_err g c = attempted c.step-made.result (search rules) (search rules)
