use Rattle.text.specs.AnswerLaws.{answer_written}
use Rattle.text.proofs.answer.write.Goals as goal

pub returns-in-Ok : goal.returns-in-Ok
returns-in-Ok c = rw c.in-Ok.is (answer_written _ (rw c.in-Ok.is at c.requires.1) c.put.ensures)

pub returns-in-Err : goal.returns-in-Err
returns-in-Err c = rw c.in-Err.is (answer_written _ tt c.put_refusal.ensures)
