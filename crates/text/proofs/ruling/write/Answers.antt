-- `same`, `factor` and `differ` are a session's answers.
use Rattle.text.specs.RulingLaws.{ruling_written_answer, ruling_compared}
use Rattle.text.proofs.ruling.write.Goals as goal

pub returns-in-Ok : goal.returns-in-Ok
returns-in-Ok c = rw c.in-Ok.is (ruling_written_answer _ _ (ruling_compared _) c.write.ensures)
