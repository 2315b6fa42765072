use Rattle.text.specs.ProgressLaws.{answer_line_ensures}
use Rattle.text.proofs.engine.Engine.answer_line.Goals as goal

pub returns-clause-answers : goal.returns-clause-answers
returns-clause-answers c =
    answer_line_ensures c.read.ensures c.reply-answer.ensures.replies c.write.ensures c.requires.1.0
