use borrow.Author.Rules.{rules}
use Rattle.session.specs.AnswerLaws.{reply_ensures}
use Rattle.session.proofs.answer.Session.reply.Goals as goal

pub returns-clause-replies : goal.returns-clause-replies
returns-clause-replies g c = search (rules, reply_ensures)
