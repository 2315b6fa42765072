use Rattle.std.proofs.lemmas.Result.{err_from_is_err_and}
use Rattle.std.proofs.Common.{rules}
use Rattle.session.specs.FeedLaws.{feeds_end, feeds_byte, feeds_lost}
use Rattle.session.proofs.answer.Session.step.Goals as goal

pub returns-in_err-answer-clause-takes : goal.returns-in_err-answer-clause-takes
returns-in_err-answer-clause-takes g c =
    let p = err_from_is_err_and c.from_residual.result c.from_residual.ensures.1 in
    let a = c.answer.ensures in
    rw p.1 (feeds_lost _ (search rules) a.loans.room a.loans.engine.loans.long a.squeeze c.requires a.answers
    (search rules))

pub returns-then-b-eq10-clause-takes : goal.returns-then-b-eq10-clause-takes
returns-then-b-eq10-clause-takes g c =
    let a = c.answer.ensures in
    feeds_end (search rules) a.loans.room a.loans.engine.loans.long c.requires a.answers (search rules)
    c.none-self.ensures

pub returns-clause-takes : goal.returns-clause-takes
returns-clause-takes g c = search (rules, feeds_byte)
