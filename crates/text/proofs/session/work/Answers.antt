use borrow.Author.Rules.{rules}
use Rattle.text.specs.ProgressLaws.{work_agrees}
use Rattle.text.proofs.session.work.Goals as goal

pub returns : goal.returns
returns c =
    let h = work_agrees _ c.start.ensures.start c.resume-p.ensures.resumes c.result.ensures in
    rw (← c.over-diagram.ensures.store.1) (search (rules, h))
