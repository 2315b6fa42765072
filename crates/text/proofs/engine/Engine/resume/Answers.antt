use Rattle.std.specs.Prelude.{refl}
use borrow.Author.Rules.{rules}
use Rattle.text.specs.ProgressLaws.{resume_loop_start, resume_loop_line, resume_loop_next}
use Rattle.text.specs.ProgressLaws.{resume_loop_limit, resume_loop_stop, resume_loop_end}
use Rattle.text.proofs.engine.Engine.resume.Goals as goal

pub loop-p-init : goal.loop-p-init
loop-p-init c = (search (rules, resume_loop_start), search rules)

pub returns-then-p-limit-clause-resumes : goal.returns-then-p-limit-clause-resumes
returns-then-p-limit-clause-resumes c = search (rules, resume_loop_limit)

pub returns-then-short-clause-resumes : goal.returns-then-short-clause-resumes
returns-then-short-clause-resumes c =
    resume_loop_stop c.loop-p.invariant.0 c.loop-p-test.true c.if-p-limit.false c.if-short.true refl

pub loop-p-preserved : goal.loop-p-preserved
loop-p-preserved c =
    let g = c.loop-p.invariant.0 in (
      resume_loop_next g c.loop-p-test.true c.if-p-limit.false
          (resume_loop_line g c.loop-p-test.true c.if-short.false)
          (search rules) (search rules) c.resume_line-p.ensures.answers,
      search rules,
    )

pub returns-clause-resumes : goal.returns-clause-resumes
returns-clause-resumes c = search (rules, resume_loop_end)
