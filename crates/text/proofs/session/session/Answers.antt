use borrow.Author.Rules.{rules}
use Rattle.text.specs.ProgressLaws.{session_agrees}
use Rattle.text.proofs.session.session.Goals as goal

pub returns : goal.returns
returns c = search (rules, session_agrees)
