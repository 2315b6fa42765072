use borrow.Author.Rules.{rules}
use Rattle.jorehyi.specs.ExportLaws.{session_short, session_exported}
use Rattle.jorehyi.proofs.export.jorehyi_session.Goals as goal

pub returns-then-res-lt-SESSION_SIZE : goal.returns-then-res-lt-SESSION_SIZE
returns-then-res-lt-SESSION_SIZE c = search (rules, session_short)

pub returns : goal.returns
returns c = search (rules, session_exported)
