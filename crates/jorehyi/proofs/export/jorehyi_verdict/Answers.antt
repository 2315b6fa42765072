use borrow.Author.Rules.{rules}
use Rattle.jorehyi.specs.ExportLaws.{verdict_short, verdict_exported}
use Rattle.jorehyi.proofs.export.jorehyi_verdict.Goals as goal

pub returns-then-res-lt-VERDICT_SIZE : goal.returns-then-res-lt-VERDICT_SIZE
returns-then-res-lt-VERDICT_SIZE c = search (rules, verdict_short)

pub returns : goal.returns
returns c = search (rules, verdict_exported)
