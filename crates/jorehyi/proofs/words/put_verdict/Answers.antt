use borrow.Author.Rules.{rules}
use Rattle.jorehyi.specs.WordsLaws.{wrote_verdict}
use Rattle.jorehyi.proofs.words.put_verdict.Goals as goal

pub returns : goal.returns
returns c = search (rules, wrote_verdict)
