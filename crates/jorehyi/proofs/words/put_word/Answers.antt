use borrow.Author.Rules.{rules}
use Rattle.text.specs.PrintLaws.{wrote_byte}
use Rattle.jorehyi.proofs.words.put_word.Goals as goal

pub returns : goal.returns
returns c = wrote_byte _ _ _ (search rules)
