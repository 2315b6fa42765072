use Rattle.diagram.specs.Table.{hash, mix}
use Rattle.diagram.specs.TableLaws.{hash_lt}
use borrow.Author.Rules.{rules}
use Rattle.diagram.proofs.table.hash.Goals as goal

pub returns : goal.returns
unfolding hash mix
returns c = search (rules, hash_lt)
