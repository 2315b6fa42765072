use Rattle.diagram.specs.InsertLaws.{append_ensures}
use borrow.Author.Rules.{rules}
use Rattle.diagram.proofs.insert.append.Goals as goal

pub returns : goal.returns
returns c = search (rules, append_ensures)
