use Rattle.diagram.specs.InsertLaws.{link_by}
use borrow.Author.Rules.{rules}
use Rattle.diagram.proofs.insert.link.Goals as goal

pub returns : goal.returns
returns c = search (rules, link_by)
