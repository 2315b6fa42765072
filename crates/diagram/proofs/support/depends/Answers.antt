use Rattle.diagram.specs.SupportStoreLaws.{support_has}
use borrow.Author.Rules.{rules}
use Rattle.diagram.proofs.support.depends.Goals as goal

pub returns : goal.returns
returns c = search (rules, support_has)
