use Rattle.diagram.specs.SupportStoreLaws.{support_leaf, support_read, support_read_small}
use borrow.Author.Rules.{rules}
use Rattle.diagram.proofs.support.support.Goals as goal

pub returns-then-a-eq0 : goal.returns-then-a-eq0
returns-then-a-eq0 c = search (rules, support_leaf)

pub returns : goal.returns
returns c = search (rules, support_read, support_read_small)
