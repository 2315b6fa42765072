-- One return for each way that a byte is kept or left out.
use borrow.Author.Rules.{rules}
use Rattle.text.specs.SqueezeLaws.{push_tab, push_last_tab, push_byte, push_full}
use Rattle.text.proofs.squeeze.Squeeze.push.Goals as goal

pub returns-then-self-lt5 : goal.returns-then-self-lt5
returns-then-self-lt5 c = search (rules, push_tab)

pub returns-then-b-eq9 : goal.returns-then-b-eq9
returns-then-b-eq9 c = search (rules, push_last_tab)

pub returns-then-self-lt9 : goal.returns-then-self-lt9
returns-then-self-lt9 c = search (rules, push_byte)

pub returns : goal.returns
returns c = search (rules, push_full)
