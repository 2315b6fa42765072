use borrow.Author.Rules.{rules}
use native.Mathlib.Omega.{arith}
use Rattle.text.specs.SplitLinesLaws.{no_line, first_line_parted}
use Rattle.text.proofs.split.first_line.Goals as goal

pub returns-then-e-text : goal.returns-then-e-text
returns-then-e-text c = search (rules, no_line)

pub returns : goal.returns
returns c =
    let end = c.end-e.ensures in first_line_parted end (omega (arith, end.within, c.if-e-text.false))
