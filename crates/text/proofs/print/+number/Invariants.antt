use Rattle.text.proofs.print.+number.Given as goal

abbrev pub decreases-number : goal.decreases-number
decreases-number l = l.n
