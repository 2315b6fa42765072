use Rattle.text.specs.Number.{ReadDigitsLoop}
use Rattle.text.proofs.number.read_digits.Given as goal

abbrev pub invariant-loop-x : goal.invariant-loop-x
invariant-loop-x l = ReadDigitsLoop l.s l.v l.x-index
