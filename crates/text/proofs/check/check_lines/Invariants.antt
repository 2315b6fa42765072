use Rattle.std.specs.Slice.Iter.{split_inclusive_rest}
use Rattle.text.specs.Check.{CheckLoop}
use Rattle.text.proofs.check.check_lines.Given as goal

abbrev pub invariant-loop-part : goal.invariant-loop-part
invariant-loop-part l = CheckLoop l.n l.text l.start (split_inclusive_rest l.part-iterator) l.count l.parting
