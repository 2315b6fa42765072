use Rattle.jorehyi.specs.Words.{RegistersLoop}
use Rattle.jorehyi.proofs.words.put_registers.Given as goal

abbrev pub invariant-loop-r : goal.invariant-loop-r
invariant-loop-r l = RegistersLoop l.initial.out l.at l.r-items l.out l.r-index l.e
