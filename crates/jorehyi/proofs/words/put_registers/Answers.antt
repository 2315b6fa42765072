use Rattle.jorehyi.specs.WordsLaws.{registers_start, registers_room, registers_step, registers_end}
use Rattle.jorehyi.proofs.words.put_registers.Goals as goal

pub loop-r-init : goal.loop-r-init
loop-r-init c = registers_start

pub put_register-e-requires : goal.put_register-e-requires
put_register-e-requires c = registers_room c.loop-r.invariant c.loop-r-test.true
    c.requires

pub loop-r-preserved : goal.loop-r-preserved
loop-r-preserved c = registers_step c.requires c.loop-r.invariant c.loop-r-test.true
    c.put_register-e.ensures

pub shape_of-out : goal.shape_of-out
shape_of-out c = c.loop-r.invariant.length

pub returns : goal.returns
returns c = registers_end c.loop-r.invariant c.loop-r-test.false
