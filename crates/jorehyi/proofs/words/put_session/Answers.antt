use Rattle.jorehyi.specs.WordsLaws.{wrote_session}
use Rattle.jorehyi.proofs.words.put_session.Goals as goal

pub returns : goal.returns
returns c = wrote_session _ c.requires c.put_number-a.ensures c.put_number-b.ensures
    c.put_number-c.ensures
    c.put_number-d.ensures c.put_registers-e.ensures
