use Rattle.jorehyi.specs.WordsLaws.{wrote_register}
use Rattle.jorehyi.proofs.words.put_register.Goals as goal

pub returns : goal.returns
returns c = wrote_register c.args.r c.requires c.unwrap_or-edge.ensures (rw (← c.is_some.ensures) c.from.ensures)
    c.put_word-a.ensures c.put_word-b.ensures c.put_number.ensures
