-- A word of fewer than 8 bytes, at most 8 digits and LF fit in 16 bytes.
use Rattle.text.specs.AnswerLaws.{labelled_label, labelled_room, labelled_wrote}
use Rattle.text.proofs.answer.pair.Goals as goal

pub labelled-e-requires : goal.labelled-e-requires
labelled-e-requires c = labelled_label c.args.word.now _ c.requires.1.0 c.requires.1.1 _ _ c.requires.0

pub put_bytes-requires : goal.put_bytes-requires
put_bytes-requires c = labelled_room c.args.word.now _ c.requires.1.0 c.requires.1.1 c.requires.0
    c.labelled-e.ensures

pub returns : goal.returns
returns c = labelled_wrote _ _ c.requires.1.0 c.requires.1.1 c.requires.0 c.labelled-e.ensures
    c.put_bytes.ensures
