use Rattle.text.specs.PrintLaws.{wrote_then}
use Rattle.text.proofs.print.labelled.Goals as goal

pub returns : goal.returns
returns c = wrote_then c.put_bytes-e.ensures c.number.ensures
    c.requires
