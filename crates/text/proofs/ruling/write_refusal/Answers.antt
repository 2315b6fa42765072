-- `no`, at most 2 digits, at most 20 digits, two tabs and LF fit in 32 bytes.
use Rattle.text.specs.RulingLaws.{number_room, line_room_lem, end_room, refusal_wrote}
use Rattle.text.proofs.ruling.write_refusal.Goals as goal

pub labelled-a-requires : goal.labelled-a-requires
labelled-a-requires c = number_room c.args.out.now _ c.args.line c.requires c.number-n.ensures.1
    c.ranges.line.fits

pub labelled-b-requires : goal.labelled-b-requires
labelled-b-requires c = line_room_lem _ _ _ c.requires c.number-n.ensures.1 c.ranges.line.fits
    c.labelled-a.ensures

pub put_bytes-requires : goal.put_bytes-requires
put_bytes-requires c = end_room _ _ _ c.requires c.number-n.ensures.1 c.ranges.line.fits c.labelled-a.ensures
    c.labelled-b.ensures

pub returns : goal.returns
returns c = refusal_wrote _ _ _ c.requires c.number-n.ensures.1 c.ranges.line.fits
    _ c.number-n.ensures.0 c.labelled-a.ensures c.labelled-b.ensures
    c.put_bytes.ensures
