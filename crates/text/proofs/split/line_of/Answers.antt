use Rattle.text.specs.SplitLinesLaws.{line_stripped}
use Rattle.text.proofs.split.line_of.Goals as goal

pub returns : goal.returns
returns c =
    rw c.unwrap_or.ensures
    (line_stripped c.args.part c.strip_suffix.result c.as_slice.ensures c.strip_suffix.ensures.cases)
