-- `gate`, or a word before numbers.
use Rattle.std.proofs.Common.{◌∙◌, ap₂}
use Rattle.text.specs.Call.{known_call}
use Rattle.text.specs.LineLaws.{line_gate, line_other, line_read}
use Rattle.text.specs.SplitLaws.{same_word}
use Rattle.text.proofs.line.read.Goals as goal

pub returns-then-eq : goal.returns-then-eq
returns-then-eq c = line_read (c.read.ensures
    ∙ line_gate c.end-e.ensures (same_word _ c.if-eq.ensures c.as_slice.ensures))

pub returns : goal.returns
returns c = line_read (c.make.ensures ∙ ap₂ known_call c.read-2.ensures c.after.ensures
    ∙ line_other c.end-e.ensures (same_word _ c.if-eq.ensures c.as_slice.ensures))
