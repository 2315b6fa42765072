use Rattle.std.proofs.Common.{◌∙◌}
use Rattle.text.specs.CheckLaws.{header_read, header_lines, header_other, header_known, header_unknown}
use Rattle.text.specs.SplitLaws.{same_word}
use Rattle.text.proofs.check.read_header.Goals as goal

pub returns-in_err-after : goal.returns-in_err-after
returns-in_err-after c = header_read (c.from_residual.ensures ∙ header_unknown c.in_err-after.ensures
    ∙ header_lines c.end-e.ensures (same_word _ c.if-eq.ensures c.as_slice.ensures))

pub returns-then-eq : goal.returns-then-eq
returns-then-eq c = header_read (c.header_number.ensures ∙ header_known c.in_ok-after.ensures
    ∙ header_lines c.end-e.ensures (same_word _ c.if-eq.ensures c.as_slice.ensures))

pub returns : goal.returns
returns c = header_read (header_other c.end-e.ensures (same_word _ c.if-eq.ensures c.as_slice.ensures))
