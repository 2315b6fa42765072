-- The first line, then the others.
use Rattle.std.specs.Prelude.{◌≡◌}
use Rattle.std.proofs.Common.{rules}
use Rattle.text.specs.Check.{faulty}
use Rattle.text.specs.ArgsLaws.{ok_or_none, ok_or_some}
use Rattle.text.specs.CheckTextLaws.{checked_none, checked_bad, checked_of_lem}
use Rattle.text.specs.declared.check.Fault.TheVariants.{Header as BadHeader}
use Rattle.text.proofs.check.check.Goals as goal

pub returns-then-is_empty : goal.returns-then-is_empty
returns-then-is_empty c = checked_none _ (search rules)

pub returns-in_err-n : goal.returns-in_err-n
returns-in_err-n c =
    let fault : c.from_residual.result ≡ faulty BadHeader 1 = search rules in
    rw fault (checked_bad (search rules) c.end-e.ensures c.read_header.ensures (ok_or_none _ c.in_err-n.ensures.value))

pub returns : goal.returns
returns c = checked_of_lem (search rules) c.end-e.ensures c.read_header.ensures (ok_or_some _ c.in_ok-n.ensures.value)
    c.check_lines.ensures
