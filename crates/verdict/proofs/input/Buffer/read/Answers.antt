use Rattle.std.proofs.Common.{rules}
use Rattle.verdict.specs.InputLaws.{takes_failed}
use Rattle.verdict.proofs.input.Buffer.read.Goals as goal

pub returns-in_err-count-clause-takes : goal.returns-in_err-count-clause-takes
returns-in_err-count-clause-takes g c =
    takes_failed _ c.read.result _ c.read.ensures.bytes (search rules) c.from_residual.ensures.0
