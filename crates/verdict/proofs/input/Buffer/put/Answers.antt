use Rattle.std.proofs.Common.{rules, refl}
use Rattle.verdict.specs.InputLaws.{feeds_over}
use Rattle.verdict.proofs.input.Buffer.put.Goals as goal

pub returns-else-self-room-clause-feeds : goal.returns-else-self-room-clause-feeds
returns-else-self-room-clause-feeds c = feeds_over (search rules) refl (search rules)
