use Rattle.std.proofs.Common.{◌≤◌, length}
use Rattle.text.specs.Limits.{line_room}
use Rattle.text.specs.Squeeze.{SqueezeFits}
use Rattle.lines.proofs.main.Given as goal

abbrev pub invariant-loop : goal.invariant-loop
invariant-loop l = (line_room ≤ length l.line) × SqueezeFits l.squeeze
