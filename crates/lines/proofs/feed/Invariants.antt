use Rattle.std.proofs.Common.{◌≤◌, length}
use Rattle.text.specs.Limits.{line_room}
use Rattle.text.specs.Squeeze.{SqueezeFits}
use Rattle.lines.proofs.feed.Given as goal

abbrev pub invariant-loop-b : goal.invariant-loop-b
invariant-loop-b l = (line_room ≤ length l.line) × SqueezeFits l.next
