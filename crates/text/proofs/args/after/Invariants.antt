use Rattle.std.specs.Prelude.{length}
use Rattle.text.specs.Args.{ArgsLoop}
use Rattle.text.specs.Split.{fields_after}
use Rattle.text.proofs.args.after.Given as goal

abbrev pub invariant-loop-field : goal.invariant-loop-field
invariant-loop-field l = ArgsLoop l.most (fields_after l.line l.e) l.args (length l.yielded)
