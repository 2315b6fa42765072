use Prim.Native.Nat.{◌+◌, ◌-◌}
use lib.ListN.{length}
use Rattle.text.specs.Engine.{contents, KeepsEngine}
use Rattle.text.specs.Progress.{ResumeLoop, reached}
use Rattle.text.proofs.engine.Engine.resume.Given as goal

abbrev pub invariant-loop-p : goal.invariant-loop-p
invariant-loop-p l = ResumeLoop l.text l.limit (contents l.initial.self) l.initial.self.diagram.now.store.now
    l.initial.out l.self.diagram.now.cache.now l.self.diagram.now.store.now l.out (reached l.p l.self)
    × KeepsEngine l.initial.self l.self

abbrev pub decreases-loop-p : goal.decreases-loop-p
decreases-loop-p l = length l.text + 1 - l.p.place
