use Rattle.std.specs.Prelude.{false}
use Rattle.text.specs.List.{GatesLoop, KeepsText, part_of, stand}
use Rattle.text.proofs.list.Lists.gates.Given as goal

abbrev pub invariant-loop : goal.invariant-loop
invariant-loop l =
    GatesLoop (part_of l.initial.self l.r l.count) (stand false l.initial.self)
    l.initial.self.engine.diagram.now.store.now
    l.self.engine.diagram.now.cache.now l.self.engine.diagram.now.store.now l.counter (stand false l.self)
    × KeepsText l.initial.self l.self
