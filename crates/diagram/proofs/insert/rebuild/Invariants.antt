use Rattle.diagram.specs.Insert.{RebuildLoop}
use Rattle.diagram.proofs.insert.rebuild.Given as goal

abbrev pub invariant-loop-m : goal.invariant-loop-m
invariant-loop-m l = RebuildLoop l.initial.s l.s l.m l.fn.count l.buckets
