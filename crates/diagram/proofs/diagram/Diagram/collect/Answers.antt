use Rattle.diagram.specs.CollectLaws.{sound_children, sweep_rollback, collect_ensures}
use Rattle.diagram.proofs.diagram.Diagram.collect.Goals as goal

pub sweep-count-requires : goal.sweep-count-requires
sweep-count-requires c =
    let pre = c.requires in
    (pre.sound.stored.room, (pre.sound.stored.numbered, (sound_children pre.sound, pre.registers)))

pub rollback-requires : goal.rollback-requires
rollback-requires c = sweep_rollback _ _ c.requires c.sweep-count.ensures c.sweep-count.auto.store
    c.fewer-buckets.ensures

pub returns-clause-collects : goal.returns-clause-collects
returns-clause-collects c = collect_ensures _ _ c.requires c.sweep-count.ensures c.rollback.ensures.rollback
