use Rattle.std.proofs.lemmas.Result.{err_from_is_err_and}
use Rattle.fill.specs.FillLaws.{second_full, both, pair_does}
use Rattle.fill.proofs.pair.Goals as goal

pub returns-in_err-h-clause-pair : goal.returns-in_err-h-clause-pair
returns-in_err-h-clause-pair c =
    let p = err_from_is_err_and c.from_residual-in_err-h.result c.from_residual-in_err-h.ensures.1 in
    rw p.1
    (second_full c.args.d.now c.leaf.new.d c.leaf-2.new.d _ c.in_ok-l.ensures.leaf _ c.in_err-h.ensures.leaf)

pub join-requires : goal.join-requires
join-requires c =
    let made =
    both c.args.d.now c.leaf.new.d c.leaf-2.new.d _ c.in_ok-l.ensures.leaf _ c.requires.0
    c.in_ok-h.ensures.leaf in
    (c.in_ok-h.ensures.leaf.sound, made.1)

pub returns-clause-pair : goal.returns-clause-pair
returns-clause-pair c =
    let made =
    both c.args.d.now c.leaf.new.d c.leaf-2.new.d _ c.in_ok-l.ensures.leaf _ c.requires.0
    c.in_ok-h.ensures.leaf in
    pair_does c.args.d.now c.leaf-2.new.d c.join.new.self _ c.join.result made.0 c.join.ensures.does
