use Rattle.text.specs.RespondLaws.{responds_as}
use Rattle.text.proofs.engine.Engine.respond.Goals as goal

pub returns-in-Drop-clause-responds : goal.returns-in-Drop-clause-responds
returns-in-Drop-clause-responds c =
    let same = c.drop_register.ensures.diagram in
    rw same (responds_as c.in-Drop.is (rw same at ((c.drop_register.ensures.responds.on _).on _ c.requires.0)))

pub returns-in-Cmp-clause-responds : goal.returns-in-Cmp-clause-responds
returns-in-Cmp-clause-responds c = responds_as c.in-Cmp.is ((c.cmp.ensures.on _).on _ c.requires.0)
