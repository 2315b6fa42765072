use Rattle.std.specs.Prelude.{refl}
use Rattle.std.proofs.lemmas.Result.{err_from_is_err_and}
use Rattle.text.specs.PerformLaws.{performs_call}
use Rattle.text.proofs.engine.Engine.perform.Goals as goal

pub returns-in_err-respond-clause-performs : goal.returns-in_err-respond-clause-performs
returns-in_err-respond-clause-performs c =
    let p = err_from_is_err_and c.from_residual.result c.from_residual.ensures.1 in
    rw p.1 (performs_call c.in_err-respond.ensures.responds refl)

pub returns-clause-performs : goal.returns-clause-performs
returns-clause-performs c = performs_call c.in_ok-respond.ensures.responds refl
