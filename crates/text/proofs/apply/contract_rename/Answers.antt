use Rattle.std.proofs.lemmas.Result.{err_from_is_err_and}
use borrow.Author.Rules.{rules}
use Rattle.text.specs.QubitsLaws.{middles_listed}
use Rattle.text.specs.ApplyLaws.{contracted_full, contracted_ready, contracted_renamable, contract_rename_refines}
use Rattle.text.proofs.apply.contract_rename.Goals as goal

pub returns-in_err-e-clause-does : goal.returns-in_err-e-clause-does
returns-in_err-e-clause-does c =
    let p = err_from_is_err_and c.from_residual.result c.from_residual.ensures.1 in
    rw p.1 (contracted_full _ (middles_listed _ c.middles-m.ensures.0) c.requires.1.1 _ _ c.in_err-e.ensures.does)

pub rename_all-requires : goal.rename_all-requires
rename_all-requires c =
    let e = c.in_ok-e.ensures.does in
    let m = middles_listed _ c.middles-m.ensures.0 in (
      contracted_ready _ m c.requires.1.1 _ _ e,
      (search rules, contracted_renamable _ m c.requires.1.1 _ _ e),
    )

pub returns-clause-does : goal.returns-clause-does
returns-clause-does c =
    contract_rename_refines _ (middles_listed _ c.middles-m.ensures.0) c.requires.1.1 _ _ c.in_ok-e.ensures.does _ _ _
    c.rename_all.result c.rename_all.ensures.does
