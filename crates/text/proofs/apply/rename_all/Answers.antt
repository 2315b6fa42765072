use Rattle.std.proofs.lemmas.Result.{err_from_is_err_and}
use borrow.Author.Rules.{rules}
use Rattle.text.specs.QubitsLaws.{below_second}
use Rattle.text.specs.ApplyLaws.{free_second, ready_second, renamed_one, renamed_two}
use Rattle.text.specs.ApplyLaws.{renamed_full}
use Rattle.text.proofs.apply.rename_all.Goals as goal

pub returns-in_err-e-in-Two-clause-does : goal.returns-in_err-e-in-Two-clause-does
returns-in_err-e-in-Two-clause-does c =
    let p = err_from_is_err_and c.from_residual.result c.from_residual.ensures.1 in
    rw p.1 (renamed_full c.in-Two.is c.requires.1.1 c.in_err-e-in-Two.ensures.does)

pub rename-requires-in-Two-2 : goal.rename-requires-in-Two-2
rename-requires-in-Two-2 c =
    let e = c.in_ok-e-in-Two.ensures.does in (
      ready_second c.in-Two.is c.requires.1.1 e,
      (search (rules, below_second), free_second c.in-Two.is c.requires.1.1 e),
    )

pub returns-in-One-clause-does : goal.returns-in-One-clause-does
returns-in-One-clause-does c = search (rules, renamed_one)

pub returns-in_ok-e-in-Two-clause-does : goal.returns-in_ok-e-in-Two-clause-does
returns-in_ok-e-in-Two-clause-does c = let e = c.in_ok-e-in-Two.ensures.does in search (rules, renamed_two, e)
