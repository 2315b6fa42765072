use borrow.Author.Rules.{rules}
use Rattle.replay.specs.ReplayLaws.{may_undo, attempt_loans, attempt_edge}
use Rattle.replay.proofs.calls.Replay.set.Goals as goal

pub attempt-requires : goal.attempt-requires
attempt-requires g c =
    λ κs. (
      search rules,
      record {
        may = c.requires.takes;
        ends = λ m t h. may_undo c.args.self.now t m (c.requires.gives m t h).1;
      },
    )

pub returns-in-Ok-clause-loans : goal.returns-in-Ok-clause-loans
returns-in-Ok-clause-loans g c = attempt_loans c.args.self.now c.requires.gives c.attempt.ensures

pub returns-in-Err-clause-loans : goal.returns-in-Err-clause-loans
returns-in-Err-clause-loans g c = attempt_loans c.args.self.now c.requires.gives c.attempt.ensures

pub returns-in-Ok-clause-replay : goal.returns-in-Ok-clause-replay
returns-in-Ok-clause-replay g c =
    attempt_edge c.args.self.now c.args.d (λ m t h. (c.requires.gives m t h).1) c.attempt.ensures c.in-Ok.is
    (search rules)
