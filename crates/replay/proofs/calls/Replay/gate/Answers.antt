-- As `unit`, goal by goal, by the laws of its own call.
use borrow.Author.Rules.{rules}
use Rattle.std.proofs.Common.{sym, subst}
use Rattle.diagram.specs.Tensor.{indices}
use Rattle.diagram.specs.Tally.{build}
use Rattle.diagram.specs.Gate.{gate_tensor}
use Rattle.diagram.specs.Diagram.{IsSound}
use Rattle.replay.specs.ReplayLaws.{sets_step_loans}
use Rattle.replay.proofs.calls.Replay.gate.Goals as goal

pub set-requires : goal.set-requires
set-requires c =
    λ κs. (
      search rules,
      (
        search rules,
        (
          λ p e. (let sound : IsSound p.now = subst IsSound (sym e) c.requires.0.sound in search rules),
          λ m t h. (let does = h.met in search (rules, sets_step_loans (build (gate_tensor indices c.args.g)) m)),
        ),
      ),
    )
