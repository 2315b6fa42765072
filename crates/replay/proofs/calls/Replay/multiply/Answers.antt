-- As `lower`, goal by goal, by the laws of its own call.
use borrow.Author.Rules.{rules}
use Rattle.std.proofs.Common.{sym, subst}
use Rattle.diagram.specs.Tensor.{bits}
use Rattle.diagram.specs.Tally.{cont}
use Rattle.diagram.specs.Diagram.{Ready, tensor}
use Rattle.replay.specs.ReplayLaws.{sets_cached_loans}
use Rattle.replay.proofs.calls.Replay.multiply.Goals as goal

pub set-requires : goal.set-requires
set-requires c =
    let a = c.args.a in
    let b = c.args.b in
    let d = c.args.self.now.diagram in
    let f = cont (tensor d a) (tensor d b) (bits c.args.m) in
    let ready : Ready d a b = search rules in
    λ κs. (
      search rules,
      (
        search rules,
        (
          λ p e. (let lent : Ready p.now a b = subst (λ x. Ready x a b) (sym e) ready in search rules),
          λ m t h. (let does = h.met in search (rules, sets_cached_loans f m)),
        ),
      ),
    )
