use borrow.Author.Rules.{rules}
use Rattle.std.proofs.Common.{sym, subst}
use Rattle.diagram.specs.Tally.{low}
use Rattle.diagram.specs.Diagram.{Ready, MayLower, tensor}
use Rattle.replay.specs.ReplayLaws.{sets_cached_loans}
use Rattle.replay.proofs.calls.Replay.lower.Goals as goal

pub set-requires : goal.set-requires
set-requires c =
    let a = c.args.a in
    let k = c.args.k in
    let d = c.args.self.now.diagram in
    let f = low k (tensor d a) in
    let ready : Ready d a a × MayLower d a k = (search rules, c.requires.1.1) in
    λ κs. (
      search rules,
      (
        search rules,
        (
          λ p e. (let lent = subst (λ x. Ready x a a × MayLower x a k) (sym e) ready in search rules),
          λ m t h. (let does = h.met in search (rules, sets_cached_loans f m)),
        ),
      ),
    )
