use Rattle.std.specs.Prelude.{ℕ, eqb}
use Rattle.std.proofs.Common.{rules}
use Rattle.std.proofs.lemmas.Iterator.{YieldsList-from_slice}
use Rattle.std.proofs.lemmas.Iterator.Search.{position_from_yields_List}
use Rattle.stdin.specs.Parts.{at_hand}
use Rattle.stdin.specs.PartsLaws.{before}
use Rattle.stdin.proofs.parts.Parts.put_before.Goals as goal

pub returns : goal.returns
returns g c =
    let hand = at_hand c.args.self.now in
    let found = position_from_yields_List (λ (x : ℕ). eqb x c.args.end) _ _ _ c.position.ensures.ran
    (YieldsList-from_slice hand c.iter.ensures.rest) (λ x r q k. search rules) in
    before c.args.end hand found c.unwrap_or-count.ensures c.put.ensures
