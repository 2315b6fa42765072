-- std's search over the bytes from a on.
use native.Mathlib.Omega.{arith}
use Rattle.std.specs.Prelude.{◌≡◌, ℕ, length, take, drop, ◌-◌, eqb}
use Rattle.std.proofs.Common.{rules, ◌∙◌, take_all, length-drop}
use Rattle.std.proofs.lemmas.Iterator.{YieldsList-from_slice}
use Rattle.std.proofs.lemmas.Iterator.Search.{position_from_yields_List}
use Rattle.text.specs.SplitLaws.{ends_at}
use Rattle.text.proofs.split.end.Goals as goal

pub returns : goal.returns
returns c =
    let rest : take (length c.args.s.now - c.args.a) (drop c.args.a c.args.s.now) ≡ drop c.args.a c.args.s.now =
    take_all _ _ (omega (arith, length-drop c.args.a c.args.s.now)) in
    let found =
    position_from_yields_List (λ (x : ℕ). eqb x c.args.b) _ _ _ c.position.ensures.ran
    (YieldsList-from_slice (drop c.args.a c.args.s.now) (c.iter.ensures.rest ∙ rest)) (λ x r q k. search rules)
    in
    rw (c.unwrap_or.ensures, rest) (ends_at c.requires found)
