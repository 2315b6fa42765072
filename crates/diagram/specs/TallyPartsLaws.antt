-- Building from parts: what a maker of gates may do with joins alone, whichever of them turn out to be equal.
use Rattle.std.specs.Prelude.{◌≡◌, refl, Bool, true, false, ℕ, zero, suc, ◌<◌}
use Rattle.std.proofs.Common.{ap, ap₂, sym, ◌∙◌, not-suc-le-zero, le_of_suc-le-suc}
use Rattle.std.proofs.Math.Path.{fun_ext}
use Rattle.field.specs.Weight.{Weight}
use Rattle.diagram.specs.Tensor.{Tensor, split, branch, Bits, same, constant, fix, joined, assign}
use Rattle.diagram.specs.TensorLaws.{same_eq, joined_self}
use Rattle.diagram.specs.TopLaws.{top_constant, top_joined}
use Rattle.diagram.specs.Top.{FreeBelow}
use Rattle.diagram.specs.TestLaws.{cases}
use Rattle.diagram.specs.TopFreeLaws.{joined_low, joined_high}
use Rattle.diagram.specs.Tally.{Set, join, build}
use Rattle.diagram.specs.TallyStepLaws.{writes_again}
use Rattle.diagram.specs.TallyBuildLaws.{build_writes}
use Rattle.diagram.specs.TallyCasesLaws.{join_same, build_constant, build_parts}
use Rattle.diagram.specs.Tabulate.{cons, tabulate}

pub build_weight : {d : ℕ} (w : Weight) (s : Set d) → build (constant d w) s ≡ (constant d w, s)
build_weight {d} w s = build_constant (constant d w) s (top_constant d w)

-- the parts at k built, low before high, and then joined
pub build_joined : {d : ℕ} (k : ℕ) (L H : Tensor d) (s : Set d) → k < d → FreeBelow (suc k) L → FreeBelow (suc k) H
    → (s1 s2 : Set d)
    → build L s ≡ (L, s1) → build H s1 ≡ (H, s2) → build (joined k L H) s ≡ join k L H s2
build_joined k L H s p f g s1 s2 low high = cases (same L H) equal differ
  where
    equal : same L H ≡ true → build (joined k L H) s ≡ join k L H s2
    equal e =
        let q : L ≡ H = same_eq L H e in
        let again : build L s1 ≡ (L, s1) = rw low at (writes_again (build_writes L) s) in
        let none : s1 ≡ s2 = ap (λ r. r.1) (sym again ∙ ap (λ T. build T s1) q ∙ high) in
        ap (λ T. build T s) (ap (joined k L) (sym q) ∙ joined_self k L) ∙ low ∙ ap (λ x. (L, x)) none
        ∙ sym (join_same k L H s2 e)

    differ : same L H ≡ false → build (joined k L H) s ≡ join k L H s2
    differ e =
        build_parts (joined k L H) s k (top_joined k L H p f g e) {s1 = s1} {s2 = s2} {L = L} {H = H}
        (rw (joined_low k L H p f) low) (rw (joined_high k L H p g) high)

-- a tensor that is given by its entries, with an index fixed

set_cons : (k : ℕ) (b c : Bool) (g : Bits) → assign (suc k) b (cons c g) ≡ cons c (assign k b g)
unfolding assign
set_cons k b c g = fun_ext go
  where
    go : (i : ℕ) → assign (suc k) b (cons c g) i ≡ cons c (assign k b g) i
    go zero = refl
    go (suc i) = refl

set_first : (b c : Bool) (g : Bits) → assign 0 b (cons c g) ≡ cons b g
unfolding assign
set_first b c g = fun_ext go
  where
    go : (i : ℕ) → assign 0 b (cons c g) i ≡ cons b g i
    go zero = refl
    go (suc i) = refl

pub fix_tabulate : (d k : ℕ) (b : Bool) (f : Bits → Weight) → k < d
    → fix k b (tabulate d f) ≡ tabulate d (λ g. f (assign k b g))
unfolding fix tabulate
fix_tabulate zero k b f p = absurd (not-suc-le-zero p)
fix_tabulate (suc d) zero b f p = ap₂ split (part b false) (part b true)
  where
    part : (b c : Bool)
        → branch b (tabulate d (λ g. f (cons false g))) (tabulate d (λ g. f (cons true g))) ≡ tabulate d
        (λ g. f (assign 0 b (cons c g)))
    part true c = ap (tabulate d) (fun_ext (λ g. ap f (sym (set_first true c g))))
    part false c = ap (tabulate d) (fun_ext (λ g. ap f (sym (set_first false c g))))
fix_tabulate (suc d) (suc k) b f p =
    ap₂ split (fix_tabulate d k b (λ g. f (cons false g)) (le_of_suc-le-suc p) ∙ part false)
    (fix_tabulate d k b (λ g. f (cons true g)) (le_of_suc-le-suc p) ∙ part true)
  where
    part : (c : Bool) → tabulate d (λ g. f (cons c (assign k b g))) ≡ tabulate d (λ g. f (assign (suc k) b (cons c g)))
    part c = ap (tabulate d) (fun_ext (λ g. ap f (sym (set_cons k b c g))))
