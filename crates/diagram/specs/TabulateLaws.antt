-- Laws of tabulated tensors: their value at an assignment.
use Rattle.std.specs.Prelude.{◌≡◌, refl, Bool, true, false, ℕ, zero, suc, ◌/◌, ◌^◌, ◌<◌}
use Rattle.std.proofs.Common.{ap, ap₂, sym, ◌∙◌, arith, not-suc-le-zero, le_of_suc-le-suc}
use Rattle.std.proofs.Math.Path.{fun_ext}
use Rattle.field.specs.Weight.{Weight}
use Rattle.diagram.specs.Tensor.{branch, Bits, tail, bits, at, value}
use Rattle.diagram.specs.TensorLaws.{power_suc}
use Rattle.diagram.specs.Tabulate.{tabulate, Sees, cons}

cons_agree : (d : ℕ) (b : Bool) (g h : Bits) → ((k : ℕ) → k < d → g k ≡ h k) → (k : ℕ) → k < suc d
    → cons b g k ≡ cons b h k
cons_agree d b g h e zero p = refl
cons_agree d b g h e (suc k) p = e k (le_of_suc-le-suc p)

pub sees_cons : (d : ℕ) (b : Bool) (f : Bits → Weight) → Sees (suc d) f → Sees d (λ g. f (cons b g))
sees_cons d b f s g h e = s (cons b g) (cons b h) (cons_agree d b g h e)

cons_tail : (g : Bits) → cons (g 0) (tail g) ≡ g
cons_tail g = fun_ext go
  where
    go : (k : ℕ) → cons (g 0) (tail g) k ≡ g k
    go zero = refl
    go (suc k) = refl

branch_cons : (f : Bits → Weight) (b : Bool) (g : Bits) → branch b (f (cons false g)) (f (cons true g)) ≡ f (cons b g)
branch_cons f true g = refl
branch_cons f false g = refl

-- its value at an assignment, where f looks at no other index ..
pub at_tabulate : (d : ℕ) (f : Bits → Weight) → Sees d f → (g : Bits) → at (tabulate d f) g ≡ f g
unfolding at tabulate
at_tabulate zero f s g = s _ g (λ k p. absurd (not-suc-le-zero p))
at_tabulate (suc d) f s g =
    ap₂ (branch (g 0)) (at_tabulate d _ (sees_cons d false f s) (tail g))
    (at_tabulate d _ (sees_cons d true f s) (tail g))
    ∙ branch_cons f (g 0) (tail g) ∙ ap f (cons_tail g)

pub bits_none : (k : ℕ) → bits 0 k ≡ false
unfolding bits
bits_none zero = refl
bits_none (suc k) = bits_none k

-- .. and at an assignment written as a number, for every f
pub tabulate_value : (d : ℕ) (f : Bits → Weight) (v : ℕ) → v < 2 ^ d → value (tabulate d f) v ≡ f (bits v)
unfolding value at tabulate bits
tabulate_value zero f v p = let z : v ≡ 0 = omega arith in rw z (ap f (fun_ext (λ k. sym (bits_none k))))
tabulate_value (suc d) f v p =
    let half : v / 2 < 2 ^ d = omega (arith, power_suc d) in
    ap₂ (branch (bits v 0)) (tabulate_value d (λ g. f (cons false g)) (v / 2) half)
    (tabulate_value d (λ g. f (cons true g)) (v / 2) half)
    ∙ branch_cons f (bits v 0) (bits (v / 2)) ∙ ap f (cons_tail (bits v))
