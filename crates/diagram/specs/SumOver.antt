-- Adding over a set of indices (document 01: "cont adds their products over all settings of S").
use Rattle.std.specs.Prelude.{Bool, true, false, cond, ℕ, zero, suc}
use Rattle.field.specs.Weight.{Weight, plus_w}
use Rattle.diagram.specs.Tensor.{Tensor, weight, split, Bits, tail, plus, assign}

-- the lowest index, added over or kept
unfoldable pub add_or_keep : {d : ℕ} → Bool → Tensor d → Tensor d → Tensor (suc d)
add_or_keep true l h = let t = plus l h in split t t
add_or_keep false l h = split l h

-- T added over both settings of each index in S
unfoldable pub sum_over : {d : ℕ} → Bits → Tensor d → Tensor d
sum_over S (weight w) = weight w
sum_over S (split l h) = add_or_keep (S 0) (sum_over (tail S) l) (sum_over (tail S) h)

-- in values: g added over all settings of the members of S below n, the other indices being as in f
unfoldable pub settings : ℕ → Bits → (Bits → Weight) → Bits → Weight
settings zero S g f = g f
settings (suc n) S g f =
    cond (S n) (plus_w (settings n S g (assign n false f)) (settings n S g (assign n true f))) (settings n S g f)
