-- Laws of recursion on a measure: it is its body with itself for the recursive call; induction on the measure.
use Rattle.std.specs.Prelude.{◌≡◌}
use Prim.Native.Nat.{ℕ, zero, suc, ◌<◌}
use Rattle.std.proofs.Common.{arith}
use Rattle.diagram.specs.Descend.{descend_f, descend}

-- the law of such a function: it is its body with itself for the recursive call

module _ {Y X : Type 0} (measure : Y → ℕ) (stop : X) (body : (Y → X) → Y → X)
    (local : (rec rec' : Y → X) (y : Y) → ((z : Y) → measure z < measure y → rec z ≡ rec' z) → body rec y ≡ body rec' y)
  where
    descend_fuel : (n m : ℕ) (y : Y) → measure y < n → measure y < m
        → descend_f measure stop body n y ≡ descend_f measure stop body m y
    unfolding descend_f
    descend_fuel zero m y p q = absurd (omega arith)
    descend_fuel (suc n) zero y p q = absurd (omega arith)
    descend_fuel (suc n) (suc m) y p q =
        local (descend_f measure stop body n) (descend_f measure stop body m) y
        (λ z r. descend_fuel n m z (omega arith) (omega arith))

    pub descend_step : (y : Y) → descend measure stop body y ≡ body (descend measure stop body) y
    unfolding descend descend_f
    descend_step y =
        local (descend_f measure stop body (measure y)) (descend measure stop body) y
        (λ z r. descend_fuel (measure y) (suc (measure z)) z r (omega arith))

module _ {Y : Type 0} (measure : Y → ℕ) (P : Y → Type 0)
    (step : (y : Y) → ((z : Y) → measure z < measure y → P z) → P y) where
  below : (n : ℕ) (y : Y) → measure y < n → P y
  below zero y p = absurd (omega arith)
  below (suc n) y p = step y (λ z r. below n z (omega arith))

  pub descend_induction : (y : Y) → P y
  descend_induction y = below (suc (measure y)) y (omega arith)
