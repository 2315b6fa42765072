-- Powers of a weight, and what it is to be an eighth root that is no root of a smaller power.
use Rattle.std.specs.Prelude.{◌≡◌, ◌≢◌, ℕ, zero, suc, ◌≤◌, ◌<◌}
use Rattle.field.specs.Weight.{Weight, 1w, times_w, negate_w}

-- w to the power k
unfoldable pub power_w : ℕ → Weight → Weight
power_w zero w = 1w
power_w (suc k) w = times_w w (power_w k w)

-- a primitive eighth root of 1: its eighth power is 1, no power before it is, and its fourth is -1
pub record PrimitiveEighthRoot (w : Weight) : Type 0 where
  pub fourth : power_w 4 w ≡ negate_w 1w
  pub eighth : power_w 8 w ≡ 1w
  pub none_before : (k : ℕ) → 1 ≤ k → k < 8 → power_w k w ≢ 1w
