-- "The eighth root is 16, i is 256": its square is i, and it is a primitive eighth root.
use Rattle.std.specs.Prelude.{◌≡◌, refl, ◌≢◌, ℕ, zero, suc, ◌≤◌, ◌<◌}
use Rattle.std.proofs.Common.{ap, arith}
use Rattle.field.specs.Weight.{Weight, to_weight, 1w, times_w, negate_w, eighth_root, imaginary_unit}
use Rattle.field.specs.RingLaws.{weight_path}
use Rattle.field.specs.Root.{power_w, PrimitiveEighthRoot}

pub eighth_root_lem : times_w eighth_root eighth_root ≡ imaginary_unit
unfolding times_w to_weight eighth_root imaginary_unit
eighth_root_lem = weight_path refl

-- a weight with a number above 1 is not 1
above_one : (n : ℕ) {w : Weight} → w.number ≡ n → 1 < n → w ≢ 1w
unfolding to_weight 1w
above_one n q h e = let z : ◌≡◌ {A = ℕ} _ 1 = ap (λ (w : Weight). w.number) e in omega arith

none_before : (k : ℕ) → 1 ≤ k → k < 8 → power_w k eighth_root ≢ 1w
unfolding power_w times_w to_weight eighth_root 1w
none_before zero p q = absurd (omega arith)
none_before (suc zero) p q = above_one 16 refl (omega arith)
none_before (suc (suc zero)) p q = above_one 256 refl (omega arith)
none_before (suc (suc (suc zero))) p q = above_one 4096 refl (omega arith)
none_before (suc (suc (suc (suc zero)))) p q = above_one 65536 refl (omega arith)
none_before (suc (suc (suc (suc (suc zero))))) p q = above_one 65521 refl (omega arith)
none_before (suc (suc (suc (suc (suc (suc zero)))))) p q = above_one 65281 refl (omega arith)
none_before (suc (suc (suc (suc (suc (suc (suc zero))))))) p q = above_one 61441 refl (omega arith)
none_before (suc (suc (suc (suc (suc (suc (suc (suc k)))))))) p q = absurd (omega arith)

pub eighth_root_primitive : PrimitiveEighthRoot eighth_root
unfolding power_w times_w to_weight negate_w eighth_root 1w
eighth_root_primitive = record { fourth = weight_path refl; eighth = weight_path refl; none_before = none_before }
