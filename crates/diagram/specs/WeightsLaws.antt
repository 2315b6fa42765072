-- The laws of the field's weights, passed on to the layers above.
use Rattle.std.specs.Prelude.{◌≡◌, ℕ}
use Rattle.std.proofs.Common.{ap, sym, ◌∙◌}
use Rattle.field.specs.Weight.{Weight}
use Rattle.field.specs.Field.{Represents}
pub use Rattle.field.specs.RingLaws.{plus_w_comm, plus_w_assoc, plus_w_zero, times_w_comm, times_w_assoc, times_w_one}
pub use Rattle.field.specs.RingLaws.{times_w_zero, times_w_plus, weight_number, number_weight, weight_zero, weight_one}
pub use Rattle.field.specs.RingLaws.{nonzero_weight, nonzero_not}
pub use Rattle.field.specs.InverseLaws.{inverse_nonzero}

-- the number that represents a weight is the weight's
pub represents_number : {r : ℕ} {w : Weight} → Represents r w → r ≡ w.number
represents_number {r} n = sym (number_weight r n.small) ∙ ap (λ (x : Weight). x.number) n.is
