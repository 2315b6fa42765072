-- The field's weights, passed on to the layers above, which name no field.
pub use Rattle.field.specs.Weight.{modulus, Weight, to_weight, 0w, 1w, plus_w, times_w, negate_w, same_w}
pub use Rattle.field.specs.Weight.{ones_power, inverse_w}
pub use Rattle.field.specs.Weight.{eighth_root, imaginary_unit, root_two, inverse_root_two, Nonzero}
pub use Rattle.field.specs.Field.{Represents}
