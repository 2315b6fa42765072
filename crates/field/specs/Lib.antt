-- What a reader must believe: the field (document 01, "The field"), and which weight a number of the code represents
pub mod Weight
pub mod Root
pub mod Field
-- laws: a commutative ring, the prime, inverses, the eighth root, the code's numbers
pub mod RingLaws
pub mod PrimeLaws
pub mod InverseLaws
pub mod RootLaws
pub mod FieldLaws
