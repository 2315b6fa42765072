-- Steps one after the other.

-- from a state any number of steps of a relation lead to another
pub data Star {A : Type 0} (Step : A → A → Type 0) (start : A) : A → Type 0 where
  none : Star Step start start
  more : {a b : A} → Star Step start a → Step a b → Star Step start b
