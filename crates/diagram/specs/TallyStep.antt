-- What a step of the tally does: tensors put in, an answer that does not depend on the set, and what then holds of the
-- set.
use Rattle.std.specs.Prelude.{◌≡◌, ℕ}
use Rattle.field.specs.Weight.{Weight}
use Rattle.diagram.specs.Tensor.{Tensor, scale}
use Rattle.diagram.specs.Tally.{Set, Step}
use Rattle.diagram.specs.Sets.{put_all, AllNormal, PrefixOf, NormalSet}
use Rattle.diagram.specs.Reach.{Covers}

-- whatever the set, f answers T and puts the same tensors in
pub record Writes {d : ℕ} (T : Tensor d) (f : Step d) : Type 0 where
  pub puts : Set d
  pub normal : AllNormal puts
  pub is : (s : Set d) → f s ≡ (T, put_all puts s)

-- a step that answers the multiple of another's answer, with the same set
pub record ScaledStep {d : ℕ} (c : Weight) (f g : Step d) : Type 0 where
  pub is : (s : Set d) → g s ≡ (scale c (f s).0, (f s).1)

-- what a step that was given the set s leaves
pub record SetAfter {d : ℕ} (s : Set d) (r : Tensor d × Set d) : Type 0 where
  -- the tensors of before stay, in their order, and others follow
  pub grown : PrefixOf s r.1
  -- all normal, none twice, none a multiple of another (normal_set_apart)
  pub normal : NormalSet s → NormalSet r.1
  -- each nonconstant cofactor of the answer has its normal multiple there (covers_exactly)
  pub covered : Covers r.1 r.0
