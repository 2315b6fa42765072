-- Comparing two tensors (document 01, `cmp`), and two edges of one store.
use Rattle.std.specs.Prelude.{◌≡◌, ◌≢◌, cond, ◌&&◌, not, List, ℕ, ◌<◌}
use Rattle.field.specs.Weight.{modulus, Weight, to_weight, times_w, inverse_w, Nonzero}
use Rattle.diagram.specs.Tensor.{Tensor, same, is_zero, scale, first}
use Rattle.diagram.specs.Meaning.{Valid}
use Rattle.diagram.specs.Store.{tensor_of, Sound}
use Rattle.diagram.specs.declared.node.Edge.{Edge}
use Rattle.diagram.specs.declared.make.State.{State}
use Rattle.diagram.specs.declared.compare.Comparison.{Comparison}
use Rattle.diagram.specs.declared.compare.Comparison.TheVariants.{Same, Factor, Differ}

-- the one f that can make A f times B, by their first nonzero values
unfoldable pub ratio : {d : ℕ} → Tensor d → Tensor d → Weight
ratio A B = times_w (first A) (inverse_w (first B))

-- "answers `same`; or `factor` and f where a is f times b, f not 0 or 1; else `differ`. Zero against nonzero is
-- `differ`."
unfoldable pub compared : {d : ℕ} → Tensor d → Tensor d → Comparison
compared A B =
    cond (same A B) Same
    (cond (not (is_zero A) && same A (scale (ratio A B) B)) (Factor (ratio A B).number)
    Differ)

-- what each answer says
pub record NoMultiple {d : ℕ} (A B : Tensor d) : Type 0 where
  pub differ : A ≢ B
  pub multiple : (f : Weight) → Nonzero f → A ≢ scale f B

pub record IsFactor {d : ℕ} (f : ℕ) (A B : Tensor d) : Type 0 where
  pub differ : A ≢ B
  pub small : f < modulus
  pub nonzero : Nonzero (to_weight f)
  pub is : A ≡ scale (to_weight f) B

abbrev pub ComparisonMeans : {d : ℕ} → Tensor d → Tensor d → Comparison → Type 0
ComparisonMeans A B Same = A ≡ B
ComparisonMeans A B (Factor f) = IsFactor f A B
ComparisonMeans A B Differ = NoMultiple A B

-- r is how the tensors of a and b compare, in each store that has them
pub record CompareEnsures (a b : Edge) (r : Comparison) : Type 0 where
  pub is : (s : List ℕ) (st : State) → Sound s st → Valid st.count a → Valid st.count b
      → compared (tensor_of s st a) (tensor_of s st b) ≡ r
