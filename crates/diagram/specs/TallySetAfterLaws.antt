-- Laws of the set after a step: each step of the tally leaves it as TallyStep says.
use Rattle.std.specs.Prelude.{ℕ, ◌-◌, ◌≤◌, ◌<◌}
use Rattle.diagram.specs.Tensor.{Tensor, Bits}
use Rattle.diagram.specs.Top.{Free}
use Rattle.diagram.specs.Tally.{Set, Step, sum, cont, low, build}
use Rattle.diagram.specs.TallyStepLaws.{writes_grows}
use Rattle.diagram.specs.TallyStep.{Writes, SetAfter}
use Rattle.diagram.specs.TallySumLaws.{sum_writes}
use Rattle.diagram.specs.TallyContLaws.{cont_writes}
use Rattle.diagram.specs.TallyLowLaws.{low_writes}
use Rattle.diagram.specs.TallyBuildLaws.{build_writes}
use Rattle.diagram.specs.Reach.{Covers, CoversAnswer}
use Rattle.diagram.specs.SetsNormalLaws.{normal_set_step}
use Rattle.diagram.specs.TallyCoverLaws.{sum_covers, cont_covers, low_covers, build_covers}

answered : {d : ℕ} {T : Tensor d} {f : Step d} (s : Set d) → Writes T f → CoversAnswer (f s) → SetAfter s (f s)
answered s w c = record { grown = writes_grows w s; normal = normal_set_step s w; covered = c }

module _ {d : ℕ} (s : Set d) where
  pub sum_set_after : (A B : Tensor d) → Covers s A → Covers s B → SetAfter s (sum A B s)
  sum_set_after A B ca cb = answered s (sum_writes A B) (sum_covers A B s ca cb)

  pub cont_set_after : (A B : Tensor d) (S : Bits) → SetAfter s (cont A B S s)
  cont_set_after A B S = answered s (cont_writes A B S) (cont_covers A B S s)

  pub low_set_after : (k : ℕ) (A : Tensor d) → 1 ≤ k → k < d → Free (k - 1) A → Covers s A → SetAfter s (low k A s)
  low_set_after k A n p f c = answered s (low_writes k n p A f) (low_covers k n p A s f c)

  pub build_set_after : (T : Tensor d) → SetAfter s (build T s)
  build_set_after T = answered s (build_writes T) (build_covers T s)
