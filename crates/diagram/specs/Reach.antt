-- What a tensor reaches by fixing its top, then the top of what is left: the normal multiples that its diagram's nodes
-- stand for.
use Rattle.std.specs.Prelude.{◌≡◌, Bool, true, List, ℕ, suc, ◌<◌}
use Rattle.std.proofs.Math.Option.{some}
use Rattle.diagram.specs.Tensor.{Tensor, top, fix, normal}
use Rattle.diagram.specs.Tally.{Set, member}

pub data Reachable {d : ℕ} (x : Tensor d) : Tensor d → Type 0 where
  itself : {T : Tensor d} (k : ℕ) → top T ≡ some k → x ≡ normal T → Reachable x T
  part : {T : Tensor d} (k : ℕ) → top T ≡ some k → (b : Bool) → Reachable x (fix k b T) → Reachable x T

-- all that A reaches is in the set
pub record Covers {d : ℕ} (s : Set d) (A : Tensor d) : Type 0 where
  pub is : (x : Tensor d) → Reachable x A → member x s ≡ true

-- C is got from T by fixing indices 0 to j-1
pub data IsCofactorBelow {d : ℕ} (T : Tensor d) : ℕ → Tensor d → Type 0 where
  start : IsCofactorBelow T 0 T
  more : {j : ℕ} {C : Tensor d} → IsCofactorBelow T j C → (b : Bool) → IsCofactorBelow T (suc j) (fix j b C)

-- x is the normal multiple of a nonconstant tensor got from T by fixing indices 0 to j-1, for a j below n
pub record NormalCofactor {d : ℕ} (n : ℕ) (T x : Tensor d) : Type 0 where
  pub j : ℕ
  pub less : j < n
  pub tensor : Tensor d
  pub got : IsCofactorBelow T j tensor
  pub index : ℕ
  pub depends : top tensor ≡ some index
  pub is : x ≡ normal tensor

-- the set that a step leaves covers its answer
abbrev pub CoversAnswer : {d : ℕ} → Tensor d × Set d → Type 0
CoversAnswer r = Covers r.1 r.0

-- "the normal multiples of the nonconstant tensors got from" those of the list "by fixing indices 0 to j-1", for j
-- below n
pub record IsKept {d : ℕ} (n : ℕ) (filled : List (Tensor d)) (x : Tensor d) : Type 0 where
  pub register : Tensor d
  pub present : member register filled ≡ true
  pub cofactor : NormalCofactor n register x
