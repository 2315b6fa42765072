-- Laws of tests: of Bool, of `branch` and `cond`, and of an option of a number.
use Rattle.std.specs.Prelude.{◌≡◌, refl, Bool, true, false, cond, not, ◌&&◌, ◌||◌, ℕ}
use Rattle.std.proofs.lemmas.Bool.{false≢true}
use Rattle.std.proofs.Math.Option.{none, some, some-ne-none}
use Rattle.diagram.specs.Tensor.{branch}
-- for the crates above
pub use Rattle.std.proofs.lemmas.Bool.{or_right}
pub use Rattle.field.specs.PrimeLaws.{and_left, and_right}

-- by cases on a test, with its outcome in hand
pub cases : {P : Type 0} (b : Bool) → (b ≡ true → P) → (b ≡ false → P) → P
cases true f g = f refl
cases false f g = g refl

-- where one of two fails, both together do
pub and_false_left : (a b : Bool) → not a ≡ true → not (a && b) ≡ true
and_false_left true b e = absurd (false≢true e)
and_false_left false b e = refl

pub and_false_right : (a b : Bool) → not b ≡ true → not (a && b) ≡ true
and_false_right true b e = e
and_false_right false b e = refl

pub or_cases : {P : Type 0} (a b : Bool) → (a || b) ≡ true → (a ≡ true → P) → (b ≡ true → P) → P
or_cases true b e f g = f refl
or_cases false b e f g = g e

pub branch_same : {A : Type 0} (b : Bool) (a : A) → branch b a a ≡ a
branch_same true a = refl
branch_same false a = refl

pub branch_ap : {A B : Type 0} (f : A → B) (b : Bool) (x y : A) → f (branch b x y) ≡ branch b (f x) (f y)
branch_ap f true x y = refl
branch_ap f false x y = refl

pub branch_ap₂ : {A B C : Type 0} (f : A → B → C) (b : Bool) (x y : A) (u v : B)
    → f (branch b x y) (branch b u v) ≡ branch b (f x u) (f y v)
branch_ap₂ f true x y u v = refl
branch_ap₂ f false x y u v = refl

pub branch_swap : {A : Type 0} (a b : Bool) (x y z w : A)
    → branch a (branch b x y) (branch b z w) ≡ branch b (branch a x z) (branch a y w)
branch_swap true b x y z w = refl
branch_swap false b x y z w = refl

pub cond_same : {A : Type 0} (b : Bool) (a : A) → cond b a a ≡ a
cond_same true a = refl
cond_same false a = refl

pub cond_ap : {A B : Type 0} (f : A → B) (b : Bool) (x y : A) → f (cond b x y) ≡ cond b (f x) (f y)
cond_ap f true x y = refl
cond_ap f false x y = refl

pub no_some : {P : Type 0} {k : ℕ} → some k ≡ none → P
no_some {k = k} e = absurd (some-ne-none k e)
