-- The set as a list: growing, putting in, what is present, nothing twice, all normal.
use Rattle.std.specs.Prelude.{◌≡◌, true, false, List, [], ◌∷◌, ◌++◌, ℕ}
use Rattle.diagram.specs.Tensor.{Normal}
use Rattle.diagram.specs.Tally.{Set, member, put}

-- t is s and then more
pub record PrefixOf {A : Type 0} (s t : List A) : Type 0 where
  pub more : List A
  pub is : t ≡ s ++ more

-- tensors put in, one after another
unfoldable pub put_all : {d : ℕ} → Set d → Set d → Set d
put_all [] s = s
put_all (x ∷ xs) s = put_all xs (put x s)

-- each of xs is in s
abbrev pub Present : {d : ℕ} → Set d → Set d → Type 0
Present [] s = Unit {0}
Present (x ∷ xs) s = (member x s ≡ true) × Present xs s

-- no tensor twice
abbrev pub Distinct : {d : ℕ} → Set d → Type 0
Distinct [] = Unit {0}
Distinct (x ∷ s) = (member x s ≡ false) × Distinct s

-- each of s is normal
abbrev pub AllNormal : {d : ℕ} → Set d → Type 0
AllNormal [] = Unit {0}
AllNormal (x ∷ s) = Normal x × AllNormal s

-- what the tally's set always is: only normal tensors, none twice
pub record NormalSet {d : ℕ} (s : Set d) : Type 0 where
  pub distinct : Distinct s
  pub normal : AllNormal s
