-- What the writes have said. Each line that is run has one write; after one that failed there is no other.
use Rattle.std.specs.Prelude.{◌≡◌, Bool, true, false, List, [], ◌∷◌, ◌++◌, ℕ, ◌+◌, replicate, is_ok, ⊤}
use Rattle.std.specs.Prelude.{Result, Ok, Err}
use Rattle.session.specs.declared.output.WriteFailed.{WriteFailed}

-- so many writes, and each of them succeeded
abbrev pub all_written : ℕ → List Bool
all_written n = replicate n true

-- so many writes succeeded, and the one after them failed
abbrev pub one_lost : ℕ → List Bool
one_lost n = all_written n ++ (false ∷ [])

-- whether a write has failed
unfoldable pub any_lost : List Bool → Bool
any_lost [] = false
any_lost (true ∷ o) = any_lost o
any_lost (false ∷ o) = true

-- What the writes have said, after one more: where none has failed, what this one said comes last. Where one has
-- failed, nothing is added, and the answer says that it was not written.
pub record PutEnsures (o o' : List Bool) (r : Result ⊤ WriteFailed) : Type 0 where
  pub grows : any_lost o ≡ false → o' ≡ o ++ (is_ok r ∷ [])
  pub stays : any_lost o ≡ true → o' ≡ o
  pub refused : any_lost o ≡ true → r ≡ Err (record {})

-- After o was said, each of so many lines has had one write, and the last one's alone failed.
pub record LastLost (o : List Bool) (n : ℕ) (o' : List Bool) : Type 0 where
  pub before : ℕ
  pub count : n ≡ before + 1
  pub is : o' ≡ o ++ one_lost before

-- After o was said, each of so many lines has had one write, and all succeeded, but for the last one where a failure is
-- said.
abbrev pub OneWriteEach : {E : Type 0} → List Bool → Result ⊤ E → ℕ → List Bool → Type 0
OneWriteEach o (Ok _) n o' = o' ≡ o ++ all_written n
OneWriteEach o (Err _) n o' = LastLost o n o'

-- what is kept of standard output's writes: so many succeeded; or so many did, and the one after them failed
abbrev pub recorded : Result ℕ ℕ → List Bool
recorded (Ok n) = all_written n
recorded (Err n) = one_lost n
