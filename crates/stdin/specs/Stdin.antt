-- What one read promises.
use Rattle.std.specs.Prelude.{◌≡◌, ℕ, ◌≤◌, List, length, take}
use Rattle.std.specs.Prelude.{Result, Ok, Err}
use Rattle.stdin.specs.declared.ReadFailed.{ReadFailed}

-- `&xs[..n]` is in bounds and has n bytes
abbrev pub IsPrefixLen : ℕ → List ℕ → Type 0
IsPrefixLen n xs = (n ≤ length xs) × (n ≡ length (take n xs))

-- a read's answer, whatever the reason of a failure
abbrev pub outcome_of : {E : Type 0} → Result ℕ E → Result ℕ ReadFailed
outcome_of (Ok n) = Ok n
outcome_of (Err e) = Err (record {})

-- how many bytes came
abbrev pub count_of : Result ℕ ReadFailed → ℕ
count_of (Ok n) = n
count_of (Err e) = 0

-- what a read that is handed n bytes may answer: how many it moved, at most n; or that it failed
abbrev pub PossibleRead : ℕ → Result ℕ ReadFailed → Type 0
PossibleRead n r = count_of r ≤ n
