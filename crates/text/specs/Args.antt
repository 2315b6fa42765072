-- The numbers of a line (document 01, "Session calls"), and how the code gathers them.
use Rattle.std.specs.Prelude.{List, [], ◌∷◌, ◌≡◌, ℕ, drop, Option, Some, None}
use Rattle.text.specs.Text.{Bytes}
use Rattle.text.specs.Number.{number_of}
use Rattle.text.specs.declared.args.Args.{Args}
use Rattle.text.specs.declared.args.Args.TheVariants.{Zero, One, Two, Three, Four}

-- one number more; there is no fifth
abbrev pub push : Args → ℕ → Option Args
push Zero v = Some (One v)
push (One a) v = Some (Two a v)
push (Two a b) v = Some (Three a b v)
push (Three a b c) v = Some (Four a b c v)
push (Four a b c d) v = None

-- "malformed number": then there are none
abbrev pub push_number : Option Args → Option ℕ → Option Args
push_number (Some args) (Some v) = push args v
push_number (Some args) None = None
push_number None n = None

-- these numbers, and after them those of some fields
unfoldable pub numbers : ℕ → Option Args → List Bytes → Option Args
numbers most args [] = args
numbers most args (f ∷ fs) = numbers most (push_number args (number_of most f)) fs

-- "wrong count of fields": what is said by none to four numbers
unfoldable pub by_count : {A : Type 0} → A → (ℕ → A) → (ℕ → ℕ → A) → (ℕ → ℕ → ℕ → A) → (ℕ → ℕ → ℕ → ℕ → A) → Args → A
by_count zero one two three four Zero = zero
by_count zero one two three four (One a) = one a
by_count zero one two three four (Two a b) = two a b
by_count zero one two three four (Three a b c) = three a b c
by_count zero one two three four (Four a b c d) = four a b c d

abbrev pub no_numbers : {A : Type 0} → A → A → Args → A
no_numbers wrong f = by_count f (λ a. wrong) (λ a b. wrong) (λ a b c. wrong) (λ a b c d. wrong)

abbrev pub one_number : {A : Type 0} → A → (ℕ → A) → Args → A
one_number wrong f = by_count wrong f (λ a b. wrong) (λ a b c. wrong) (λ a b c d. wrong)

abbrev pub two_numbers : {A : Type 0} → A → (ℕ → ℕ → A) → Args → A
two_numbers wrong f = by_count wrong (λ a. wrong) f (λ a b c. wrong) (λ a b c d. wrong)

abbrev pub three_numbers : {A : Type 0} → A → (ℕ → ℕ → ℕ → A) → Args → A
three_numbers wrong f = by_count wrong (λ a. wrong) (λ a b. wrong) f (λ a b c d. wrong)

abbrev pub four_numbers : {A : Type 0} → A → (ℕ → ℕ → ℕ → ℕ → A) → Args → A
four_numbers wrong f = by_count wrong (λ a. wrong) (λ a b. wrong) (λ a b c. wrong) f

abbrev pub one_or_two_numbers : {A : Type 0} → A → (ℕ → A) → (ℕ → ℕ → A) → Args → A
one_or_two_numbers wrong f g = by_count wrong f g (λ a b c. wrong) (λ a b c d. wrong)

-- the first n of these fields have been read
pub record ArgsLoop (most : ℕ) (fs : List Bytes) (args : Args) (n : ℕ) : Type 0 where
  pub same : numbers most (Some args) (drop n fs) ≡ numbers most (Some Zero) fs
