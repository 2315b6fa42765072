-- Laws of Args: the numbers, from the left.
use Rattle.std.specs.Prelude.{refl, ◌≡◌, ℕ, ◌≤◌, ◌+◌, ◌<◌, length, drop, get_or, List, [], ◌∷◌, Option, Some, None}
use Rattle.std.specs.Prelude.{Result, Ok, Err}
use Rattle.std.specs.Option.{ok_or}
use Rattle.std.proofs.Common.{sym, ◌∙◌, arith, add-one, drop-cons, drop_of_length-le}
use Rattle.text.specs.Text.{Bytes, known}
use Rattle.text.specs.Number.{number_of}
use Rattle.text.specs.Args.{ArgsLoop, push, push_number, numbers, by_count}
use Rattle.text.specs.Split.{fields_after}
use Rattle.text.specs.SplitLaws.{rest_none}
use Rattle.text.specs.declared.args.Args.TheVariants.{Zero, One, Two, Three, Four}
use Rattle.text.specs.declared.args.Args.{Args}

-- after a malformed number, or a fifth, there are none
numbers_none : (most : ℕ) (fs : List Bytes) → numbers most None fs ≡ None
unfolding numbers
numbers_none most [] = refl
numbers_none most (f ∷ fs) = numbers_none most fs

pub args_loop_start : {most : ℕ} {fs : List Bytes} → ArgsLoop most fs Zero 0
args_loop_start = record { same = refl }

pub no_fields : (most : ℕ) (s : Bytes) (e : ℕ) → length s ≤ e
    → Some Zero ≡ numbers most (Some Zero) (fields_after s e)
unfolding numbers
no_fields most s e h = rw (rest_none s e h)

-- the field is the next of them
module _ {most : ℕ} {fs : List Bytes} {args : Args} {n : ℕ} (g : ArgsLoop most fs args n) {f : Bytes}
    (t : (n < length fs) × (f ≡ get_or fs n f)) where
  one_more : numbers most (push_number (Some args) (number_of most f)) (drop (n + 1) fs)
      ≡ numbers most (Some Zero) fs
  unfolding numbers
  one_more = rw (drop-cons fs n f t.0, ← t.1, ← add-one n) at g.same

  pub args_loop_next : {v : ℕ} {args' : Args} → Some v ≡ number_of most f → Some args' ≡ push args v
      → ArgsLoop most fs args' (n + 1)
  args_loop_next p q = record { same = rw (← p, ← q) at one_more }

  -- a malformed number, or a fifth
  pub args_loop_malformed : None ≡ number_of most f → None ≡ numbers most (Some Zero) fs
  args_loop_malformed p = sym (numbers_none most (drop (n + 1) fs)) ∙ rw (← p) at one_more

  pub args_loop_fifth : {v : ℕ} → Some v ≡ number_of most f → None ≡ push args v → None ≡ numbers most (Some Zero) fs
  args_loop_fifth p q = sym (numbers_none most (drop (n + 1) fs)) ∙ rw (← p, ← q) at one_more

pub args_loop_end : {most : ℕ} {fs : List Bytes} {args : Args} {n : ℕ} → ArgsLoop most fs args n → n ≡ length fs
    → Some args ≡ numbers most (Some Zero) fs
unfolding numbers
args_loop_end {fs = fs} {n = n} g e = rw (drop_of_length-le fs {i = n} (omega (arith, e))) at g.same

-- what holds whatever the count of numbers
pub by_count_lem : {A : Type 0} (P : A → Type 0) (z : A) (o : ℕ → A) (t : ℕ → ℕ → A) (h : ℕ → ℕ → ℕ → A)
    (f : ℕ → ℕ → ℕ → ℕ → A) → P z
    → ((a : ℕ) → P (o a)) → ((a b : ℕ) → P (t a b)) → ((a b c : ℕ) → P (h a b c)) → ((a b c d : ℕ) → P (f a b c d))
    → (x : Args)
    → P (by_count z o t h f x)
unfolding by_count
by_count_lem P z o t h f pz po pt ph pf Zero = pz
by_count_lem P z o t h f pz po pt ph pf (One a) = po a
by_count_lem P z o t h f pz po pt ph pf (Two a b) = pt a b
by_count_lem P z o t h f pz po pt ph pf (Three a b c) = ph a b c
by_count_lem P z o t h f pz po pt ph pf (Four a b c d) = pf a b c d

-- .. and whether anything was read
pub known_lem : {A B : Type 0} (P : A → Type 0) (wrong : A) (next : B → A) → P wrong → ((x : B) → P (next x))
    → (o : Option B)
    → P (known wrong o next)
known_lem P wrong next p f None = p
known_lem P wrong next p f (Some x) = f x

-- what `ok_or` says of an option
pub ok_or_some : {A E : Type 0} {x : A} {o : Option A} (e : E) → Ok x ≡ ok_or o e → o ≡ Some x
ok_or_some {o = None} e p = cc
ok_or_some {o = Some y} e p = cc

pub ok_or_none : {A E : Type 0} {d : E} {o : Option A} (e : E) → Err d ≡ ok_or o e → o ≡ None
ok_or_none {o = None} e p = refl
ok_or_none {o = Some y} e p = cc

module _ {A B E : Type 0} {o o' : Option B} (e : E) (f : B → Result A E) (q : o ≡ o') where
  pub known_ok : {x : B} → Ok x ≡ ok_or o e → f x ≡ known (Err e) o' f
  known_ok p = rw (← q, ok_or_some e p)

  pub known_err : {d : E} → Err d ≡ ok_or o e → Err e ≡ known (Err e) o' f
  known_err p = rw (← q, ok_or_none e p)
