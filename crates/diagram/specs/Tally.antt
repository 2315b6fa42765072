-- The tally's steps (document 01, "The tally"): join, sum, cont, low, build and collect. d is the number of indices.
use Rattle.std.specs.Prelude.{Bool, true, false, cond, ◌||◌, List, [], ◌∷◌, ◌++◌, ℕ, zero, suc, ◌-◌, ltb, eqb}
use Rattle.std.proofs.Math.Option.{Option, none, some}
use Rattle.field.specs.Weight.{0w}
use Rattle.diagram.specs.Tensor.{Tensor, Bits, same, constant, is_zero, scale, plus, times, top, top2, fix, joined}
use Rattle.diagram.specs.Tensor.{normal, multiple, without}
use Rattle.diagram.specs.Tensor.{members, power2}
use Rattle.diagram.specs.Descend.{on_top, on_top2}

infixl 40 ◌>>=◌
-- "It holds a set of normal tensors, empty at first": its tensors in the order put in, all normal and none twice
-- (NormalSet). "The tally's node count is the size of its set": the length.
abbrev pub Set : ℕ → Type 0
Set d = List (Tensor d)

-- A step is given the set, and answers a tensor and the set after it.
abbrev pub Step : ℕ → Type 0
Step d = Set d → Tensor d × Set d

-- the answer T, nothing put in
unfoldable pub return : {d : ℕ} → Tensor d → Step d
return T s = (T, s)

-- one step, then another that uses its answer
unfoldable pub ◌>>=◌ : {d : ℕ} → Step d → (Tensor d → Step d) → Step d
◌>>=◌ f g s = let r = f s in g r.0 r.1

unfoldable pub member : {d : ℕ} → Tensor d → Set d → Bool
member T [] = false
member T (x ∷ s) = same T x || member T s

-- ".. put in the set, unless present"
unfoldable pub put : {d : ℕ} → Tensor d → Set d → Set d
put T s = cond (member T s) s (s ++ (T ∷ []))

unfoldable pub join_cases : {d : ℕ} (equal : Bool) → Tensor d → Step d
join_cases true T s = (T, s)
-- "If L and H differ, the normal multiple of it is put in the set, unless present."
join_cases false T s = (T, put (normal T) s)

-- "join(k, L, H): the tensor that is L at k=0 and H at k=1."
unfoldable pub join : {d : ℕ} → ℕ → Tensor d → Tensor d → Step d
join k L H = join_cases (same L H) (joined k L H)

-- A recursion is written as its body: its cases, and `rec` where it calls itself. It ends, since the top rises at each
-- call, so that the first argument of on_top is never answered. That it is its body with itself for `rec`: sum_step,
-- cont_step, low_step and build_step.

abbrev pub Binary : ℕ → Type 0
Binary d = Tensor d → Tensor d → Step d

-- "Recursions do low (T0) before high (T1)."
unfoldable pub both : {d : ℕ} → Binary d → ℕ → Tensor d → Tensor d → Binary d → Step d
both rec k A B final = do
  L ← rec (fix k false A) (fix k false B)
  H ← rec (fix k true A) (fix k true B)
  final L H

-- "sum(A, B):
unfoldable pub sum_cases : {d : ℕ} (zeroA zeroB multiples : Bool) (lower_top : Option ℕ) → Binary d → Binary d
--  if A is zero, B.
sum_cases true zeroB multiples lower_top rec A B = return B
--  If B is zero, A.
sum_cases false true multiples lower_top rec A B = return A
--  If one is a multiple of the other, their sum, nothing put in.
sum_cases false false true lower_top rec A B = return (plus A B)
--  Else k is the lower top, and join(k, sum(A0,B0), sum(A1,B1))."
sum_cases false false false (some k) rec A B = both rec k A B (join k)
-- (two constants, of which neither is zero, are multiples: this case does not arise)
sum_cases false false false none rec A B = return (plus A B)

unfoldable pub sum_body : {d : ℕ} → Binary d → Binary d
sum_body rec A B = sum_cases (is_zero A) (is_zero B) (multiple A B) (top2 A B) rec A B

unfoldable pub sum : {d : ℕ} → Binary d
sum {d} = on_top2 (return (constant d 0w)) sum_body

abbrev pub Contraction : ℕ → Type 0
Contraction d = Tensor d → Tensor d → Bits → Step d

-- "cont(A, B, S), S a set of indices:
unfoldable pub cont_cases : {d : ℕ} (zeroEither : Bool) (lower_top : Option ℕ) → Contraction d → Contraction d
--  zero if either is zero.
cont_cases {d} true lower_top rec A B S = return (constant d 0w)
--  If both are constant, their product times 2 to the count of members in S.
cont_cases {d} false none rec A B S = return (scale (power2 (members d S)) (times A B))
--  Else k is the lower top, S' is S without k, L = cont(A0,B0,S'), H = cont(A1,B1,S');
--  the answer is sum(L,H) if k is in S, else join(k,L,H)"
cont_cases {d} false (some k) rec A B S = both (λ A B. rec A B (without k S)) k A B (cond (S k) sum (join k))

unfoldable pub cont_body : {d : ℕ} → Contraction d → Contraction d
cont_body rec A B S = cont_cases (is_zero A || is_zero B) (top2 A B) rec A B S

unfoldable pub cont : {d : ℕ} → Contraction d
cont {d} = on_top2 (λ S. return (constant d 0w)) cont_body

abbrev pub Unary : ℕ → Type 0
Unary d = Tensor d → Step d

unfoldable pub halves : {d : ℕ} → Unary d → ℕ → Tensor d → Binary d → Step d
halves rec k A final = do
  L ← rec (fix k false A)
  H ← rec (fix k true A)
  final L H

-- "low(A, k): index k is renamed k-1.
unfoldable pub low_at : {d : ℕ} → ℕ → (above here : Bool) (t : ℕ) → Unary d → Unary d
--  If A's top is above k ..
low_at k true here t rec A = return A
--  If the top is k, join(k-1, A0, A1).
low_at k false true t rec A = join (k - 1) (fix t false A) (fix t true A)
--  Else join(top, low(A0,k), low(A1,k))."
low_at k false false t rec A = halves rec t A (join t)

unfoldable pub low_cases : {d : ℕ} → ℕ → (ofA : Option ℕ) → Unary d → Unary d
-- ".., or A is constant, A itself."
low_cases k none rec A = return A
low_cases k (some t) rec A = low_at k (ltb k t) (eqb t k) t rec A

unfoldable pub low_body : {d : ℕ} → ℕ → Unary d → Unary d
low_body k rec A = low_cases k (top A) rec A

unfoldable pub low : {d : ℕ} → ℕ → Unary d
low {d} k = on_top (return (constant d 0w)) (low_body k)

-- "build(T): a constant is itself; else join(top, build(T0), build(T1))."
unfoldable pub build_cases : {d : ℕ} (ofT : Option ℕ) → Unary d → Unary d
build_cases none rec T = return T
build_cases (some t) rec T = halves rec t T (join t)

unfoldable pub build_body : {d : ℕ} → Unary d → Unary d
build_body rec T = build_cases (top T) rec T

unfoldable pub build : {d : ℕ} → Unary d
build {d} = on_top (return (constant d 0w)) build_body

-- "collect: the set keeps exactly the normal multiples of the nonconstant tensors got from filled registers
--  by fixing indices 0 to j-1, for j from 0 to 23." It is a filter of the set: all of them are in it before
--  (`collect_exactly`, TallyCollectLaws).

-- each tensor of a list with index k fixed to 0, and fixed to 1
unfoldable pub fix_both : {d : ℕ} → ℕ → List (Tensor d) → List (Tensor d)
fix_both k [] = []
fix_both k (T ∷ l) = fix k false T ∷ fix k true T ∷ fix_both k l

-- "the tensors got from" those of a list "by fixing indices 0 to j-1"
unfoldable pub cofactors_below : {d : ℕ} → ℕ → List (Tensor d) → List (Tensor d)
cofactors_below zero l = l
cofactors_below (suc j) l = fix_both j (cofactors_below j l)

-- "the normal multiples of the nonconstant" ones of a list
unfoldable pub normal_at : {d : ℕ} → Option ℕ → Tensor d → List (Tensor d)
normal_at none T = []
normal_at (some k) T = normal T ∷ []

unfoldable pub normals : {d : ℕ} → List (Tensor d) → List (Tensor d)
normals [] = []
normals (T ∷ l) = normal_at (top T) T ++ normals l

-- "for j from 0 to" n - 1
unfoldable pub keeps : {d : ℕ} → ℕ → List (Tensor d) → List (Tensor d)
keeps zero l = []
keeps (suc n) l = keeps n l ++ normals (cofactors_below n l)

-- those of s that are in l
unfoldable pub keep_only : {d : ℕ} → List (Tensor d) → Set d → Set d
keep_only l [] = []
keep_only l (x ∷ s) = cond (member x l) (x ∷ keep_only l s) (keep_only l s)

-- `held` are the tensors of the filled registers
unfoldable pub collect : {d : ℕ} → List (Tensor d) → Set d → Set d
collect {d} held s = keep_only (keeps d held) s

-- the tensors of the filled registers, from what each register holds
unfoldable pub filled_tensors : {d : ℕ} → List (Option (Tensor d)) → List (Tensor d)
filled_tensors [] = []
filled_tensors (none ∷ l) = filled_tensors l
filled_tensors (some T ∷ l) = T ∷ filled_tensors l
