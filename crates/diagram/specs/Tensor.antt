-- Tensors (document 01, "Tensors"), then the operations on them that the tally's sentences name. The laws are in the
-- files beside.
use Rattle.std.specs.Prelude.{◌≡◌, refl, Bool, true, false, cond, ◌&&◌, not, ℕ, zero, suc, ◌+◌, ◌*◌, ◌%◌, ◌/◌, ◌-◌, eqb}
use Rattle.std.specs.Prelude.{leb}
use Rattle.std.proofs.Math.Option.{Option, none, some}
use Rattle.field.specs.Weight.{Weight, 0w, 1w, plus_w, times_w, same_w, inverse_w}

-- ".. the indices 0 to 23": how many the engine has, as a number
abbrev pub index_count : ℕ
index_count = 24

-- The same, as the number of indices of the engine's tensors. Every definition and law takes a number d of indices and
-- holds for each; this one is shut, since nothing may compute with the 2^24 weights of a tensor over 24 indices.
pub indices : ℕ
indices = index_count

-- numbers of assignments and of sets of indices are below it: "bits of m, at most 16777215"
abbrev pub masks : ℕ
masks = 16777216

-- a law in a file of definitions: nothing outside can open `indices`
pub indices_count : indices ≡ index_count
unfolding indices
indices_count = refl

-- an assignment: for each index its value, 0 (false) or 1 (true); or a set of indices: those with true
abbrev pub Bits : Type 0
Bits = ℕ → Bool

-- the same for the indices from 1 on
abbrev pub tail : Bits → Bits
tail f k = f (suc k)

-- what stands at the value 0 of an index, or what stands at 1
abbrev pub branch : {A : Type 0} → Bool → A → A → A
branch false a b = a
branch true a b = b

-- "A tensor gives a weight for each assignment of 0 or 1 to the indices": a weight where there is no index; else the
-- tensors at 0 and at 1 of index 0, over the indices that follow. Tensors that agree at every assignment are equal
-- (TallyValueLaws).
pub data Tensor : ℕ → Type 0 where
  weight : Weight → Tensor 0
  split : {d : ℕ} → Tensor d → Tensor d → Tensor (suc d)

-- the weight at an assignment
unfoldable pub at : {d : ℕ} → Tensor d → Bits → Weight
at (weight w) f = w
at (split l h) f = branch (f 0) (at l (tail f)) (at h (tail f))

-- "Qubit q (0 to 7) owns three: input 3q, middle 3q+1, fresh 3q+2."
abbrev pub input : ℕ → ℕ
input q = 3 * q

abbrev pub middle : ℕ → ℕ
middle q = 3 * q + 1

abbrev pub fresh : ℕ → ℕ
fresh q = 3 * q + 2

-- "An assignment is written as a number whose bit k is the value of index k."
unfoldable pub bits : ℕ → Bits
bits v zero = eqb (v % 2) 1
bits v (suc k) = bits (v / 2) k

unfoldable pub value : {d : ℕ} → Tensor d → ℕ → Weight
value T v = at T (bits v)

-- are two tensors the same?
unfoldable pub same : {d : ℕ} → Tensor d → Tensor d → Bool
same (weight a) (weight b) = same_w a b
same (split l h) (split l' h') = same l l' && same h h'

-- the constant w
unfoldable pub constant : (d : ℕ) → Weight → Tensor d
constant zero w = weight w
constant (suc d) w = split (constant d w) (constant d w)

-- "A tensor's top is the lowest index on which it depends; a constant has none."
abbrev pub next : Option ℕ → Option ℕ
next none = none
next (some k) = some (suc k)

unfoldable pub top : {d : ℕ} → Tensor d → Option ℕ
top (weight w) = none
top (split l h) = cond (same l h) (next (top l)) (some 0)

-- "T0 and T1 are T with its index k fixed to 0 and to 1."
unfoldable pub fix : {d : ℕ} → ℕ → Bool → Tensor d → Tensor d
fix k b (weight w) = weight w
fix zero b (split l h) = split (branch b l h) (branch b l h)
fix (suc k) b (split l h) = split (fix k b l) (fix k b h)

-- does T depend on k?
unfoldable pub depends : {d : ℕ} → ℕ → Tensor d → Bool
depends k T = not (same (fix k false T) (fix k true T))

-- is T zero?
unfoldable pub is_zero : {d : ℕ} → Tensor d → Bool
is_zero (weight w) = same_w w 0w
is_zero (split l h) = is_zero l && is_zero h

-- the first nonzero value; 0 where there is none
unfoldable pub first : {d : ℕ} → Tensor d → Weight
first (weight w) = w
first (split l h) = cond (is_zero l) (first h) (first l)

-- "A tensor is normal if it is not constant and its first nonzero value is 1, reading assignments with index 0 varying
-- slowest"
pub record Normal {d : ℕ} (T : Tensor d) : Type 0 where
  pub index : ℕ
  pub depends : top T ≡ some index
  pub one : first T ≡ 1w

-- join: "the tensor that is L at k=0 and H at k=1"
unfoldable pub joined : {d : ℕ} → ℕ → Tensor d → Tensor d → Tensor d
joined k (weight a) (weight b) = weight a
joined zero (split l h) (split l' h') = split l h'
joined (suc k) (split l h) (split l' h') = split (joined k l l') (joined k h h')

-- c times T
unfoldable pub scale : {d : ℕ} → Weight → Tensor d → Tensor d
scale c (weight w) = weight (times_w c w)
scale c (split l h) = split (scale c l) (scale c h)

-- join: "the normal multiple of it"
unfoldable pub normal : {d : ℕ} → Tensor d → Tensor d
normal T = scale (inverse_w (first T)) T

-- sum: "If one is a multiple of the other", where neither is zero (that it says this: `multiple_eq` and `multiple_of`
-- in TensorScaleLaws)
unfoldable pub multiple : {d : ℕ} → Tensor d → Tensor d → Bool
multiple A B = same (normal A) (normal B)

-- sum: "their sum"
unfoldable pub plus : {d : ℕ} → Tensor d → Tensor d → Tensor d
plus (weight a) (weight b) = weight (plus_w a b)
plus (split l h) (split l' h') = split (plus l l') (plus h h')

-- sum and cont: "k is the lower top"
abbrev pub lower_top : Option ℕ → Option ℕ → Option ℕ
lower_top none b = b
lower_top (some j) none = some j
lower_top (some j) (some k) = some (cond (leb j k) j k)

unfoldable pub top2 : {d : ℕ} → Tensor d → Tensor d → Option ℕ
top2 A B = lower_top (top A) (top B)

-- cont: "their product"
unfoldable pub times : {d : ℕ} → Tensor d → Tensor d → Tensor d
times (weight a) (weight b) = weight (times_w a b)
times (split l h) (split l' h') = split (times l l') (times h h')

-- cont: "2 to the count of members in S", which are indices below d
unfoldable pub members : ℕ → Bits → ℕ
members zero S = 0
members (suc d) S = cond (S 0) (suc (members d (tail S))) (members d (tail S))

unfoldable pub power2 : ℕ → Weight
power2 zero = 1w
power2 (suc n) = plus_w (power2 n) (power2 n)

-- f with b at k
unfoldable pub assign : ℕ → Bool → Bits → Bits
assign zero b f zero = b
assign zero b f (suc j) = f (suc j)
assign (suc k) b f zero = f zero
assign (suc k) b f (suc j) = assign k b (tail f) j

-- cont: "S' is S without k"
abbrev pub without : ℕ → Bits → Bits
without k S = assign k false S

-- 2, as a weight
unfoldable pub two : Weight
two = plus_w 1w 1w

-- S without the indices below k
unfoldable pub members_from : ℕ → Bits → Bits
members_from zero S = S
members_from (suc k) S = assign k false (members_from k S)

-- index k renamed k - 1, in a tensor that does not depend on k - 1
unfoldable pub rename_down : {d : ℕ} → ℕ → Tensor d → Tensor d
rename_down k A = joined (k - 1) (fix k false A) (fix k true A)

-- the tensor at 0 of index 0
abbrev pub low_half : {d : ℕ} → Tensor (suc d) → Tensor d
low_half (split l h) = l
