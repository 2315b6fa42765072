-- Laws of assignments and of sets of indices: a bit set, and no members.
use Rattle.std.specs.Prelude.{◌≡◌, refl, Bool, false, ℕ, zero, suc}
use Rattle.std.proofs.Common.{ap, sym}
use Rattle.std.proofs.Math.Path.{fun_ext}
use Rattle.diagram.specs.Tensor.{Bits, tail, assign, members}

pub assign_at : (k : ℕ) (b : Bool) (f : Bits) → assign k b f k ≡ b
unfolding assign
assign_at zero b f = refl
assign_at (suc k) b f = assign_at k b (tail f)

pub assign_other : (j k : ℕ) (b : Bool) (f : Bits) → (j ≡ k → ⊥) → assign k b f j ≡ f j
unfolding assign
assign_other zero zero b f n = absurd (n refl)
assign_other zero (suc k) b f n = refl
assign_other (suc j) zero b f n = refl
assign_other (suc j) (suc k) b f n = assign_other j k b (tail f) (λ e. n (ap suc e))

pub assign_same : (k : ℕ) (f : Bits) (b : Bool) → f k ≡ b → assign k b f ≡ f
unfolding assign
assign_same k f b e = fun_ext (at_each k f b e)
  where
    at_each : (k : ℕ) (f : Bits) (b : Bool) → f k ≡ b → (j : ℕ) → assign k b f j ≡ f j
    at_each zero f b e zero = sym e
    at_each zero f b e (suc j) = refl
    at_each (suc k) f b e zero = refl
    at_each (suc k) f b e (suc j) = at_each k (tail f) b e j

-- the last setting counts
pub assign_twice : (k : ℕ) (a b : Bool) (f : Bits) → assign k a (assign k b f) ≡ assign k a f
unfolding assign
assign_twice k a b f = fun_ext (at_each k a b f)
  where
    at_each : (k : ℕ) (a b : Bool) (f : Bits) (i : ℕ) → assign k a (assign k b f) i ≡ assign k a f i
    at_each zero a b f zero = refl
    at_each zero a b f (suc i) = refl
    at_each (suc k) a b f zero = refl
    at_each (suc k) a b f (suc i) = at_each k a b (tail f) i

pub assign_assign : (j k : ℕ) (a b : Bool) (f : Bits) → (j ≡ k → ⊥)
    → assign j a (assign k b f) ≡ assign k b (assign j a f)
unfolding assign
assign_assign j k a b f n = fun_ext (at_each j k a b f n)
  where
    at_each : (j k : ℕ) (a b : Bool) (f : Bits) → (j ≡ k → ⊥) → (i : ℕ)
        → assign j a (assign k b f) i ≡ assign k b (assign j a f) i
    at_each zero zero a b f n i = absurd (n refl)
    at_each zero (suc k) a b f n zero = refl
    at_each zero (suc k) a b f n (suc i) = refl
    at_each (suc j) zero a b f n zero = refl
    at_each (suc j) zero a b f n (suc i) = refl
    at_each (suc j) (suc k) a b f n zero = refl
    at_each (suc j) (suc k) a b f n (suc i) = at_each j k a b (tail f) (λ e. n (ap suc e)) i

pub members_none : (d : ℕ) (S : Bits) → ((k : ℕ) → S k ≡ false) → members d S ≡ 0
unfolding members
members_none zero S h = refl
members_none (suc d) S h = rw (h 0) (members_none d (tail S) (λ k. h (suc k)))
