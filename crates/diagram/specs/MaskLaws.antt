-- Laws of masks: members, a member taken out, members below an index counted, members from an index on.
use Rattle.std.specs.Prelude.{◌≡◌, refl, Bool, true, cond, eqb}
use Rattle.std.proofs.Math.Path.{ap, fun_ext}
use Rattle.std.proofs.Common.{ap₂, sym, subst, ◌∙◌, arith, add-one, one-add, one-mul, mod-lt, mod-eq_of_lt}
use Rattle.std.proofs.Common.{lit<, shl_exact}
use Rattle.std.proofs.Math.Bool.{false}
use Prim.Native.Nat.{ℕ, zero, suc, ◌+◌, ◌-◌, ◌*◌, ◌/◌, ◌%◌, ◌^◌, ◌≤◌, ◌<◌}
use Rattle.std.proofs.Math.Nat.{mod-le, pow-succ', div-div-eq-div-mul, zero-mul}
use Rattle.std.proofs.lemmas.Nat.{mod-pow-add, ones_cat, pow_pos}
use Rattle.std.specs.Int.Count.{ones, ones_in}
use borrow.Author.Tests.{eqb-true, eqb-false, ne_eqb}
use Rattle.field.specs.Weight.{to_weight, plus_w}
use Rattle.field.specs.Field.{Represents}
use Rattle.field.specs.RingLaws.{weight_one}
use Rattle.diagram.specs.Tensor.{bits, assign, members, power2, members_from}
use Rattle.diagram.specs.TallyShareLaws.{members_from_at, members_more}
use Rattle.diagram.specs.Mask.{DoubledLoop, MaskWithout, MaskFrom}
use Rattle.diagram.specs.TensorBitsLaws.{assign_same}

pub one_shl : (l : ℕ) → l < 64 → (1 * 2 ^ l) % 2 ^ 64 ≡ 2 ^ l
one_shl l h = shl_exact {a = 1} 1 l 64 (lit< tt) (subst (λ (x : ℕ). x ≤ 64) (sym (one-add l)) h) ∙ one-mul (2 ^ l)

pub bits_at : (k m : ℕ) → bits m k ≡ eqb (m / 2 ^ k % 2) 1
unfolding bits
bits_at zero m = let e : m ≡ m / 2 ^ 0 = omega arith in ap (λ x. eqb (x % 2) 1) e
bits_at (suc k) m =
    bits_at k (m / 2) ∙ ap (λ x. eqb (x % 2) 1) (div-div-eq-div-mul m 2 (2 ^ k) ∙ ap (λ x. m / x) (sym (pow-succ' 2 k)))

-- a member is at least its power
pub bit_le : (k m : ℕ) → bits m k ≡ true → 2 ^ k ≤ m
unfolding bits
bit_le zero m e = let h = eqb-true (m % 2) 1 e in omega (arith, h)
bit_le (suc k) m e = let h = bit_le k (m / 2) e in omega (arith, h, pow-succ' 2 k)

without_at : (k m : ℕ) → bits m k ≡ true → (j : ℕ) → bits (m - 2 ^ k) j ≡ assign k false (bits m) j
unfolding bits assign
without_at zero m e zero = let h = eqb-true (m % 2) 1 e in ne_eqb ((m - 1) % 2) 1 (λ q. omega (arith, h))
without_at zero m e (suc j) =
    let h = eqb-true (m % 2) 1 e in let q : (m - 1) / 2 ≡ m / 2 = omega (arith, h) in ap (λ x. bits x j) q
without_at (suc k) m e zero = let h = bit_le (suc k) m e in let q : (m - 2 ^ suc k) % 2 ≡ m % 2 = omega
    (arith, h, pow-succ' 2 k) in ap (λ x. eqb x 1) q
without_at (suc k) m e (suc j) =
    let h = bit_le (suc k) m e in let q : (m - 2 ^ suc k) / 2 ≡ m / 2 - 2 ^ k = omega (arith, h, pow-succ' 2 k) in ap
    (λ x. bits x j) q ∙ without_at k (m / 2) e j

pub bits_without : (k m : ℕ) → bits m k ≡ true → bits (m - 2 ^ k) ≡ assign k false (bits m)
bits_without k m e = fun_ext (without_at k m e)

pub bits_absent : (k m : ℕ) → bits m k ≡ false → bits m ≡ assign k false (bits m)
bits_absent k m e = sym (assign_same k (bits m) false e)

mod_step : (k m : ℕ) → m % 2 ^ suc k ≡ (m / 2 ^ k % 2) * 2 ^ k + m % 2 ^ k
mod_step k m = ap (λ x. m % 2 ^ x) (sym (one-add k)) ∙ mod-pow-add m 1 k

digit : (x : ℕ) → x < 2 → ones x ≡ x
unfolding ones ones_in
digit zero p = refl
digit (suc zero) p = refl
digit (suc (suc x)) p = absurd (omega arith)

pub ones_below : (k m : ℕ) → ones (m % 2 ^ k) ≡ members k (bits m)
ones_below zero m = let e : m % 2 ^ 0 ≡ 0 = omega arith in rw e (unfold members ones ones_in in refl)
ones_below (suc k) m =
    ap ones (mod_step k m) ∙ ones_cat k (m / 2 ^ k % 2) (m % 2 ^ k) (mod-lt m (pow_pos k))
    ∙ ap₂ ◌+◌ (digit (m / 2 ^ k % 2) (omega arith)) (ones_below k m)
    ∙ go (eqb (m / 2 ^ k % 2) 1) refl (members k (bits m))
    ∙ sym (members_more k (bits m) ∙ ap (λ b. cond b (suc (members k (bits m))) (members k (bits m))) (bits_at k m))
  where
    go : (b : Bool) → eqb (m / 2 ^ k % 2) 1 ≡ b → (n : ℕ) → m / 2 ^ k % 2 + n ≡ cond (eqb (m / 2 ^ k % 2) 1) (suc n) n
    go true e n = rw e (omega (arith, eqb-true (m / 2 ^ k % 2) 1 e))
    go false e n = rw e (omega (arith, eqb-false (m / 2 ^ k % 2) 1 e))

-- a bit from k on is as it was
from_bit : (k m : ℕ) → bits (m - m % 2 ^ k) ≡ members_from k (bits m) → bits (m - m % 2 ^ k) k ≡ bits m k
from_bit k m e = ap (λ f. f k) e ∙ members_from_at k k (bits m) (omega arith)

pub bits_from : (k m : ℕ) → bits (m - m % 2 ^ k) ≡ members_from k (bits m)
bits_from zero m = let e : m - m % 2 ^ 0 ≡ m = omega arith in rw e (unfold members_from in refl)
bits_from (suc k) m = go (eqb (m / 2 ^ k % 2) 1) refl (bits_from k m)
  where
    go : (b : Bool) → eqb (m / 2 ^ k % 2) 1 ≡ b → bits (m - m % 2 ^ k) ≡ members_from k (bits m)
        → bits (m - m % 2 ^ suc k) ≡ members_from (suc k) (bits m)
    go true e ih =
        let one = eqb-true (m / 2 ^ k % 2) 1 e in
        let q : (m / 2 ^ k % 2) * 2 ^ k ≡ 2 ^ k = ap (λ x. x * 2 ^ k) one ∙ one-mul (2 ^ k) in
        let r : m - m % 2 ^ suc k ≡ m - m % 2 ^ k - 2 ^ k = omega (arith, mod_step k m, q) in
        let s = bits_without k (m - m % 2 ^ k) (from_bit k m ih ∙ bits_at k m ∙ e) in
        rw r (s ∙ (unfold members_from in ap (assign k false) ih))
    go false e ih =
        let none : m / 2 ^ k % 2 ≡ 0 = omega (arith, eqb-false (m / 2 ^ k % 2) 1 e) in
        let q : (m / 2 ^ k % 2) * 2 ^ k ≡ 0 = ap (λ x. x * 2 ^ k) none ∙ zero-mul (2 ^ k) in
        let r : m % 2 ^ suc k ≡ m % 2 ^ k = omega (arith, mod_step k m, q) in
        rw r (bits_absent k (m - m % 2 ^ k) (from_bit k m ih ∙ bits_at k m ∙ e)
        ∙ (unfold members_from in ap (assign k false) ih))

pub doubled_start : DoubledLoop 0 1
unfolding power2
doubled_start = record { small = omega arith; is = weight_one }

pub doubled_on : (i r r' : ℕ) → DoubledLoop i r → Represents r' (plus_w (to_weight r) (to_weight r))
    → DoubledLoop (i + 1) r'
unfolding power2
doubled_on i r r' h p = record { small = p.small; is = rw (add-one i) (p.is ∙ ap₂ plus_w h.is h.is) }

pub factor_is : (m k b r : ℕ) → b ≡ m % 2 ^ k → Represents r (power2 (ones b))
    → Represents r (power2 (members k (bits m)))
factor_is m k b r p e = record { small = e.small; is = e.is ∙ ap power2 (ap ones p ∙ ones_below k m) }

pub factor_none : (m k b : ℕ) → b ≡ m % 2 ^ k → b ≡ 0 → Represents 1 (power2 (members k (bits m)))
unfolding ones ones_in
factor_none m k b p e = factor_is m k b 1 p (rw e doubled_start)

pub from_is : (m k b : ℕ) → b ≡ m % 2 ^ k → MaskFrom m k (m - b)
from_is m k b e = record {
  is = ap (λ x. bits (m - x)) e ∙ bits_from k m;
  most = omega arith;
  none = λ p. (let q : m % 2 ^ k ≡ m = mod-eq_of_lt p in omega arith);
}

pub below_is : (m k b : ℕ) → b ≡ 2 ^ k → (m % b ≡ m % 2 ^ k) × (m % b ≤ m)
below_is m k b e = rw e (refl, mod-le m (2 ^ k))

pub below_some : (k b : ℕ) → b ≡ 2 ^ k → 1 ≤ b
below_some k b e = rw e (pow_pos k)

module _ (m k : ℕ) {x : Bool} (h : x ≡ bits m k) where
  pub without_some : {b : ℕ} → x ≡ true → b ≡ 2 ^ k → b ≤ m
  without_some e q = omega (arith, bit_le k m (sym h ∙ e))

  pub without_is : {b : ℕ} → x ≡ true → b ≡ 2 ^ k → MaskWithout m k (m - b)
  without_is e q = record { is = ap (λ x. bits (m - x)) q ∙ bits_without k m (sym h ∙ e); most = omega arith }

  pub without_none : x ≡ false → MaskWithout m k m
  without_none e = record { is = bits_absent k m (sym h ∙ e); most = omega arith }
