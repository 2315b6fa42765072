-- Laws of the tally's lows: when a set is free to go; values; what it puts in; scaling; its parts at the top.
use Rattle.std.specs.Prelude.{◌≡◌, ◌↔◌, Bool, true, cond, not, ◌&&◌, ◌||◌, ℕ, zero, suc, ◌-◌, ◌/◌, ◌^◌, ◌<◌, ltb, eqb}
use Rattle.std.proofs.Math.Path.{refl, ap, sym, fun_ext}
use Rattle.std.proofs.Common.{◌∙◌, true≢false, arith, not-suc-le-zero, ltb-true, ltb-false, eqb-true}
use Rattle.std.proofs.Math.Bool.{false}
use Rattle.std.proofs.Math.Option.{some}
use Rattle.std.specs.Int.Bits.{bit_and, and_lt}
use Rattle.std.proofs.lemmas.Bool.{eqb-false}
use Rattle.field.specs.Weight.{Weight, Nonzero}
use Rattle.std.proofs.lemmas.Bool.{or_parts}
use Rattle.diagram.specs.Tensor.{Tensor, Bits, bits, at, value, top, fix, depends, joined, scale}
use Rattle.diagram.specs.TabulateLaws.{bits_none}
use Rattle.diagram.specs.TestLaws.{cases, cond_ap}
use Rattle.diagram.specs.Top.{FreeBelow}
use Rattle.diagram.specs.TopLaws.{top_inside}
use Rattle.diagram.specs.TopFreeLaws.{top_lowest, depends_scale, depends_fix}
use Rattle.diagram.specs.Support.{support_mask}
use Rattle.diagram.specs.SupportLaws.{support_below, support_bits}
use Rattle.diagram.specs.MaskBitsLaws.{bits_above, bits_same, bits_and}
use Rattle.diagram.specs.Tally.{Set, join, both, build}
use Rattle.diagram.specs.TallyStep.{Writes, ScaledStep, SetAfter}
use Rattle.diagram.specs.TallyBuildLaws.{build_is, build_writes, build_scaled}
use Rattle.diagram.specs.TallyCasesLaws.{both_done}
use Rattle.diagram.specs.TallyPartsLaws.{build_joined}
use Rattle.diagram.specs.TallyCoverLaws.{build_covered}
use Rattle.diagram.specs.TallySetAfterLaws.{build_set_after}
use Rattle.diagram.specs.TallyValueLaws.{build_value}
use Rattle.diagram.specs.Reach.{Covers}
use Rattle.diagram.specs.Rename.{renamed, Inside, KeepsAbove, AllFreeToGo}
use Rattle.diagram.specs.RenameLaws.{at_renamed, renamed_scale, renamed_same, renamed_split, renamed_part}
use Rattle.diagram.specs.Lows.{lower_in, lowered_set, lows, free_to_go, any_below, clash}

-- the test for 7

any_none : (d : ℕ) (f : ℕ → Bool) → any_below d f ≡ false → (k : ℕ) → k < d → f k ≡ false
unfolding any_below
any_none zero f e k p = absurd (not-suc-le-zero p)
any_none (suc d) f e k p =
    let n = or_parts (f d) (any_below d f) e in
    cases (eqb k d) (λ q. ap f (eqb-true k d q) ∙ n.0) (λ q. any_none d f n.1 k (omega (arith, eqb-false k d q)))

none_any : (d : ℕ) (f : ℕ → Bool) → ((k : ℕ) → k < d → f k ≡ false) → any_below d f ≡ false
unfolding any_below
none_any zero f h = refl
none_any (suc d) f h = rw (h d (omega arith)) (none_any d f (λ k p. h k (omega arith)))

-- there is no clash exactly where every index of m is free to go
pub clash_exactly : {d : ℕ} (m : Bits) (T : Tensor d) → (clash m T ≡ false) ↔ AllFreeToGo m T
unfolding clash free_to_go
clash_exactly {d} m T = (
  λ e. record { is = λ k p q r. free (m k) (depends (k - 1) T) (m (k - 1)) (any_none d _ e k p) q r },
  λ c. none_any d _ (λ k p. none_at (m k) refl (depends (k - 1) T) refl (m (k - 1)) refl (c.is k p)),
)
  where
    free : (a b c : Bool) → (a && not (not b || c)) ≡ false → a ≡ true → b ≡ true → c ≡ true
    free true true true e p q = refl
    free true true false e p q = absurd (true≢false e)
    free true false c e p q = absurd (true≢false (sym q))
    free false b c e p q = absurd (true≢false (sym p))

    none_at : {x y z : Bool} (a : Bool) → x ≡ a → (b : Bool) → y ≡ b → (c : Bool) → z ≡ c
        → (x ≡ true → y ≡ true → z ≡ true) → (x && not (not y || z)) ≡ false
    none_at true p true q true r h = rw (p, q, r)
    none_at true p true q false r h = absurd (true≢false (sym (h p q) ∙ r))
    none_at true p false q c r h = rw (p, q)
    none_at false p b q c r h = rw p

free_to_go_fix : {d : ℕ} {m : Bits} {T : Tensor d} (t : ℕ) (b : Bool) → AllFreeToGo m T → AllFreeToGo m (fix t b T)
free_to_go_fix {T = T} t b c = record { is = λ k p q r. c.is k p q (depends_fix (k - 1) t b T r).1 }

free_to_go_unscale : {d : ℕ} {m : Bits} (w : Weight) (T : Tensor d) → Nonzero w → AllFreeToGo m (scale w T)
    → AllFreeToGo m T
free_to_go_unscale w T n c = record { is = λ k p q r. c.is k p q (depends_scale (k - 1) w T n ∙ r) }

-- no clash in a part of a tensor, nor where a weight is taken out
pub clash_fix : {d : ℕ} (m : Bits) (T : Tensor d) (t : ℕ) (b : Bool) → clash m T ≡ false
    → clash m (fix t b T) ≡ false
clash_fix m T t b e = (clash_exactly m (fix t b T)).1 (free_to_go_fix t b ((clash_exactly m T).0 e))

pub clash_unscale : {d : ℕ} (m : Bits) (w : Weight) (T : Tensor d) → Nonzero w → clash m (scale w T) ≡ false
    → clash m T ≡ false
clash_unscale m w T n e = (clash_exactly m T).1 (free_to_go_unscale w T n ((clash_exactly m (scale w T)).0 e))

-- the test on masks: the indices before those of m on which T depends are in m
pub clash_masks : {d : ℕ} (m : ℕ) (T : Tensor d) → m < 2 ^ d
    → AllFreeToGo (bits m) T ↔ (bit_and (bit_and (m / 2) (support_mask T)) m ≡ bit_and (m / 2) (support_mask T))
clash_masks {d} m T small = (to, λ e. record { is = back e })
  where
    both_at : (k : ℕ) → bits (bit_and (m / 2) (support_mask T)) k ≡ (bits (m / 2) k && depends k T)
    both_at k = bits_and (m / 2) (support_mask T) k ∙ ap (λ b. bits (m / 2) k && b) (support_bits T k)

    within : (a b c : Bool) → (a ≡ true → b ≡ true → c ≡ true) → ((a && b) && c) ≡ (a && b)
    within true true c h = h refl refl
    within true false c h = refl
    within false b c h = refl

    next_bit : (k : ℕ) → bits m (suc k) ≡ bits (m / 2) k
    next_bit k = unfold bits in refl

    inside : (k : ℕ) → bits m k ≡ true → k < d
    inside k e =
        cases (ltb k d) (λ q. ltb-true k d q)
        (λ q. absurd (true≢false (sym e ∙ bits_above d m k small (ltb-false k d q))))

    few : bit_and (m / 2) (support_mask T) < 2 ^ d
    few = let half : m / 2 < 2 ^ d = omega arith in and_lt d (m / 2) (support_mask T) half (support_below T)

    down : AllFreeToGo (bits m) T → (k : ℕ) → bits m (suc k) ≡ true → depends k T ≡ true → bits m k ≡ true
    down c k p q = let one : suc k - 1 ≡ k = omega arith in rw one at (c.is (suc k) (inside (suc k) p) p (rw one q))

    to : AllFreeToGo (bits m) T → bit_and (bit_and (m / 2) (support_mask T)) m ≡ bit_and (m / 2) (support_mask T)
    to c = bits_same d _ _ (and_lt d _ m few small) few (λ k.
        bits_and _ m k ∙ ap (λ b. b && bits m k) (both_at k)
        ∙ within (bits (m / 2) k) (depends k T) (bits m k) (λ p q. down c k (next_bit k ∙ p) q) ∙ sym (both_at k))

    back : bit_and (bit_and (m / 2) (support_mask T)) m ≡ bit_and (m / 2) (support_mask T) → (k : ℕ) → k < d
        → bits m k ≡ true → depends (k - 1) T ≡ true → bits m (k - 1) ≡ true
    back e zero p q r = q
    back e (suc k) p q r =
        let x : ((bits (m / 2) k && depends k T) && bits m k) ≡ (bits (m / 2) k && depends k T) =
        sym (bits_and _ m k ∙ ap (λ b. b && bits m k) (both_at k)) ∙ ap (λ y. bits y k) e ∙ both_at k in
        let one : suc k - 1 ≡ k = omega arith in
        let r' : depends k T ≡ true = rw one at r in
        rw one (rw (sym (next_bit k) ∙ q, r') at x)

-- values

pub lower_inside : (d : ℕ) (m : Bits) → Inside d (lower_in m)
lower_inside d m k p = go (m k)
  where
    go : (b : Bool) → cond b (k - 1) k < d
    go true = omega arith
    go false = p

at_lowered_set : {d : ℕ} (m : Bits) (T : Tensor d) (f : Bits)
    → at (lowered_set m T) f ≡ at T (λ k. cond (m k) (f (k - 1)) (f k))
unfolding lowered_set renamed
at_lowered_set {d} m T f =
    at_renamed (lower_in m) T (lower_inside d m) f ∙ ap (at T) (fun_ext (λ k. cond_ap f (m k) (k - 1) k))

-- "lowers every index of the set m at the same moment": each index of m takes the value of the one before it
pub lows_value : {d : ℕ} (m : Bits) (T : Tensor d) (s : Set d) (v : ℕ)
    → value (lows m T s).0 v ≡ at T (λ k. cond (m k) (bits v (k - 1)) (bits v k))
unfolding lows
lows_value m T s v = build_value s (lowered_set m T) v ∙ (unfold value in at_lowered_set m T (bits v))

-- the step

pub lows_writes : {d : ℕ} (m : Bits) (T : Tensor d) → Writes (lowered_set m T) (lows m T)
unfolding lows
lows_writes m T = build_writes (lowered_set m T)

pub lows_set_after : {d : ℕ} (s : Set d) (m : Bits) (T : Tensor d) → SetAfter s (lows m T s)
unfolding lows
lows_set_after s m T = build_set_after s (lowered_set m T)

pub lows_scaled : {d : ℕ} (c : Weight) → Nonzero c → (m : Bits) (T : Tensor d)
    → ScaledStep c (lows m T) (lows m (scale c T))
unfolding lows lowered_set renamed
lows_scaled {d} c n m T =
    rw (renamed_scale (lower_in m) (lower_inside d m) c T) (build_scaled c n (renamed (lower_in m) T))

-- no index of m on which T depends: T itself, and nothing is put in where the set covers it
pub lows_same : {d : ℕ} (m : Bits) (T : Tensor d) → ((k : ℕ) → k < d → depends k T ≡ true → m k ≡ false) → (s : Set d)
    → Covers s T → lows m T s ≡ (T, s)
unfolding lows lowered_set renamed
lows_same {d} m T other s c =
    rw (renamed_same (lower_in m) (lower_inside d m) T (λ k p h. rw (other k p h))) (build_covered T s c)

-- .. on masks: m has no bit of T's
pub none_common : {d : ℕ} (m : ℕ) (T : Tensor d) → bit_and m (support_mask T) ≡ 0 → (k : ℕ) → k < d
    → depends k T ≡ true → bits m k ≡ false
none_common m T e k p h = go (bits m k) (sym (bits_and m (support_mask T) k) ∙ ap (λ x. bits x k) e ∙ bits_none k)
  where
    go : (a : Bool) → (a && bits (support_mask T) k) ≡ false → a ≡ false
    go true q = sym (support_bits T k ∙ h) ∙ q
    go false q = refl

-- the indices above the top on which T depends stay above where it goes
lower_keeps_above : {d : ℕ} (m : Bits) (k : ℕ) (T : Tensor d) → m 0 ≡ false → clash m T ≡ false → top T ≡ some k
    → KeepsAbove (lower_in m) k T
lower_keeps_above m k T z e t j p q h = go (m k) refl (m j) refl
  where
    c : AllFreeToGo m T
    c = (clash_exactly m T).0 e

    go : (a : Bool) → m k ≡ a → (b : Bool) → m j ≡ b → cond a (k - 1) k < cond b (j - 1) j
    go true x true y = let n : k ≡ 0 → ⊥ = λ e. true≢false (sym x ∙ ap m e ∙ z) in omega (arith, n)
    go true x false y = omega arith
    go false x true y =
        let n : j - 1 ≡ k → ⊥ = λ e. true≢false
        (sym (c.is j q y (ap (λ i. depends i T) e ∙ (top_lowest k T t).0)) ∙ ap m e ∙ x) in
        omega (arith, n)
    go false x false y = p

-- with top k: low part, high part, joined where k goes
module _ {d : ℕ} (m : Bits) (k : ℕ) (T : Tensor d) (z : m 0 ≡ false) (c : clash m T ≡ false) (t : top T ≡ some k) where
  -- the answers of the parts do not depend on the indices up to where k goes
  pub lowered_part : (b : Bool) → FreeBelow (suc (lower_in m k)) (lowered_set m (fix k b T))
  unfolding lowered_set renamed
  lowered_part b = renamed_part (lower_in m) (lower_inside d m) k T t (lower_keeps_above m k T z c t) b

  lowered_split : lowered_set m T
      ≡ joined (lower_in m k) (lowered_set m (fix k false T)) (lowered_set m (fix k true T))
  unfolding lowered_set renamed
  lowered_split = renamed_split (lower_in m) (lower_inside d m) k T t

  pub lows_both : lows m T ≡ both (λ X Y. lows m X) k T T (join (lower_in m k))
  unfolding lows
  lows_both = fun_ext (λ s.
      ap (λ X. build X s) lowered_split
      ∙ build_joined (lower_in m k) L H s (lower_inside d m k (top_inside k T t)) (lowered_part false)
      (lowered_part true) _ _ (build_is L s) (build_is H (build L s).1)
      ∙ sym (both_done (λ X Y. build (lowered_set m X)) k T T (join (lower_in m k)) (build_is L s)
      (build_is H (build L s).1)))
    where
      L : Tensor d
      L = lowered_set m (fix k false T)

      H : Tensor d
      H = lowered_set m (fix k true T)

  pub lows_parts : (s : Set d) {s1 s2 : Set d} {L H : Tensor d} → lows m (fix k false T) s ≡ (L, s1)
      → lows m (fix k true T) s1 ≡ (H, s2) → lows m T s ≡ join (lower_in m k) L H s2
  lows_parts s low' high =
      ap (λ f. f s) lows_both ∙ both_done (λ X Y. lows m X) k T T (join (lower_in m k)) low' high
