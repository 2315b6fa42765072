-- Laws of a set of one index: lowering it is `low`.
use Rattle.std.specs.Prelude.{◌≡◌, refl, Bool, true, false, cond, ℕ, suc, ◌-◌, ◌^◌, ◌≤◌, ◌<◌, ltb, eqb}
use Rattle.std.proofs.Common.{ap, sym, ◌∙◌, true≢false, arith, eq-eqb, ne_eqb, ltb-true, ltb-false, eqb-true}
use Rattle.std.proofs.Math.Path.{fun_ext}
use Rattle.std.proofs.Math.Option.{Option, none, some}
use Rattle.std.proofs.lemmas.Bool.{eqb-false}
use Rattle.diagram.specs.Tensor.{Tensor, Bits, bits, top, fix, depends}
use Rattle.diagram.specs.Top.{FreeBelow, Free}
use Rattle.diagram.specs.TopLaws.{free_below_fix, top_is, top_depends, induction}
use Rattle.diagram.specs.TopFreeLaws.{free_depends, free_fix, top_no, free_below_depends}
use Rattle.diagram.specs.MaskBitsLaws.{power_bits}
use Rattle.diagram.specs.Tally.{Set, join, low}
use Rattle.diagram.specs.TallyStepLaws.{writes_grows}
use Rattle.diagram.specs.TallyLowLaws.{low_writes}
use Rattle.diagram.specs.TallyCasesLaws.{low_constant, low_above, low_here, low_parts}
use Rattle.diagram.specs.TallyCoverLaws.{covers_none, covers_fix, covers_prefix}
use Rattle.diagram.specs.Reach.{Covers}
use Rattle.diagram.specs.Lows.{lows, clash}
use Rattle.diagram.specs.TallyLowsLaws.{clash_exactly, lows_same, lows_parts}

abbrev single : ℕ → Bits
single k j = eqb j k

bits_single : (k : ℕ) → bits (2 ^ k) ≡ single k
bits_single k = fun_ext (power_bits k)

clash_single : {d : ℕ} (k : ℕ) (T : Tensor d) → Free (k - 1) T → clash (single k) T ≡ false
clash_single k T f = (clash_exactly (single k) T).1 record {
  is = λ j p q r. absurd
      (true≢false (sym r ∙ ap (λ i. depends (i - 1) T) (eqb-true j k q) ∙ free_depends (k - 1) T f));
}

module _ {d : ℕ} (k : ℕ) (n : 1 ≤ k) (p : k < d) where
  zero_not : single k 0 ≡ false
  zero_not = ne_eqb 0 k (λ e. omega arith)

  -- where the top is above k
  single_none : (T : Tensor d) (t : ℕ) → FreeBelow t T → k < t → (j : ℕ) → j < d → depends j T ≡ true
      → single k j ≡ false
  single_none T t f l j q h = ne_eqb j k (λ e. true≢false (sym h ∙ free_below_depends t j T f (omega arith)))

  -- the answer and the set that `low` leaves, where the set covers T
  lows_low : (T : Tensor d) (s : Set d) → Free (k - 1) T → Covers s T → lows (single k) T s ≡ low k T s
  lows_low = induction (λ T. (s : Set d) → Free (k - 1) T → Covers s T → lows (single k) T s ≡ low k T s) step
    where
      step : (T : Tensor d)
          → ((t : ℕ) (b : Bool) → top T ≡ some t → (s : Set d) → Free (k - 1) (fix t b T) → Covers s (fix t b T)
          → lows (single k) (fix t b T) s ≡ low k (fix t b T) s)
          → (s : Set d) → Free (k - 1) T → Covers s T → lows (single k) T s ≡ low k T s
      step T h s f c = go (top T) refl
        where
          here : (t : ℕ) → top T ≡ some t → (a : Bool) → ltb k t ≡ a → (b : Bool) → eqb t k ≡ b
              → lows (single k) T s ≡ low k T s
          here t e true x b y =
              let above : k < t = ltb-true k t x in
              lows_same (single k) T (single_none T t (top_is t T e) above) s c ∙ sym (low_above k T s t e above)
          here t e false x true y =
              let same : t ≡ k = eqb-true t k y in
              let e' : top T ≡ some k = e ∙ ap some same in
              let stays : (b : Bool) → lows (single k) (fix k b T) s ≡ (fix k b T, s) = λ b. lows_same (single k) _
              (single_none _ (suc k) (free_below_fix k b T (top_is k T e')) (omega arith)) s
              (covers_fix s k b T (top_is k T e') c) in
              lows_parts (single k) k T zero_not (clash_single k T f) e' s (stays false) (stays true)
              ∙ ap (λ b. join (cond b (k - 1) k) (fix k false T) (fix k true T) s) (eq-eqb k k refl)
              ∙ sym (low_here k T s e')
          here t e false x false y =
              let less : t < k = omega (arith, ltb-false k t x, eqb-false t k y) in
              let other : k - 1 ≡ t → ⊥ = λ q. top_depends (k - 1) T (e ∙ ap some (sym q)) f.is in
              let free : (b : Bool) → Free (k - 1) (fix t b T) = λ b. free_fix (k - 1) t b T other f in
              let covers : (b : Bool) → Covers s (fix t b T) = λ b. covers_fix s t b T (top_is t T e) c in
              let l = low k (fix t false T) s in
              let r = low k (fix t true T) l.1 in
              lows_parts (single k) t T zero_not (clash_single k T f) e s (h t false e s (free false) (covers false))
              (h t true e l.1 (free true)
              (covers_prefix _ (writes_grows (low_writes k n p _ (free false)) s) (covers true)))
              ∙ ap (λ b. join (cond b (t - 1) t) l.0 r.0 r.1) y ∙ sym (low_parts k T s t e less refl refl)

          constant : top T ≡ none → lows (single k) T s ≡ low k T s
          constant e =
              lows_same (single k) T (λ j q h. absurd (true≢false (sym h ∙ top_no T e j))) s (covers_none s T e)
              ∙ sym (low_constant k T s e)

          go : (o : Option ℕ) → top T ≡ o → lows (single k) T s ≡ low k T s
          go none e = constant e
          go (some t) e = here t e (ltb k t) refl (eqb t k) refl

  -- the same for the number of that set: 0 is no member, no clash, one step
  pub one_zero : bits (2 ^ k) 0 ≡ false
  one_zero = rw (bits_single k) zero_not

  pub one_no_clash : (T : Tensor d) → Free (k - 1) T → clash (bits (2 ^ k)) T ≡ false
  one_no_clash T f = rw (bits_single k) (clash_single k T f)

  pub one_low : (T : Tensor d) (s : Set d) → Free (k - 1) T → Covers s T → low k T s ≡ lows (bits (2 ^ k)) T s
  one_low T s f c = rw (bits_single k) (sym (lows_low T s f c))
