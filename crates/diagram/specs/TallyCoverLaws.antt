-- Laws of the tally's set: after a step, every nonconstant cofactor of the answer has its normal multiple there, if
-- that held for the operands.
use Rattle.std.specs.Prelude.{◌≡◌, refl, Bool, true, false, ◌||◌, ℕ, suc, ◌-◌, ◌≤◌, ◌<◌, ltb, eqb}
use Rattle.std.proofs.Common.{ap, ap₂, sym, ◌∙◌, arith, ltb-true, ltb-false, eqb-true}
use Rattle.std.proofs.Math.Option.{Option, none, some}
use Rattle.std.proofs.lemmas.Bool.{eqb-false}
use Rattle.field.specs.Weight.{Weight, 0w, 1w, plus_w, same_w, Nonzero}
use Rattle.field.specs.RingLaws.{same_w_eq}
use Rattle.std.proofs.Math.Option.{some-injective}
use Rattle.diagram.specs.Tensor.{Tensor, Bits, same, constant, is_zero, scale, plus, top, top2, fix, joined}
use Rattle.diagram.specs.Tensor.{normal, multiple, without}
use Rattle.diagram.specs.TensorLaws.{scale_one, zero_scale, scale_constant, same_eq, joined_fix}
use Rattle.diagram.specs.TensorRingLaws.{plus_constant}
use Rattle.diagram.specs.TopLaws.{free_below_less, free_below_fix, free_below_plus, free_below_times}
use Rattle.diagram.specs.TopLaws.{top_constant, top_joined, top_is, top_inside, top_depends}
use Rattle.diagram.specs.Top.{FreeBelow, IsLowerTop, Free}
use Rattle.diagram.specs.TopLaws.{lower_top_lem, induction, induction2}
use Rattle.diagram.specs.TopFreeLaws.{free_fix, joined_low, joined_high}
use Rattle.diagram.specs.TensorScaleLaws.{multiple_eq}
use Rattle.diagram.specs.TestLaws.{no_some, cases}
use Rattle.diagram.specs.Tally.{Set, Step, member, put, join_cases, join, sum, cont, low, build}
use Rattle.diagram.specs.Sets.{PrefixOf}
use Rattle.diagram.specs.SetsLaws.{member_prefix, put_grows, member_put}
use Rattle.diagram.specs.TallyStepLaws.{writes_grows}
use Rattle.diagram.specs.TallySumLaws.{sum_meaning, sum_grows}
use Rattle.diagram.specs.SumOverLaws.{plus_scale, free_below_over}
use Rattle.diagram.specs.TallyContLaws.{two_constants, product_constant, cont_meaning, cont_grows}
use Rattle.diagram.specs.TallyLowLaws.{low_meaning, low_writes, rename_down_part}
use Rattle.diagram.specs.TallyBuildLaws.{build_meaning, build_writes}
use Rattle.diagram.specs.TallyCasesLaws.{join_same, sum_zero_left, sum_zero_right, sum_multiple, sum_parts}
use Rattle.diagram.specs.TallyCasesLaws.{cont_zero, cont_constants, cont_sum}
use Rattle.diagram.specs.TallyCasesLaws.{cont_join, low_constant, low_above, low_here, low_parts, build_constant}
use Rattle.diagram.specs.TallyCasesLaws.{build_parts, join_present}
use Rattle.diagram.specs.Reach.{Reachable, itself, part, Covers, CoversAnswer}
use Rattle.diagram.specs.TallyCollectLaws.{reachable_unscale, reachable_fix}

pub covers_prefix : {d : ℕ} {s t : Set d} (A : Tensor d) → PrefixOf s t → Covers s A → Covers t A
covers_prefix A g c = record { is = λ x r. member_prefix x g (c.is x r) }

-- a constant has no cofactor that is not constant
pub covers_none : {d : ℕ} (s : Set d) (A : Tensor d) → top A ≡ none → Covers s A
covers_none s A e = record { is = λ x r. go x r }
  where
    go : (x : Tensor _) → Reachable x A → member x s ≡ true
    go x (itself k q z) = no_some (sym q ∙ e)
    go x (part k q b r) = no_some (sym q ∙ e)

pub covers_constant : {d : ℕ} (s : Set d) (w : Weight) → Covers s (constant d w)
covers_constant {d} s w = covers_none s (constant d w) (top_constant d w)

pub covers_scale : {d : ℕ} (s : Set d) (c : Weight) (A : Tensor d) → Nonzero c → Covers s A → Covers s (scale c A)
covers_scale s c A n h = record { is = λ x r. h.is x (reachable_unscale c x A n r) }

pub covers_fix : {d : ℕ} (s : Set d) (k : ℕ) (b : Bool) (A : Tensor d) → FreeBelow k A → Covers s A
    → Covers s (fix k b A)
covers_fix s k b A f h = record { is = λ x r. h.is x (reachable_fix k b x A f r) }

module _ {d : ℕ} (k : ℕ) (L H : Tensor d) (s : Set d) (p : k < d) (f : FreeBelow (suc k) L) (g : FreeBelow (suc k) H)
    (cl : Covers s L) (ch : Covers s H) where
  pub join_covers : CoversAnswer (join k L H s)
  join_covers = cases (same L H) (λ e. rw (join_same k L H s e) cl) differ
    where
      T : Tensor d
      T = joined k L H

      half : (b : Bool) (x : Tensor d) → Reachable x (fix k b T) → member x s ≡ true
      half false x r = cl.is x (rw (joined_low k L H p f) at r)
      half true x r = ch.is x (rw (joined_high k L H p g) at r)

      reached : (e : same L H ≡ false) (x : Tensor d) → Reachable x T → member x (put (normal T) s) ≡ true
      reached e x (itself j q z) = rw z (member_put (normal T) s)
      reached e x (part j q b r) =
          let same_index : j ≡ k = some-injective _ _ (sym q ∙ top_joined k L H p f g e) in
          member_prefix x (put_grows (normal T) s) (half b x (rw same_index at r))

      differ : same L H ≡ false → CoversAnswer (join k L H s)
      differ e = unfold join join_cases in rw e (record { is = reached e })

-- low and high part, then join
parts_cover : {d : ℕ} (k : ℕ) (f g : Step d) (s : Set d) → k < d → ((s : Set d) → FreeBelow (suc k) (f s).0)
    → ((s : Set d) → FreeBelow (suc k) (g s).0)
    → ((s : Set d) → PrefixOf s (g s).1) → CoversAnswer (f s) → CoversAnswer (g (f s).1)
    → CoversAnswer (join k (f s).0 (g (f s).1).0 (g (f s).1).1)
parts_cover k f g s p from from' grows low high =
    join_covers k _ _ (g (f s).1).1 p (from s) (from' (f s).1) (covers_prefix (f s).0 (grows (f s).1) low) high

-- sum

sum_parts_cover : {d : ℕ} (A B : Tensor d) (s : Set d) → is_zero A ≡ false → is_zero B ≡ false → multiple A B ≡ false
    → (k : ℕ) → top2 A B ≡ some k
    → ((b : Bool) (s : Set d) → Covers s (fix k b A) → Covers s (fix k b B)
    → CoversAnswer (sum (fix k b A) (fix k b B) s))
    → Covers s A → Covers s B → CoversAnswer (sum A B s)
sum_parts_cover {d} A B s p q m k t h ca cb =
    rw (sum_parts A B s p q m k t refl refl)
    (parts_cover k (sum (fix k false A) (fix k false B)) (sum (fix k true A) (fix k true B)) s o.inside (from false)
    (from true) (sum_grows _ _)
    (h false s (left false) (right false))
    (h true _ (covers_prefix _ (sum_grows _ _ s) (left true)) (covers_prefix _ (sum_grows _ _ s) (right true))))
  where
    o : IsLowerTop A B k
    o = lower_top_lem A B k t

    from : (b : Bool) (s : Set d) → FreeBelow (suc k) (sum (fix k b A) (fix k b B) s).0
    from b s = rw (sum_meaning (fix k b A) (fix k b B) s) (free_below_plus (suc k) _ _ (free_below_fix k b A o.left)
        (free_below_fix k b B o.right))

    left : (b : Bool) → Covers s (fix k b A)
    left b = covers_fix s k b A o.left ca

    right : (b : Bool) → Covers s (fix k b B)
    right b = covers_fix s k b B o.right cb

-- the sum of multiples is a multiple, or zero
covers_multiple : {d : ℕ} (A B : Tensor d) (s : Set d) → is_zero A ≡ false → is_zero B ≡ false → multiple A B ≡ true
    → Covers s A → Covers s (plus A B)
covers_multiple {d} A B s p q m ca =
    let c = multiple_eq A B p q m in
    let is : plus A B ≡ scale (plus_w 1w c.0) A = ap₂ plus (sym (scale_one A)) c.2 ∙ plus_scale 1w c.0 A in
    rw is
    (cases (same_w (plus_w 1w c.0) 0w)
    (λ z. rw (same_w_eq _ 0w z, zero_scale A) (covers_constant s 0w))
    (λ z. covers_scale s _ A (record { is = z }) ca))

pub sum_covers : {d : ℕ} (A B : Tensor d) (s : Set d) → Covers s A → Covers s B → CoversAnswer (sum A B s)
sum_covers = induction2 (λ A B. (s : Set _) → Covers s A → Covers s B → CoversAnswer (sum A B s)) step
  where
    step : {d : ℕ} (A B : Tensor d)
        → ((k : ℕ) (b : Bool) → top2 A B ≡ some k → (s : Set d) → Covers s (fix k b A) → Covers s (fix k b B)
        → CoversAnswer (sum (fix k b A) (fix k b B) s))
        → (s : Set d) → Covers s A → Covers s B → CoversAnswer (sum A B s)
    step A B h s ca cb = go (is_zero A) refl (is_zero B) refl (multiple A B) refl (top2 A B) refl
      where
        go : (a : Bool) → is_zero A ≡ a → (b : Bool) → is_zero B ≡ b → (m : Bool) → multiple A B ≡ m → (o : Option ℕ)
            → top2 A B ≡ o → CoversAnswer (sum A B s)
        go true p b q m r o t = rw (sum_zero_left A B s p) cb
        go false p true q m r o t = rw (sum_zero_right A B s p q) ca
        go false p false q true r o t = rw (sum_multiple A B s p q r) (covers_multiple A B s p q r ca)
        go false p false q false r (some k) t = sum_parts_cover A B s p q r k t (λ b. h k b t) ca cb
        go false p false q false r none t =
            let c = two_constants A B t in
            let is : (sum A B s).0 ≡ constant _ (plus_w c.0.0 c.1.0) = sum_meaning A B s
            ∙ ap₂ plus c.0.1 c.1.1 ∙ plus_constant _ _ _ in
            rw is (covers_constant _ _)

-- cont: its answer is always covered

cont_parts_cover : {d : ℕ} (A B : Tensor d) (S : Bits) (s : Set d) → (is_zero A || is_zero B) ≡ false → (k : ℕ)
    → top2 A B ≡ some k
    → ((b : Bool) (S : Bits) (s : Set d) → CoversAnswer (cont (fix k b A) (fix k b B) S s))
    → CoversAnswer (cont A B S s)
cont_parts_cover {d} A B S s z k t h = cases (S k) over kept
  where
    o : IsLowerTop A B k
    o = lower_top_lem A B k t

    f : Bool → Step d
    f b = cont (fix k b A) (fix k b B) (without k S)

    from : (b : Bool) (s : Set d) → FreeBelow (suc k) (f b s).0
    from b s =
        rw (cont_meaning (fix k b A) (fix k b B) (without k S) s)
        (free_below_over (suc k) (without k S) _ (free_below_times (suc k) _ _ (free_below_fix k b A o.left)
        (free_below_fix k b B o.right)))

    grows : (b : Bool) (s : Set d) → PrefixOf s (f b s).1
    grows b s = cont_grows _ _ (without k S) s

    over : S k ≡ true → CoversAnswer (cont A B S s)
    over e =
        rw (cont_sum A B s S z k t e refl refl)
        (sum_covers _ _ _ (covers_prefix _ (grows true _) (h false (without k S) s)) (h true (without k S) _))

    kept : S k ≡ false → CoversAnswer (cont A B S s)
    kept e =
        rw (cont_join A B s S z k t e refl refl)
        (parts_cover k (f false) (f true) s o.inside (from false) (from true) (grows true) (h false (without k S) s)
        (h true (without k S) _))

pub cont_covers : {d : ℕ} (A B : Tensor d) (S : Bits) (s : Set d) → CoversAnswer (cont A B S s)
cont_covers = induction2 (λ A B. (S : Bits) (s : Set _) → CoversAnswer (cont A B S s)) step
  where
    step : {d : ℕ} (A B : Tensor d)
        → ((k : ℕ) (b : Bool) → top2 A B ≡ some k → (S : Bits) (s : Set d)
        → CoversAnswer (cont (fix k b A) (fix k b B) S s))
        → (S : Bits) (s : Set d) → CoversAnswer (cont A B S s)
    step A B h S s = go (is_zero A || is_zero B) refl (top2 A B) refl
      where
        go : (z : Bool) → (is_zero A || is_zero B) ≡ z → (o : Option ℕ) → top2 A B ≡ o → CoversAnswer (cont A B S s)
        go true z o t = rw (cont_zero A B s S z) (covers_constant s 0w)
        go false z none t =
            let c = product_constant A B t in
            rw (cont_constants A B s S z t, c.1, scale_constant) (covers_constant s _)
        go false z (some k) t = cont_parts_cover A B S s z k t (λ b. h k b t)

-- build: its answer is always covered

pub build_covers : {d : ℕ} (T : Tensor d) (s : Set d) → CoversAnswer (build T s)
build_covers = induction (λ T. (s : Set _) → CoversAnswer (build T s)) step
  where
    step : {d : ℕ} (T : Tensor d)
        → ((k : ℕ) (b : Bool) → top T ≡ some k → (s : Set d) → CoversAnswer (build (fix k b T) s)) → (s : Set d)
        → CoversAnswer (build T s)
    step {d} T h s = go (top T) refl
      where
        from : (k : ℕ) → top T ≡ some k → (b : Bool) (s : Set d) → FreeBelow (suc k) (build (fix k b T) s).0
        from k e b s = rw (build_meaning (fix k b T) s) (free_below_fix k b T (top_is k T e))

        go : (o : Option ℕ) → top T ≡ o → CoversAnswer (build T s)
        go none e = rw (build_constant T s e) (covers_none s T e)
        go (some k) e =
            rw (build_parts T s k e refl refl)
            (parts_cover k (build (fix k false T)) (build (fix k true T)) s (top_inside k T e) (from k e false)
            (from k e true)
            (writes_grows (build_writes (fix k true T))) (h k false e s) (h k true e _))

-- nothing is put in where all that T reaches is there
pub build_covered : {d : ℕ} (T : Tensor d) (s : Set d) → Covers s T → build T s ≡ (T, s)
build_covered = induction (λ T. (s : Set _) → Covers s T → build T s ≡ (T, s)) step
  where
    step : {d : ℕ} (T : Tensor d)
        → ((k : ℕ) (b : Bool) → top T ≡ some k → (s : Set d) → Covers s (fix k b T)
        → build (fix k b T) s ≡ (fix k b T, s))
        → (s : Set d) → Covers s T → build T s ≡ (T, s)
    step T h s c = go (top T) refl
      where
        go : (o : Option ℕ) → top T ≡ o → build T s ≡ (T, s)
        go none e = build_constant T s e
        go (some k) e =
            let part : (b : Bool) → build (fix k b T) s ≡ (fix k b T, s) =
            λ b. h k b e s (covers_fix s k b T (top_is k T e) c) in
            let differ : same (fix k false T) (fix k true T) ≡ false =
            cases (same (fix k false T) (fix k true T)) (λ q. absurd (top_depends k T e (same_eq _ _ q))) (λ q. q) in
            let there : member (normal (joined k (fix k false T) (fix k true T))) s ≡ true =
            rw (joined_fix k T) (c.is (normal T) (itself k e refl)) in
            build_parts T s k e (part false) (part true) ∙ join_present k _ _ s differ there
            ∙ ap (λ X. (X, s)) (joined_fix k T)

-- low

module _ {d : ℕ} (k : ℕ) (n : 1 ≤ k) (p : k < d) where
  low_parts_cover : (A : Tensor d) (s : Set d) → Free (k - 1) A → (t : ℕ) → top A ≡ some t → t < k
      → ((b : Bool) (s : Set d) → Free (k - 1) (fix t b A) → Covers s (fix t b A) → CoversAnswer (low k (fix t b A) s))
      → Covers s A → CoversAnswer (low k A s)
  low_parts_cover A s f t e l h c =
      rw (low_parts k A s t e l refl refl)
      (parts_cover t (low k (fix t false A)) (low k (fix t true A)) s (top_inside t A e) (from false) (from true)
      (grows true)
      (h false s (free false) (part_covers false)) (h true _ (free true)
      (covers_prefix _ (grows false s) (part_covers true))))
    where
      other : t ≡ k - 1 → ⊥
      other q = top_depends (k - 1) A (e ∙ ap some q) f.is

      below : t < k - 1
      below = omega (arith, other)

      free : (b : Bool) → Free (k - 1) (fix t b A)
      free b = free_fix (k - 1) t b A (λ q. other (sym q)) f

      part_covers : (b : Bool) → Covers s (fix t b A)
      part_covers b = covers_fix s t b A (top_is t A e) c

      from : (b : Bool) (s : Set d) → FreeBelow (suc t) (low k (fix t b A) s).0
      from b s = rw (low_meaning k (fix t b A) n p (free b) s) (rename_down_part t k b A below (top_is t A e))

      grows : (b : Bool) (s : Set d) → PrefixOf s (low k (fix t b A) s).1
      grows b s = writes_grows (low_writes k n p (fix t b A) (free b)) s

  low_here_covers : (A : Tensor d) (s : Set d) → top A ≡ some k → Covers s A → CoversAnswer (low k A s)
  low_here_covers A s e c =
      let after : suc (k - 1) ≡ k = omega arith in
      let from : (b : Bool) → FreeBelow (suc (k - 1)) (fix k b A) = λ b. rw after
      (free_below_less k (suc k) _ (omega arith) (free_below_fix k b A (top_is k A e))) in
      let covers : (b : Bool) → Covers s (fix k b A) = λ b. covers_fix s k b A (top_is k A e) c in
      rw (low_here k A s e) (join_covers (k - 1) _ _ s (omega arith) (from false) (from true) (covers false)
      (covers true))

  pub low_covers : (A : Tensor d) (s : Set d) → Free (k - 1) A → Covers s A → CoversAnswer (low k A s)
  low_covers = induction (λ A. (s : Set d) → Free (k - 1) A → Covers s A → CoversAnswer (low k A s)) step
    where
      step : (A : Tensor d)
          → ((t : ℕ) (b : Bool) → top A ≡ some t → (s : Set d) → Free (k - 1) (fix t b A) → Covers s (fix t b A)
          → CoversAnswer (low k (fix t b A) s))
          → (s : Set d) → Free (k - 1) A → Covers s A → CoversAnswer (low k A s)
      step A h s f c = go (top A) refl
        where
          at : (t : ℕ) → top A ≡ some t → (a : Bool) → ltb k t ≡ a → (b : Bool) → eqb t k ≡ b → CoversAnswer (low k A s)
          at t e true q b r = rw (low_above k A s t e (ltb-true k t q)) c
          at t e false q true r = low_here_covers A s (e ∙ ap some (eqb-true t k r)) c
          at t e false q false r =
              low_parts_cover A s f t e (omega (arith, ltb-false k t q, eqb-false t k r)) (λ b s. h t b e s) c

          go : (o : Option ℕ) → top A ≡ o → CoversAnswer (low k A s)
          go none e = rw (low_constant k A s e) c
          go (some t) e = at t e (ltb k t) refl (eqb t k) refl
