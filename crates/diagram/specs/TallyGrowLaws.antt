-- A step that touches only indices below d does over d + m indices what it does over d.
use Rattle.std.specs.Prelude.{◌≡◌, Bool, ℕ, zero, suc, ◌-◌, ◌<◌, length}
use Rattle.std.proofs.Math.Path.{refl, ap, ap₂, sym}
use Rattle.std.proofs.Common.{◌∙◌, zero-le, suc-le-suc, arith}
use Rattle.std.proofs.Math.Bool.{true, false, cond, ◌||◌}
use Rattle.std.proofs.lemmas.Bool.{false≢true}
use mathlib.Core.List.{[], ◌∷◌, ◌++◌}
use Rattle.std.proofs.Math.Option.{Option, none, some}
use Rattle.field.specs.Weight.{0w}
use Rattle.std.specs.Cmp.{both_ways}
use Rattle.std.proofs.lemmas.Bool.{or_right}
use Rattle.diagram.specs.Tensor.{Tensor, Bits, tail, same, constant, is_zero, scale, plus, times, top, top2, fix}
use Rattle.diagram.specs.Tensor.{joined, normal, multiple}
use Rattle.diagram.specs.Tensor.{assign, without}
use Rattle.diagram.specs.Tensor.{members, power2}
use Rattle.diagram.specs.TensorLaws.{same_refl, same_eq}
use Rattle.diagram.specs.TopLaws.{lower_top_lem, top_inside, induction, induction2}
use Rattle.diagram.specs.Tally.{Set, Step, Binary, Unary, return, ◌>>=◌, member, put, join_cases, join, both}
use Rattle.diagram.specs.Tally.{sum_cases, sum_body, sum, cont_cases}
use Rattle.diagram.specs.Tally.{cont_body, cont, halves, low_at, low_cases, low_body, low, build_cases, build_body}
use Rattle.diagram.specs.Tally.{build, keeps, keep_only, collect}
use Rattle.diagram.specs.TensorBitsLaws.{members_none}
use Rattle.diagram.specs.TallySumLaws.{sum_step}
use Rattle.diagram.specs.TallyContLaws.{cont_step}
use Rattle.diagram.specs.TallyLowLaws.{low_step}
use Rattle.diagram.specs.TallyBuildLaws.{build_step}
use Rattle.diagram.specs.Reach.{Reachable, itself, part}
use Rattle.diagram.specs.TallyCollectLaws.{keeps_reachable, reachable_keeps}
use Rattle.diagram.specs.Grow.{deeper, grow, StepGrows, MembersBelow, grow_all}
use Rattle.diagram.specs.GrowLaws.{grow_same, grow_is_zero, grow_constant, grow_scale, grow_plus, grow_times}
use Rattle.diagram.specs.GrowLaws.{grow_normal, grow_multiple, grow_top, grow_top2, grow_fix, grow_joined}
use Rattle.diagram.specs.GrowLaws.{grow_injective}

pub length_grow : {d : ℕ} (m : ℕ) (s : Set d) → length (grow_all m s) ≡ length s
unfolding grow_all
length_grow m [] = refl
length_grow m (x ∷ s) = ap suc (length_grow m s)

module _ (m : ℕ) where
  grow_member : {d : ℕ} (x : Tensor d) (s : Set d) → member (grow m x) (grow_all m s) ≡ member x s
  unfolding member grow_all
  grow_member x [] = refl
  grow_member x (y ∷ s) = ap₂ ◌||◌ (grow_same m x y) (grow_member x s)

  tensors_append : {d : ℕ} (s t : Set d) → grow_all m (s ++ t) ≡ grow_all m s ++ grow_all m t
  unfolding grow_all
  tensors_append [] t = refl
  tensors_append (x ∷ s) t = ap (λ r. grow m x ∷ r) (tensors_append s t)

  grow_put : {d : ℕ} (x : Tensor d) (s : Set d) → put (grow m x) (grow_all m s) ≡ grow_all m (put x s)
  unfolding put grow_all
  grow_put x s = rw (grow_member x s) (go (member x s))
    where
      go : (b : Bool) → cond b (grow_all m s) (grow_all m s ++ (grow m x ∷ [])) ≡ grow_all m (cond b s (s ++ (x ∷ [])))
      go true = refl
      go false = sym (tensors_append s (x ∷ []))

  pub grows_return : {d : ℕ} (T : Tensor d) → StepGrows m (return T) (return (grow m T))
  unfolding return
  grows_return T = record { is = λ s. refl }

  pub grows_answer : {d : ℕ} (T : Tensor d) (U : Tensor (deeper d m)) → U ≡ grow m T → StepGrows m (return T) (return U)
  grows_answer T U e = rw e (grows_return T)

  pub grows_bind : {d : ℕ} {f : Step d} {f' : Step (deeper d m)} (g : Tensor d → Step d)
      (g' : Tensor (deeper d m) → Step (deeper d m))
      → StepGrows m f f' → ((T : Tensor d) → StepGrows m (g T) (g' (grow m T))) → StepGrows m (f >>= g) (f' >>= g')
  unfolding ◌>>=◌
  grows_bind {f = f} g g' p q = record { is = λ s. rw (p.is s) ((q (f s).0).is (f s).1) }

  pub grows_join : {d : ℕ} (k : ℕ) (L H : Tensor d) → k < d → StepGrows m (join k L H) (join k (grow m L) (grow m H))
  unfolding join join_cases
  grows_join k L H p = record { is = λ s. rw (grow_same m L H, grow_joined m k L H p) (go s (same L H)) }
    where
      go : (s : Set _) (b : Bool)
          → join_cases b (grow m (joined k L H)) (grow_all m s)
          ≡ (grow m (join_cases b (joined k L H) s).0, grow_all m (join_cases b (joined k L H) s).1)
      go s true = refl
      go s false = rw (grow_normal m (joined k L H), grow_put)

  pub grows_both : {d : ℕ} (rec : Binary d) (rec' : Binary (deeper d m)) (k : ℕ) (A B : Tensor d) (final : Binary d)
      (final' : Binary (deeper d m))
      → ((x : Bool) → StepGrows m (rec (fix k x A) (fix k x B)) (rec' (grow m (fix k x A)) (grow m (fix k x B))))
      → ((L H : Tensor d) → StepGrows m (final L H) (final' (grow m L) (grow m H)))
      → StepGrows m (both rec k A B final) (both rec' k (grow m A) (grow m B) final')
  unfolding both
  grows_both rec rec' k A B final final' p q =
      simp (grow_fix m) (grows_bind _ _ (p false) (λ L. grows_bind _ _ (p true) (λ H. q L H)))

  sum_cases_grows : {d : ℕ} (z b t : Bool) (o : Option ℕ) (A B : Tensor d) → ((k : ℕ) → o ≡ some k → k < d)
      → ((k : ℕ) (x : Bool) → o ≡ some k → StepGrows m (sum (fix k x A) (fix k x B))
      (sum (grow m (fix k x A)) (grow m (fix k x B))))
      → StepGrows m (sum_cases z b t o sum A B) (sum_cases z b t o sum (grow m A) (grow m B))
  unfolding sum_cases
  sum_cases_grows true b t o A B p h = grows_return B
  sum_cases_grows false true t o A B p h = grows_return A
  sum_cases_grows false false true o A B p h = grows_answer (plus A B) _ (grow_plus m A B)
  sum_cases_grows false false false none A B p h = grows_answer (plus A B) _ (grow_plus m A B)
  sum_cases_grows false false false (some k) A B p h =
      grows_both sum sum k A B (join k) (join k) (λ x. h k x refl) (λ L H. grows_join k L H (p k refl))

  pub sum_grow : {d : ℕ} (A B : Tensor d) → StepGrows m (sum A B) (sum (grow m A) (grow m B))
  unfolding sum_body
  sum_grow = induction2 (λ A B. StepGrows m (sum A B) (sum (grow m A) (grow m B)))
      (λ A B h. rw (
        sum_step A B,
        sum_step (grow m A) (grow m B),
        grow_is_zero m A,
        grow_is_zero m B,
        grow_multiple m A B,
        grow_top2 m A B,
      )
      (sum_cases_grows (is_zero A) (is_zero B) (multiple A B) (top2 A B) A B (λ k e. (lower_top_lem A B k e).inside) h))

set_below : (k d : ℕ) (S : Bits) → MembersBelow d S → MembersBelow d (assign k false S)
unfolding assign
set_below k d S h j p = at_each k S j (h j p)
  where
    at_each : (k : ℕ) (S : Bits) (j : ℕ) → S j ≡ false → assign k false S j ≡ false
    at_each zero S zero e = refl
    at_each zero S (suc j) e = e
    at_each (suc k) S zero e = e
    at_each (suc k) S (suc j) e = at_each k (tail S) j e

grow_members : (m d : ℕ) (S : Bits) → MembersBelow d S → members (deeper d m) S ≡ members d S
unfolding members
grow_members m zero S h = members_none m S (λ k. h k zero-le)
grow_members m (suc d) S h = rw (grow_members m d (tail S) (λ j p. h (suc j) (suc-le-suc p)))

module _ (m : ℕ) where
  cont_cases_grows : {d : ℕ} (z : Bool) (o : Option ℕ) (A B : Tensor d) (S : Bits) → MembersBelow d S
      → ((k : ℕ) → o ≡ some k → k < d)
      → ((k : ℕ) (x : Bool) → o ≡ some k → (S : Bits) → MembersBelow d S
      → StepGrows m (cont (fix k x A) (fix k x B) S) (cont (grow m (fix k x A)) (grow m (fix k x B)) S))
      → StepGrows m (cont_cases z o cont A B S) (cont_cases z o cont (grow m A) (grow m B) S)
  unfolding cont_cases
  cont_cases_grows {d} true o A B S b p h = grows_answer m (constant d 0w) _ (sym (grow_constant m d 0w))
  cont_cases_grows {d} false none A B S b p h =
      rw (grow_members m d S b)
      (grows_answer m _ _ (ap (scale (power2 (members d S))) (grow_times m A B)
      ∙ grow_scale m (power2 (members d S)) (times A B)))
  cont_cases_grows {d} false (some k) A B S b p h =
      grows_both m (λ A B. cont A B (without k S)) (λ A B. cont A B (without k S)) k A B (cond (S k) sum (join k))
      (cond (S k) sum (join k))
      (λ x. h k x refl (without k S) (set_below k d S b)) (λ L H. go L H (S k))
    where
      go : (L H : Tensor d) (t : Bool)
          → StepGrows m (cond t sum (join k) L H) (cond t sum (join k) (grow m L) (grow m H))
      go L H true = sum_grow m L H
      go L H false = grows_join m k L H (p k refl)

  pub cont_grow : {d : ℕ} (A B : Tensor d) (S : Bits) → MembersBelow d S
      → StepGrows m (cont A B S) (cont (grow m A) (grow m B) S)
  unfolding cont_body
  cont_grow {d} =
      induction2 (λ A B. (S : Bits) → MembersBelow d S → StepGrows m (cont A B S) (cont (grow m A) (grow m B) S))
      (λ A B h S b. rw (
        cont_step A B S,
        cont_step (grow m A) (grow m B) S,
        grow_is_zero m A,
        grow_is_zero m B,
        grow_top2
            m A B,
      )
      (cont_cases_grows (is_zero A || is_zero B) (top2 A B) A B S b (λ k e. (lower_top_lem A B k e).inside) h))

-- low and build

module _ (m : ℕ) where
  pub grows_halves : {d : ℕ} (rec : Unary d) (rec' : Unary (deeper d m)) (k : ℕ) (A : Tensor d) (final : Binary d)
      (final' : Binary (deeper d m))
      → ((x : Bool) → StepGrows m (rec (fix k x A)) (rec' (grow m (fix k x A))))
      → ((L H : Tensor d) → StepGrows m (final L H) (final' (grow m L) (grow m H)))
      → StepGrows m (halves rec k A final) (halves rec' k (grow m A) final')
  unfolding halves
  grows_halves rec rec' k A final final' p q =
      simp (grow_fix m) (grows_bind m _ _ (p false) (λ L. grows_bind m _ _ (p true) (λ H. q L H)))

  build_cases_grows : {d : ℕ} (o : Option ℕ) (T : Tensor d) → ((k : ℕ) → o ≡ some k → k < d)
      → ((k : ℕ) (x : Bool) → o ≡ some k → StepGrows m (build (fix k x T)) (build (grow m (fix k x T))))
      → StepGrows m (build_cases o build T) (build_cases o build (grow m T))
  unfolding build_cases
  build_cases_grows none T p h = grows_return m T
  build_cases_grows (some k) T p h =
      grows_halves build build k T (join k) (join k) (λ x. h k x refl) (λ L H. grows_join m k L H (p k refl))

  pub build_grow : {d : ℕ} (T : Tensor d) → StepGrows m (build T) (build (grow m T))
  unfolding build_body
  build_grow = induction (λ T. StepGrows m (build T) (build (grow m T)))
      (λ T h. rw (build_step T, build_step (grow m T), grow_top m T)
      (build_cases_grows (top T) T (λ k e. top_inside k T e) h))

  low_at_grows : {d : ℕ} (k : ℕ) (a e : Bool) (t : ℕ) (A : Tensor d) → k < d → t < d
      → ((x : Bool) → StepGrows m (low k (fix t x A)) (low k (grow m (fix t x A))))
      → StepGrows m (low_at k a e t (low k) A) (low_at k a e t (low k) (grow m A))
  unfolding low_at
  low_at_grows k true e t A p q h = grows_return m A
  low_at_grows k false true t A p q h = simp (grow_fix m) (grows_join m (k - 1) _ _ (omega arith))
  low_at_grows k false false t A p q h =
      grows_halves (low k) (low k) t A (join t) (join t) h (λ L H. grows_join m t L H q)

  low_cases_grows : {d : ℕ} (k : ℕ) (o : Option ℕ) (A : Tensor d) → k < d → ((t : ℕ) → o ≡ some t → t < d)
      → ((t : ℕ) (x : Bool) → o ≡ some t → StepGrows m (low k (fix t x A)) (low k (grow m (fix t x A))))
      → StepGrows m (low_cases k o (low k) A) (low_cases k o (low k) (grow m A))
  unfolding low_cases
  low_cases_grows k none A p q h = grows_return m A
  low_cases_grows k (some t) A p q h = low_at_grows k _ _ t A p (q t refl) (λ x. h t x refl)

  pub low_grow : {d : ℕ} (k : ℕ) → k < d → (A : Tensor d) → StepGrows m (low k A) (low k (grow m A))
  unfolding low_body
  low_grow k p = induction (λ A. StepGrows m (low k A) (low k (grow m A)))
      (λ A h. rw (low_step k A, low_step k (grow m A), grow_top m A)
      (low_cases_grows k (top A) A p (λ t e. top_inside t A e) h))

-- collect

module _ (m : ℕ) where
  reached_grow : {d : ℕ} (x T : Tensor d) → Reachable x T → Reachable (grow m x) (grow m T)
  reached_grow x T (itself k e q) = itself k (grow_top m T ∙ e) (ap (grow m) q ∙ sym (grow_normal m T))
  reached_grow x T (part k e b r) = part k (grow_top m T ∙ e) b (rw (grow_fix m k b T) (reached_grow x (fix k b T) r))

  grow_reached : {d : ℕ} (x T : Tensor d) (U : Tensor (deeper d m)) → U ≡ grow m T → Reachable (grow m x) U
      → Reachable x T
  grow_reached x T U p (itself k e q) = itself k (sym (grow_top m T) ∙ ap top (sym p) ∙ e)
      (grow_injective m x (normal T) (q ∙ ap normal p ∙ grow_normal m T))
  grow_reached x T U p (part k e b r) =
      part k (sym (grow_top m T) ∙ ap top (sym p) ∙ e) b (grow_reached x (fix k b T) (fix k b U)
      (ap (fix k b) p ∙ grow_fix m k b T) r)

  in_grow_all : {d : ℕ} (l : Set d) (U : Tensor (deeper d m)) → member U (grow_all m l) ≡ true
      → (T : Tensor d) × (member T l ≡ true) × (U ≡ grow m T)
  unfolding member grow_all
  in_grow_all [] U e = absurd (false≢true e)
  in_grow_all {d} (T ∷ l) U e = go (same U (grow m T)) refl e (in_grow_all l U)
    where
      go : (b : Bool) → same U (grow m T) ≡ b → (b || member U (grow_all m l)) ≡ true
          → (member U (grow_all m l) ≡ true → (T' : Tensor d) × (member T' l ≡ true) × (U ≡ grow m T'))
          → (T' : Tensor d) × ((same T' T || member T' l) ≡ true) × (U ≡ grow m T')
      go true p e ih = (T, rw (same_refl T) refl, same_eq U (grow m T) p)
      go false p e ih = let r = ih e in (r.0, or_right (same r.0 T) _ r.1, r.2)

  keeps_grow : {d : ℕ} (l : Set d) (x : Tensor d)
      → member (grow m x) (keeps (deeper d m) (grow_all m l)) ≡ member x (keeps d l)
  keeps_grow {d} l x = both_ways _ _ above below
    where
      above : member (grow m x) (keeps (deeper d m) (grow_all m l)) ≡ true → member x (keeps d l) ≡ true
      above e =
          let r = keeps_reachable (grow_all m l) (grow m x) e in
          let g = in_grow_all l r.0 r.1 in
          reachable_keeps l x g.0 g.1 (grow_reached x g.0 r.0 g.2 r.2)

      below : member x (keeps d l) ≡ true → member (grow m x) (keeps (deeper d m) (grow_all m l)) ≡ true
      below e =
          let r = keeps_reachable l x e in
          reachable_keeps (grow_all m l) (grow m x) (grow m r.0) (grow_member m r.0 l ∙ r.1)
          (reached_grow x r.0 r.2)

  keep_only_grow : {d : ℕ} (l s : Set d)
      → keep_only (keeps (deeper d m) (grow_all m l)) (grow_all m s) ≡ grow_all m (keep_only (keeps d l) s)
  unfolding keep_only grow_all
  keep_only_grow l [] = refl
  keep_only_grow {d} l (x ∷ s) = rw (keeps_grow l x, keep_only_grow l s)
      (one (member x (keeps d l)) (keep_only (keeps d l) s))
    where
      one : (b : Bool) (t : Set d) → cond b (grow m x ∷ grow_all m t) (grow_all m t) ≡ grow_all m (cond b (x ∷ t) t)
      one true t = refl
      one false t = refl

  pub collect_grow : {d : ℕ} (l s : Set d) → collect (grow_all m l) (grow_all m s) ≡ grow_all m (collect l s)
  unfolding collect
  collect_grow l s = keep_only_grow l s
