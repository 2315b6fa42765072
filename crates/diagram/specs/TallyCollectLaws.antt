-- Laws of the tally's collect: what a tensor reaches along its tops is what document 01 names; collect keeps exactly
-- that, in order.
use Rattle.std.specs.Prelude.{◌≡◌, ◌↔◌, Bool, cond, ◌&&◌, ◌||◌, eqb}
use Rattle.std.proofs.Math.Path.{refl, sym}
use Rattle.std.proofs.Common.{ap, ◌∙◌, subst, arith, eqb-true}
use Rattle.std.proofs.Math.Bool.{true, false}
use Rattle.std.proofs.lemmas.Bool.{false≢true, eqb-false}
use Rattle.std.proofs.Math.Option.{Option, none, some}
use mathlib.Core.List.{List, [], ◌∷◌, ◌++◌, Sublistᴰ}
use Prim.Native.Nat.{ℕ, zero, suc, ◌+◌, ◌-◌, ◌≤◌, ◌<◌}
use Rattle.field.specs.Weight.{Weight, inverse_w, Nonzero}
use Rattle.field.specs.InverseLaws.{inverse_nonzero}
use Rattle.std.proofs.lemmas.Bool.{or_left, or_right}
use Rattle.std.proofs.Math.Bool.{and-false, or_assoc}
use Rattle.diagram.specs.Tensor.{Tensor, top, fix, first, normal, scale, same}
use Rattle.diagram.specs.TensorLaws.{fix_scale, same_eq, eq_same, same_refl}
use Rattle.diagram.specs.TopLaws.{free_below_fix, free_below_top, top_free_below, free_below_less, fix_free_below}
use Rattle.diagram.specs.TopLaws.{top_is, top_inside}
use Rattle.diagram.specs.Top.{FreeBelow, TopAtLeast}
use Rattle.diagram.specs.TensorScaleLaws.{unscale, first_nonzero, top_nonzero, top_scale, normal_scale}
use Rattle.diagram.specs.TestLaws.{cases, or_cases}
use Rattle.diagram.specs.Tally.{Set, member, fix_both, cofactors_below, normal_at, normals, keeps, keep_only, collect}
use Rattle.diagram.specs.Reach.{itself, more, Reachable, Covers, NormalCofactor, part, start, IsCofactorBelow}
use Rattle.diagram.specs.Reach.{IsKept}

-- a multiple reaches the same
pub reachable_scale : {d : ℕ} (c : Weight) (x T : Tensor d) → Nonzero c → Reachable x T → Reachable x (scale c T)
reachable_scale c x T n (itself k e q) = itself k (top_scale c T n ∙ e) (q ∙ sym (normal_scale c T n))
reachable_scale c x T n (part k e b r) =
    part k (top_scale c T n ∙ e) b (rw (fix_scale k b c T) (reachable_scale c x (fix k b T) n r))

pub reachable_unscale : {d : ℕ} (c : Weight) (x T : Tensor d) → Nonzero c → Reachable x (scale c T) → Reachable x T
reachable_unscale c x T n r = rw (unscale T n) at (reachable_scale (inverse_w c) x (scale c T) (inverse_nonzero n) r)

-- what a reached tensor reaches is reached
pub reachable_trans : {d : ℕ} (x y T : Tensor d) → Reachable x T → Reachable y x → Reachable y T
reachable_trans x y T (itself k e q) r =
    reachable_unscale (inverse_w (first T)) y T (inverse_nonzero (first_nonzero T (top_nonzero k T e)))
    (unfold normal in rw q at r)
reachable_trans x y T (part k e b p) r = part k e b (reachable_trans x y (fix k b T) p r)

pub cofactor_below_from : {d : ℕ} (T : Tensor d) (j : ℕ) (C : Tensor d) → IsCofactorBelow T j C → FreeBelow j C
cofactor_below_from T j C start = tt
cofactor_below_from T j C (more {j = i} {C = B} g b) = free_below_fix i b B (cofactor_below_from T i B g)

-- fixing the lowest index that may matter
pub reachable_fix : {d : ℕ} (j : ℕ) (b : Bool) (x T : Tensor d) → FreeBelow j T → Reachable x (fix j b T)
    → Reachable x T
reachable_fix j b x T f r = go (top T) refl (top_free_below j T f)
  where
    go : (o : Option ℕ) → top T ≡ o → TopAtLeast j o → Reachable x T
    go none e p = rw (fix_free_below j b T (free_below_top (suc j) T (rw e tt))) at r
    go (some k) e p = cases (eqb j k)
        (λ q. part j (e ∙ ap some (sym (eqb-true j k q))) b r)
        (λ q. rw (fix_free_below j b T (free_below_less (suc j) k T (omega (arith, eqb-false j k q)) (top_is k T e))) at
        r)

-- what is got reaches no more ..
pub cofactor_below_reachable : {d : ℕ} (x T : Tensor d) (j : ℕ) (C : Tensor d) → IsCofactorBelow T j C → Reachable x C
    → Reachable x T
cofactor_below_reachable x T j C start r = r
cofactor_below_reachable x T j C (more {j = i} {C = B} g b) r =
    cofactor_below_reachable x T i B g (reachable_fix i b x B (cofactor_below_from T i B g) r)

-- indices below the top can be fixed to anything
got_up : {d : ℕ} (n j k : ℕ) (T C : Tensor d) → n + j ≡ k → FreeBelow k C → IsCofactorBelow T j C → IsCofactorBelow T k
    C
got_up zero j k T C p f g = let q : j ≡ k = omega arith in rw q at g
got_up (suc n) j k T C p f g =
    got_up n (suc j) k T C (omega arith) f (rw (fix_free_below j false C (free_below_less (suc j) k C (omega arith) f))
    at (more g false))

-- .. and all that is reached is the normal multiple of what is got
cofactor_from : {d : ℕ} (x T : Tensor d) (j : ℕ) (C : Tensor d) → IsCofactorBelow T j C → Reachable x C
    → NormalCofactor d T x
cofactor_from {d} x T j C g (itself k e q) =
    let p : j ≤ k = rw e at (top_free_below j C (cofactor_below_from T j C g)) in
    record { j = j; less = omega (arith, top_inside k C e); tensor = C; got = g; index = k; depends = e; is = q }
cofactor_from x T j C g (part k e b r) =
    let p : j ≤ k = rw e at (top_free_below j C (cofactor_below_from T j C g)) in
    cofactor_from x T (suc k) (fix k b C) (more (got_up (k - j) j k T C (omega arith) (top_is k C e) g) b) r

pub reachable_cofactor : {d : ℕ} (x T : Tensor d) → Reachable x T → NormalCofactor d T x
reachable_cofactor x T r = cofactor_from x T 0 T start r

pub cofactor_reachable : {d : ℕ} (n : ℕ) (x T : Tensor d) → NormalCofactor n T x → Reachable x T
cofactor_reachable n x T c =
    cofactor_below_reachable x T c.j c.tensor c.got (itself c.index c.depends c.is)

-- `Covers` in document 01's words: the set has the normal multiple of each nonconstant tensor got from A
-- "by fixing indices 0 to j-1"
pub covers_exactly : {d : ℕ} (s : Set d) (A : Tensor d)
    → Covers s A ↔ ((x : Tensor d) → NormalCofactor d A x → member x s ≡ true)
covers_exactly {d} s A =
    (λ c x k. c.is x (cofactor_reachable d x A k), λ h. record { is = λ x r. h x (reachable_cofactor x A r) })

pub member_or : {d : ℕ} (x : Tensor d) (s t : Set d) → member x (s ++ t) ≡ (member x s || member x t)
unfolding member
member_or x [] t = refl
member_or x (y ∷ s) t = rw (member_or x s t) (sym (or_assoc (same x y) (member x s) (member x t)))

-- the definition of `keeps` says this, both ways

module _ {d : ℕ} where
  in_both : (k : ℕ) (l : List (Tensor d)) (C : Tensor d) → member C (fix_both k l) ≡ true
      → (B : Tensor d) × (member B l ≡ true) × ((b : Bool) × (fix k b B ≡ C))
  unfolding member fix_both
  in_both k [] C e = absurd (false≢true e)
  in_both k (T ∷ l) C e =
      or_cases (same C (fix k false T)) _ e
      (λ e. (T, or_left (same T T) _ (same_refl T), (false, sym (same_eq _ _ e))))
      (λ e. or_cases (same C (fix k true T)) _ e
      (λ e. (T, or_left (same T T) _ (same_refl T), (true, sym (same_eq _ _ e))))
      (λ e. let r = in_both k l C e in (r.0, or_right (same r.0 T) _ r.1, r.2)))

  both_in : (k : ℕ) (l : List (Tensor d)) (B : Tensor d) (b : Bool) → member B l ≡ true
      → member (fix k b B) (fix_both k l) ≡ true
  unfolding member fix_both
  both_in k [] B b e = e
  both_in k (T ∷ l) B b e =
      or_cases (same B T) _ e (λ q. here b (same_eq B T q))
      (λ q. or_right (same (fix k b B) (fix k false T)) _ (or_right (same (fix k b B) (fix k true T)) _
      (both_in k l B b q)))
    where
      here : (b : Bool) → B ≡ T
          → (same (fix k b B) (fix k false T) || (same (fix k b B) (fix k true T) || member (fix k b B) (fix_both k l)))
          ≡ true
      here false q = or_left (same (fix k false B) (fix k false T)) _ (eq_same (ap (fix k false) q))
      here true q =
          or_right (same (fix k true B) (fix k false T)) _ (or_left (same (fix k true B) (fix k true T)) _
          (eq_same (ap (fix k true) q)))

  cofactors_got : (j : ℕ) (l : List (Tensor d)) (C : Tensor d) → member C (cofactors_below j l) ≡ true
      → (T : Tensor d) × (member T l ≡ true) × IsCofactorBelow T j C
  unfolding cofactors_below
  cofactors_got zero l C e = (C, e, start)
  cofactors_got (suc j) l C e =
      let r = in_both j (cofactors_below j l) C e in
      let g = cofactors_got j l r.0 r.1 in
      (g.0, g.1, rw r.2.1 at (more g.2 r.2.0))

  got_cofactors : (l : List (Tensor d)) (T : Tensor d) → member T l ≡ true → (j : ℕ) (C : Tensor d) → IsCofactorBelow T
      j C
      → member C (cofactors_below j l) ≡ true
  unfolding cofactors_below
  got_cofactors l T e j C start = e
  got_cofactors l T e j C (more {j = i} {C = B} g b) = both_in i (cofactors_below i l) B b (got_cofactors l T e i B g)

  abbrev NormalOf : List (Tensor d) → Tensor d → Type 0
  NormalOf l x = (C : Tensor d) × (member C l ≡ true) × ((k : ℕ) × (top C ≡ some k) × (x ≡ normal C))

  in_normals : (l : List (Tensor d)) (x : Tensor d) → member x (normals l) ≡ true → NormalOf l x
  unfolding member normals normal_at
  in_normals [] x e = absurd (false≢true e)
  in_normals (T ∷ l) x e = go (top T) refl e (in_normals l x)
    where
      go : (o : Option ℕ) → top T ≡ o → member x (normal_at o T ++ normals l) ≡ true
          → (member x (normals l) ≡ true → NormalOf l x) → NormalOf (T ∷ l) x
      go none t e ih = let r = ih e in (r.0, or_right (same r.0 T) _ r.1, r.2)
      go (some k) t e ih =
          or_cases (same x (normal T)) _ e
          (λ q. (T, or_left (same T T) _ (same_refl T), (k, t, same_eq _ _ q)))
          (λ q. let r = ih q in (r.0, or_right (same r.0 T) _ r.1, r.2))

  normals_in : (l : List (Tensor d)) (C : Tensor d) (k : ℕ) → member C l ≡ true → top C ≡ some k
      → member (normal C) (normals l) ≡ true
  unfolding member normals normal_at
  normals_in [] C k e t = e
  normals_in (T ∷ l) C k e t =
      rw (member_or (normal C) (normal_at (top T) T) (normals l))
      (or_cases (same C T) _ e
      (λ q. or_left _ _ (here (same_eq C T q)))
      (λ q. or_right (member (normal C) (normal_at (top T) T)) _ (normals_in l C k q t)))
    where
      here : C ≡ T → member (normal C) (normal_at (top T) T) ≡ true
      here q = rw (← q, t) (or_left _ _ (same_refl (normal C)))

  cofactor_more : (m n : ℕ) (T x : Tensor d) (c : NormalCofactor m T x) → c.j < n → NormalCofactor n T x
  cofactor_more m n T x c p =
      record {
        j = c.j;
        less = p;
        tensor = c.tensor;
        got = c.got;
        index = c.index;
        depends = c.depends;
        is = c.is;
      }

  pub keeps_kept : (n : ℕ) (l : List (Tensor d)) (x : Tensor d) → member x (keeps n l) ≡ true → IsKept n l x
  unfolding keeps
  keeps_kept zero l x e = absurd (false≢true (unfold member in e))
  keeps_kept (suc n) l x e =
      or_cases (member x (keeps n l)) _ (sym (member_or x (keeps n l) (normals (cofactors_below n l))) ∙ e)
      (λ e. later (keeps_kept n l x e)) now
    where
      later : IsKept n l x → IsKept (suc n) l x
      later k = record {
        register = k.register;
        present = k.present;
        cofactor = cofactor_more n (suc n) _ _ k.cofactor (omega (arith, k.cofactor.less));
      }

      now : member x (normals (cofactors_below n l)) ≡ true → IsKept (suc n) l x
      now e =
          let r = in_normals (cofactors_below n l) x e in
          let g = cofactors_got n l r.0 r.1 in
          record {
            register = g.0;
            present = g.1;
            cofactor = record {
              j = n;
              less = omega arith;
              tensor = r.0;
              got = g.2;
              index = r.2.0;
              depends = r.2.1;
              is = r.2.2;
            };
          }

  pub kept_keeps : (n : ℕ) (l : List (Tensor d)) (x : Tensor d) → IsKept n l x → member x (keeps n l) ≡ true
  unfolding keeps
  kept_keeps zero l x k = absurd (omega (arith, k.cofactor.less))
  kept_keeps (suc n) l x k =
      rw member_or (cases (eqb k.cofactor.j n) now (λ q. or_left _ _
      (kept_keeps n l x (earlier (eqb-false k.cofactor.j n q)))))
    where
      c : NormalCofactor (suc n) k.register x
      c = k.cofactor

      now : eqb c.j n ≡ true → (member x (keeps n l) || member x (normals (cofactors_below n l))) ≡ true
      now q =
          let got : IsCofactorBelow k.register n c.tensor = subst
          (λ i. IsCofactorBelow k.register i c.tensor)
          (eqb-true c.j n q) c.got in
          let here = got_cofactors l k.register k.present n c.tensor got in
          or_right (member x (keeps n l)) _ (rw c.is (normals_in (cofactors_below n l) c.tensor c.index here
          c.depends))

      earlier : (c.j ≡ n → ⊥) → IsKept n l x
      earlier ne = record {
        register = k.register;
        present = k.present;
        cofactor = cofactor_more (suc n) n _ _ c (omega (arith, c.less, ne));
      }

  -- the same along the tops
  pub keeps_reachable : (l : List (Tensor d)) (x : Tensor d) → member x (keeps d l) ≡ true
      → (T : Tensor d) × (member T l ≡ true) × Reachable x T
  keeps_reachable l x e =
      let k = keeps_kept d l x e in (k.register, k.present, cofactor_reachable d x k.register k.cofactor)

  pub reachable_keeps : (l : List (Tensor d)) (x T : Tensor d) → member T l ≡ true → Reachable x T
      → member x (keeps d l) ≡ true
  reachable_keeps l x T e r =
      kept_keeps d l x (record { register = T; present = e; cofactor = reachable_cofactor x T r })

  -- the filter

  keep_only_member : (l : List (Tensor d)) (s : Set d) (x : Tensor d) → member x (keep_only l s)
      ≡ (member x l && member x s)
  unfolding member keep_only
  keep_only_member l [] x = sym (and-false (member x l))
  keep_only_member l (y ∷ s) x = go (member y l) refl (same x y) refl (keep_only_member l s x)
    where
      go : (b : Bool) → member y l ≡ b → (c : Bool) → same x y ≡ c → member x (keep_only l s)
          ≡ (member x l && member x s)
          → member x (cond b (y ∷ keep_only l s) (keep_only l s)) ≡ (member x l && (c || member x s))
      go true p true q ih = rw q (sym (rw (same_eq x y q, p) refl))
      go true p false q ih = rw q ih
      go false p true q ih = ih ∙ (rw (same_eq x y q, p) refl)
      go false p false q ih = ih

  keep_only_sublist : (l : List (Tensor d)) (s : Set d) → Sublistᴰ (keep_only l s) s
  unfolding keep_only
  keep_only_sublist l [] = Sublistᴰ.slnil
  keep_only_sublist l (x ∷ s) = one (member x l) (keep_only_sublist l s)
    where
      one : (b : Bool) → Sublistᴰ (keep_only l s) s → Sublistᴰ (cond b (x ∷ keep_only l s) (keep_only l s)) (x ∷ s)
      one true h = Sublistᴰ.cons-cons refl h
      one false h = Sublistᴰ.cons h

  -- a tensor is in the set after a collection exactly when the document keeps it and it was there
  pub collect_member : (filled : List (Tensor d)) (s : Set d) (x : Tensor d)
      → member x (collect filled s) ≡ (member x (keeps d filled) && member x s)
  unfolding collect
  collect_member filled s x = keep_only_member (keeps d filled) s x

  -- "a collection closes the gaps and preserves order"
  pub collect_sublist : (filled : List (Tensor d)) (s : Set d) → Sublistᴰ (collect filled s) s
  unfolding collect
  collect_sublist filled s = keep_only_sublist (keeps d filled) s

  -- where the set has all that the filled registers reach, "the set keeps exactly" what the document names
  pub collect_exactly : (filled : List (Tensor d)) (s : Set d) → ((T : Tensor d) → member T filled ≡ true → Covers s T)
      → (x : Tensor d) → member x (collect filled s) ≡ member x (keeps d filled)
  collect_exactly filled s c x = collect_member filled s x ∙ go (member x (keeps d filled)) refl
    where
      go : (b : Bool) → member x (keeps d filled) ≡ b → (b && member x s) ≡ b
      go true e = let r = keeps_reachable filled x e in (c r.0 r.1).is x r.2
      go false e = refl

  -- .. and still has it
  pub collect_covers : (filled : List (Tensor d)) (s : Set d) (T : Tensor d) → member T filled ≡ true → Covers s T
      → Covers (collect filled s) T
  collect_covers filled s T e c =
      record { is = λ x r. collect_member filled s x ∙ rw (reachable_keeps filled x T e r) (c.is x r) }
