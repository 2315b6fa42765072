-- Laws of the set as a list: growing, putting in, what is present, nothing twice, all normal.
use Rattle.std.specs.Prelude.{◌≡◌, refl, Bool, true, false, cond, ◌||◌, List, [], ◌∷◌, ◌++◌, ℕ, zero, suc, ◌<◌, length}
use Rattle.std.specs.Prelude.{get_or}
use Rattle.std.proofs.Common.{ap, sym, ◌∙◌, true≢false, append_assoc, append-nil, arith, length-append}
use Rattle.std.specs.Cmp.{both_ways}
use Rattle.std.proofs.lemmas.Bool.{or_parts}
use Rattle.std.proofs.lemmas.Bool.{or_right}
use Rattle.std.proofs.lemmas.List.{nil_from_length}
use Rattle.diagram.specs.Tensor.{Tensor, same, Normal}
use Rattle.diagram.specs.TensorLaws.{same_refl, same_eq, eq_same}
use Rattle.diagram.specs.Tally.{Set, member, put}
use Rattle.diagram.specs.Sets.{Distinct, put_all, Present, PrefixOf, AllNormal}

pub prefix_refl : {A : Type 0} (s : List A) → PrefixOf s s
prefix_refl s = record { more = []; is = sym (append-nil s) }

pub prefix_trans : {A : Type 0} {s t u : List A} → PrefixOf s t → PrefixOf t u → PrefixOf s u
prefix_trans {s = s} g h = record {
  more = g.more ++ h.more;
  is = h.is ∙ ap (λ x. x ++ h.more) g.is ∙ append_assoc s g.more h.more;
}

pub prefix_back : {A : Type 0} {s t : List A} → PrefixOf s t → PrefixOf t s → t ≡ s
prefix_back {s = s} {t = t} g h =
    let a = ap length g.is ∙ length-append s g.more in
    let b = ap length h.is ∙ length-append t h.more in
    g.is ∙ ap (λ x. s ++ x) (nil_from_length g.more (omega arith)) ∙ append-nil s

pub put_all_append : {d : ℕ} (xs ys s : Set d) → put_all (xs ++ ys) s ≡ put_all ys (put_all xs s)
unfolding put_all
put_all_append [] ys s = refl
put_all_append (x ∷ xs) ys s = put_all_append xs ys (put x s)

pub put_grows : {d : ℕ} (x : Tensor d) (s : Set d) → PrefixOf s (put x s)
unfolding put
put_grows x s = go (member x s)
  where
    go : (b : Bool) → PrefixOf s (cond b s (s ++ (x ∷ [])))
    go true = prefix_refl s
    go false = record { more = x ∷ []; is = refl }

pub put_all_grows : {d : ℕ} (xs s : Set d) → PrefixOf s (put_all xs s)
unfolding put_all
put_all_grows [] s = prefix_refl s
put_all_grows (x ∷ xs) s = prefix_trans (put_grows x s) (put_all_grows xs (put x s))

pub member_append : {d : ℕ} (x : Tensor d) (s t : Set d) → member x s ≡ true → member x (s ++ t) ≡ true
unfolding member
member_append x [] t e = absurd (true≢false (sym e))
member_append x (y ∷ s) t e = go (same x y) e (member_append x s t)
  where
    go : (b : Bool) → (b || member x s) ≡ true → (member x s ≡ true → member x (s ++ t) ≡ true)
        → (b || member x (s ++ t)) ≡ true
    go true e f = refl
    go false e f = f e

pub put_present : {d : ℕ} (x : Tensor d) (s : Set d) → member x s ≡ true → put x s ≡ s
unfolding put
put_present x s e = rw e

pub present_put : {d : ℕ} (x : Tensor d) (s : Set d) → put x s ≡ s → member x s ≡ true
unfolding put
present_put x s e = go (member x s) e
  where
    go : (b : Bool) → cond b s (s ++ (x ∷ [])) ≡ s → b ≡ true
    go true e = refl
    go false e = absurd (omega (arith, ap length e, length-append s (x ∷ [])))

pub member_prefix : {d : ℕ} (x : Tensor d) {s t : Set d} → PrefixOf s t → member x s ≡ true → member x t ≡ true
member_prefix x {s} g e = rw g.is (member_append x s g.more e)

pub present_prefix : {d : ℕ} (xs : Set d) {s t : Set d} → PrefixOf s t → Present xs s → Present xs t
present_prefix [] g p = tt
present_prefix (x ∷ xs) g p = (member_prefix x g p.0, present_prefix xs g p.1)

-- putting in what is present changes nothing, and only that
pub put_all_present : {d : ℕ} (xs s : Set d) → Present xs s → put_all xs s ≡ s
unfolding put_all
put_all_present [] s p = refl
put_all_present (x ∷ xs) s p = rw (put_present x s p.0) (put_all_present xs s p.1)

pub present_put_all : {d : ℕ} (xs s : Set d) → put_all xs s ≡ s → Present xs s
unfolding put_all
present_put_all [] s e = tt
present_put_all (x ∷ xs) s e =
    let p : put x s ≡ s = prefix_back (put_grows x s) (rw e at (put_all_grows xs (put x s))) in
    (present_put x s p, present_put_all xs s (rw p at e))

member_last : {d : ℕ} (x : Tensor d) (s : Set d) → member x (s ++ (x ∷ [])) ≡ true
unfolding member
member_last x [] = rw (same_refl x)
member_last x (y ∷ s) = or_right (same x y) _ (member_last x s)

pub member_put : {d : ℕ} (x : Tensor d) (s : Set d) → member x (put x s) ≡ true
unfolding put
member_put x s = go (member x s) refl
  where
    go : (b : Bool) → member x s ≡ b → member x (cond b s (s ++ (x ∷ []))) ≡ true
    go true e = e
    go false e = member_last x s

-- what was put in is present
pub present_after : {d : ℕ} (xs s : Set d) → Present xs (put_all xs s)
unfolding put_all
present_after [] s = tt
present_after (x ∷ xs) s = (member_prefix x (put_all_grows xs (put x s)) (member_put x s), present_after xs (put x s))

pub same_sym : {d : ℕ} (A B : Tensor d) → same A B ≡ same B A
same_sym A B = both_ways (same A B) (same B A) (λ e. eq_same (sym (same_eq A B e))) (λ e. eq_same (sym (same_eq B A e)))

distinct_last : {d : ℕ} (x : Tensor d) (s : Set d) → member x s ≡ false → Distinct s → Distinct (s ++ (x ∷ []))
unfolding member
distinct_last x [] e p = (refl, tt)
distinct_last x (y ∷ s) e p =
    let n = or_parts (same x y) (member x s) e in
    (member_other y s p.0 (same_sym y x ∙ n.0), distinct_last x s n.1 p.1)
  where
    member_other : (y : Tensor _) (s : Set _) → member y s ≡ false → same y x ≡ false → member y (s ++ (x ∷ [])) ≡ false
    member_other y [] p q = rw q
    member_other y (z ∷ s) p q = let n = or_parts (same y z) (member y s) p in rw n.0 (member_other y s n.1 q)

pub distinct_put : {d : ℕ} (x : Tensor d) (s : Set d) → Distinct s → Distinct (put x s)
unfolding put
distinct_put x s p = go (member x s) refl
  where
    go : (b : Bool) → member x s ≡ b → Distinct (cond b s (s ++ (x ∷ [])))
    go true e = p
    go false e = distinct_last x s e p

pub distinct_put_all : {d : ℕ} (xs s : Set d) → Distinct s → Distinct (put_all xs s)
unfolding put_all
distinct_put_all [] s p = p
distinct_put_all (x ∷ xs) s p = distinct_put_all xs (put x s) (distinct_put x s p)

pub normal_append : {d : ℕ} (s t : Set d) → AllNormal s → AllNormal t → AllNormal (s ++ t)
normal_append [] t p q = q
normal_append (x ∷ s) t p q = (p.0, normal_append s t p.1 q)

normal_put : {d : ℕ} (x : Tensor d) (s : Set d) → Normal x → AllNormal s → AllNormal (put x s)
unfolding put
normal_put x s n p = go (member x s)
  where
    go : (b : Bool) → AllNormal (cond b s (s ++ (x ∷ [])))
    go true = p
    go false = normal_append s (x ∷ []) p (n, tt)

pub normal_put_all : {d : ℕ} (xs s : Set d) → AllNormal xs → AllNormal s → AllNormal (put_all xs s)
unfolding put_all
normal_put_all [] s n p = p
normal_put_all (x ∷ xs) s n p = normal_put_all xs (put x s) n.1 (normal_put x s n.0 p)

-- what stands in the list is a member
pub member_at : {d : ℕ} (T : Tensor d) (ts : Set d) (i : ℕ) (D : Tensor d) → i < length ts → get_or ts i D ≡ T
    → member T ts ≡ true
unfolding member
member_at T [] i D p e = absurd (omega arith)
member_at T (x ∷ ts) zero D p e = rw (eq_same (sym e)) refl
member_at T (x ∷ ts) (suc i) D p e = or_right (same T x) _ (member_at T ts i D (omega arith) e)
