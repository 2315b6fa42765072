-- Laws of steps that answer and put in the same whatever the set: growth, stability, done again.
use Rattle.std.specs.Prelude.{◌≡◌, refl, Bool, true, false, [], ◌∷◌, ◌++◌, ℕ, suc, ◌<◌}
use Rattle.std.proofs.Common.{ap, sym, subst, ◌∙◌}
use Rattle.field.specs.Weight.{Weight, Nonzero}
use Rattle.diagram.specs.Tensor.{Tensor, same, scale, fix, joined, normal}
use Rattle.diagram.specs.TensorLaws.{joined_scale, fix_scale}
use Rattle.diagram.specs.Top.{FreeBelow}
use Rattle.diagram.specs.TensorScaleLaws.{same_scale, normal_scale, normal_joined}
use Rattle.diagram.specs.Tally.{Set, Step, Binary, return, ◌>>=◌, join_cases, join, both}
use Rattle.diagram.specs.Sets.{PrefixOf, put_all, Present}
use Rattle.diagram.specs.SetsLaws.{put_all_append, put_all_grows, present_prefix, put_all_present, present_put_all}
use Rattle.diagram.specs.SetsLaws.{present_after, distinct_put_all, normal_append, normal_put_all}
use Rattle.diagram.specs.Sets.{Distinct, AllNormal}
use Rattle.diagram.specs.TallyStep.{Writes, ScaledStep}

-- a step that answers T and puts in the same tensors at every set

pub writes_return : {d : ℕ} (T : Tensor d) → Writes T (return T)
unfolding return put_all
writes_return T = record { puts = []; normal = tt; is = λ s. refl }

pub writes_as : {d : ℕ} {T U : Tensor d} {f : Step d} → T ≡ U → Writes T f → Writes U f
writes_as {f = f} e w = subst (λ X. Writes X f) e w

pub writes_bind : {d : ℕ} {T U : Tensor d} {f : Step d} (g : Tensor d → Step d) → Writes T f → Writes U (g T)
    → Writes U (f >>= g)
unfolding ◌>>=◌
writes_bind g p q =
    record {
      puts = p.puts ++ q.puts;
      normal = normal_append p.puts q.puts p.normal q.normal;
      is = λ s. rw (p.is s, put_all_append) (q.is (put_all p.puts s));
    }

pub writes_both : {d : ℕ} {L H T : Tensor d} (rec : Binary d) (k : ℕ) (A B : Tensor d) (final : Binary d)
    → Writes L (rec (fix k false A) (fix k false B)) → Writes H (rec (fix k true A) (fix k true B))
    → Writes T (final L H) → Writes T (both rec k A B final)
unfolding both
writes_both {L = L} rec k A B final p q r =
    writes_bind (λ L. rec (fix k true A) (fix k true B) >>= final L) p (writes_bind (final L) q r)

-- meaning, growth and stability of such a step

pub writes_answer : {d : ℕ} {T : Tensor d} {f : Step d} → Writes T f → (s : Set d) → (f s).0 ≡ T
writes_answer w s = ap (λ r. r.0) (w.is s)

pub writes_grows : {d : ℕ} {T : Tensor d} {f : Step d} → Writes T f → (s : Set d) → PrefixOf s (f s).1
writes_grows w s = rw (w.is s) (put_all_grows w.puts s)

-- that the set stays the same is known from any set that it stays the same at
pub writes_present : {d : ℕ} {T : Tensor d} {f : Step d} (w : Writes T f) (s : Set d) → Present w.puts s
    → f s ≡ (T, s)
writes_present {T = T} w s p = w.is s ∙ ap (λ x. (T, x)) (put_all_present w.puts s p)

pub present_writes : {d : ℕ} {T : Tensor d} {f : Step d} (w : Writes T f) (s : Set d) → (f s).1 ≡ s → Present w.puts s
present_writes w s e = present_put_all w.puts s (sym (ap (λ r. r.1) (w.is s)) ∙ e)

pub writes_stable : {d : ℕ} {T : Tensor d} {f : Step d} → Writes T f → (s t : Set d) → PrefixOf s t → (f s).1 ≡ s
    → f t ≡ (T, t)
writes_stable w s t g e = writes_present w t (present_prefix w.puts g (present_writes w s e))

-- a step that is done again changes nothing
pub writes_again : {d : ℕ} {T : Tensor d} {f : Step d} → Writes T f → (s : Set d) → f (f s).1 ≡ (T, (f s).1)
writes_again {f = f} w s = writes_present w (f s).1 (rw (w.is s) (present_after w.puts s))

pub writes_distinct : {d : ℕ} {T : Tensor d} {f : Step d} → Writes T f → (s : Set d) → Distinct s → Distinct (f s).1
writes_distinct w s p = rw (w.is s) (distinct_put_all w.puts s p)

pub writes_normal : {d : ℕ} {T : Tensor d} {f : Step d} → Writes T f → (s : Set d) → AllNormal s → AllNormal (f s).1
writes_normal w s p = rw (w.is s) (normal_put_all w.puts s w.normal p)

pub scaled_return : {d : ℕ} (c : Weight) (T : Tensor d) → ScaledStep c (return T) (return (scale c T))
unfolding return
scaled_return c T = record { is = λ s. refl }

pub scaled_answer : {d : ℕ} (c : Weight) (T : Tensor d) {U : Tensor d} → U ≡ scale c T
    → ScaledStep c (return T) (return U)
scaled_answer c T e = rw e (scaled_return c T)

pub scaled_bind : {d : ℕ} {c : Weight} {f f' : Step d} (g g' : Tensor d → Step d) → ScaledStep c f f'
    → ((T : Tensor d) → ScaledStep c (g T) (g' (scale c T)))
    → ScaledStep c (f >>= g) (f' >>= g')
unfolding ◌>>=◌
scaled_bind {f = f} g g' p q = record { is = λ s. rw (p.is s) ((q (f s).0).is (f s).1) }

-- the parts at k of the multiples are the multiples of the parts
pub scaled_both : {d : ℕ} {c : Weight} (a b : Weight) (rec rec' : Binary d) (k : ℕ) (A B : Tensor d)
    (final final' : Binary d)
    → ((x : Bool) → ScaledStep c (rec (fix k x A) (fix k x B)) (rec' (scale a (fix k x A)) (scale b (fix k x B))))
    → ((L H : Tensor d) → ScaledStep c (final L H) (final' (scale c L) (scale c H)))
    → ScaledStep c (both rec k A B final) (both rec' k (scale a A) (scale b B) final')
unfolding both
scaled_both a b rec rec' k A B final final' p q = simp fix_scale
    (scaled_bind _ _ (p false) (λ L. scaled_bind _ _ (p true) (λ H. q L H)))

pub writes_join : {d : ℕ} (k : ℕ) (L H : Tensor d) → k < d → FreeBelow (suc k) L → FreeBelow (suc k) H
    → Writes (joined k L H) (join k L H)
unfolding join join_cases put_all
writes_join k L H p f g = go (same L H) refl
  where
    go : (b : Bool) → same L H ≡ b → Writes (joined k L H) (join_cases b (joined k L H))
    go true e = record { puts = []; normal = tt; is = λ s. refl }
    go false e = record {
      puts = normal (joined k L H) ∷ [];
      normal = (normal_joined k L H p f g e, tt);
      is = λ s. refl;
    }

pub join_meaning : {d : ℕ} (k : ℕ) (L H : Tensor d) (s : Set d) → (join k L H s).0 ≡ joined k L H
unfolding join join_cases
join_meaning k L H s = go (same L H)
  where
    go : (b : Bool) → (join_cases b (joined k L H) s).0 ≡ joined k L H
    go true = refl
    go false = refl

pub scaled_join : {d : ℕ} (c : Weight) (k : ℕ) (L H : Tensor d) → Nonzero c
    → ScaledStep c (join k L H) (join k (scale c L) (scale c H))
unfolding join join_cases
scaled_join c k L H n = record { is = λ s. rw (same_scale c L H n, joined_scale k c L H) (go s (same L H)) }
  where
    go : (s : Set _) (b : Bool)
        → join_cases b (scale c (joined k L H)) s ≡ (
          scale c (join_cases b (joined k L H) s).0,
          (join_cases b
              (joined k L H) s).1,
        )
    go s true = refl
    go s false = rw (normal_scale c (joined k L H) n)
