-- Laws of the tally's steps case by case, as a proof of the engine cites them.
use Rattle.std.specs.Prelude.{◌≡◌, refl, true, false, cond, ◌||◌, [], ◌∷◌, ◌++◌, ℕ, ◌-◌, ◌<◌}
use Rattle.std.proofs.Common.{ap, sym, ◌∙◌, arith}
use Rattle.std.proofs.Math.Option.{none, some}
use borrow.Author.Tests.{eq-eqb, ne_eqb, lt-ltb, le-ltb}
use Rattle.field.specs.Weight.{0w}
use Rattle.diagram.specs.Tensor.{Tensor, Bits, same, constant, is_zero, scale, plus, times, top}
use Rattle.diagram.specs.Tensor.{top2, fix, joined, normal, multiple, assign, without, members, power2}
use Rattle.diagram.specs.TensorLaws.{same_eq, joined_self}
use Rattle.diagram.specs.Tally.{Set, Binary, Unary, return, ◌>>=◌, member, put, join_cases, join, both, sum_cases}
use Rattle.diagram.specs.Tally.{sum_body, sum, cont_cases}
use Rattle.diagram.specs.Tally.{cont_body, cont, halves, low_at, low_cases, low_body, low, build_cases, build_body}
use Rattle.diagram.specs.Tally.{build}
use Rattle.diagram.specs.TallySumLaws.{sum_step}
use Rattle.diagram.specs.TallyContLaws.{cont_step}
use Rattle.diagram.specs.TallyLowLaws.{low_step}
use Rattle.diagram.specs.TallyBuildLaws.{build_step}

pub both_done : {d : ℕ} (rec : Binary d) (k : ℕ) (A B : Tensor d) (final : Binary d) {s s1 s2 : Set d} {L H : Tensor d}
    → rec (fix k false A) (fix k false B) s ≡ (L, s1) → rec (fix k true A) (fix k true B) s1 ≡ (H, s2)
    → both rec k A B final s ≡ final L H s2
unfolding both ◌>>=◌
both_done rec k A B final p q = rw (p, q)

halves_done : {d : ℕ} (rec : Unary d) (k : ℕ) (A : Tensor d) (final : Binary d) {s s1 s2 : Set d} {L H : Tensor d}
    → rec (fix k false A) s ≡ (L, s1) → rec (fix k true A) s1 ≡ (H, s2) → halves rec k A final s ≡ final L H s2
unfolding halves ◌>>=◌
halves_done rec k A final p q = rw (p, q)

module _ {d : ℕ} (k : ℕ) (L H : Tensor d) (s : Set d) where
  pub join_same : same L H ≡ true → join k L H s ≡ (L, s)
  unfolding join join_cases
  join_same e = rw e (ap (λ x. (x, s)) (ap (joined k L) (sym (same_eq L H e)) ∙ joined_self k L))

  pub join_present : same L H ≡ false → member (normal (joined k L H)) s ≡ true → join k L H s ≡ (joined k L H, s)
  unfolding join join_cases put
  join_present e m = rw (e, m)

  pub join_new : same L H ≡ false → member (normal (joined k L H)) s ≡ false
      → join k L H s ≡ (joined k L H, s ++ (normal (joined k L H) ∷ []))
  unfolding join join_cases put
  join_new e m = rw (e, m)

module _ {d : ℕ} (A B : Tensor d) (s : Set d) where
  pub sum_zero_left : is_zero A ≡ true → sum A B s ≡ (B, s)
  unfolding sum_body sum_cases return
  sum_zero_left p = rw (sum_step A B, p)

  pub sum_zero_right : is_zero A ≡ false → is_zero B ≡ true → sum A B s ≡ (A, s)
  unfolding sum_body sum_cases return
  sum_zero_right p q = rw (sum_step A B, p, q)

  pub sum_multiple : is_zero A ≡ false → is_zero B ≡ false → multiple A B ≡ true → sum A B s ≡ (plus A B, s)
  unfolding sum_body sum_cases return
  sum_multiple p q m = rw (sum_step A B, p, q, m)

  pub sum_both : is_zero A ≡ false → is_zero B ≡ false → multiple A B ≡ false → (k : ℕ) → top2 A B ≡ some k
      → sum A B ≡ both sum k A B (join k)
  unfolding sum_body sum_cases
  sum_both p q m k t = rw (sum_step A B, p, q, m, t)

  pub sum_parts : is_zero A ≡ false → is_zero B ≡ false → multiple A B ≡ false → (k : ℕ) → top2 A B ≡ some k
      → {s1 s2 : Set d} {L H : Tensor d}
      → sum (fix k false A) (fix k false B) s ≡ (L, s1) → sum (fix k true A) (fix k true B) s1 ≡ (H, s2)
      → sum A B s ≡ join k L H s2
  sum_parts p q m k t low high = rw (sum_both p q m k t) (both_done sum k A B (join k) low high)

  module _ (S : Bits) where
    pub cont_zero : (is_zero A || is_zero B) ≡ true → cont A B S s ≡ (constant d 0w, s)
    unfolding cont_body cont_cases return
    cont_zero z = rw (cont_step A B S, z)

    pub cont_constants : (is_zero A || is_zero B) ≡ false → top2 A B ≡ none
        → cont A B S s ≡ (scale (power2 (members d S)) (times A B), s)
    unfolding cont_body cont_cases return
    cont_constants z t = rw (cont_step A B S, z, t)

    pub cont_both : (is_zero A || is_zero B) ≡ false → (k : ℕ) → top2 A B ≡ some k
        → cont A B S ≡ both (λ X Y. cont X Y (without k S)) k A B (cond (S k) sum (join k))
    unfolding cont_body cont_cases
    cont_both z k t = rw (cont_step A B S, z, t)

    pub cont_sum : (is_zero A || is_zero B) ≡ false → (k : ℕ) → top2 A B ≡ some k → S k ≡ true
        → {s1 s2 : Set d} {L H : Tensor d}
        → cont (fix k false A) (fix k false B) (assign k false S) s ≡ (L, s1)
        → cont (fix k true A) (fix k true B) (assign k false S) s1 ≡ (H, s2)
        → cont A B S s ≡ sum L H s2
    cont_sum z k t e low high =
        rw (cont_both z k t, e) (both_done (λ X Y. cont X Y (assign k false S)) k A B sum low high)

    pub cont_join : (is_zero A || is_zero B) ≡ false → (k : ℕ) → top2 A B ≡ some k → S k ≡ false
        → {s1 s2 : Set d} {L H : Tensor d}
        → cont (fix k false A) (fix k false B) (assign k false S) s ≡ (L, s1)
        → cont (fix k true A) (fix k true B) (assign k false S) s1 ≡ (H, s2)
        → cont A B S s ≡ join k L H s2
    cont_join z k t e low high =
        rw (cont_both z k t, e) (both_done (λ X Y. cont X Y (assign k false S)) k A B (join k) low high)

module _ {d : ℕ} (T : Tensor d) (s : Set d) where
  pub build_constant : top T ≡ none → build T s ≡ (T, s)
  unfolding build_body build_cases return
  build_constant e = rw (build_step T, e)

  pub build_parts : (k : ℕ) → top T ≡ some k → {s1 s2 : Set d} {L H : Tensor d} → build (fix k false T) s ≡ (L, s1)
      → build (fix k true T) s1 ≡ (H, s2) → build T s ≡ join k L H s2
  unfolding build_body build_cases
  build_parts k e low high = rw (build_step T, e) (halves_done build k T (join k) low high)

module _ {d : ℕ} (k : ℕ) (A : Tensor d) (s : Set d) where
  pub low_constant : top A ≡ none → low k A s ≡ (A, s)
  unfolding low_body low_cases return
  low_constant e = rw (low_step k A, e)

  pub low_above : (t : ℕ) → top A ≡ some t → k < t → low k A s ≡ (A, s)
  unfolding low_body low_cases low_at return
  low_above t e p = rw (low_step k A, e, lt-ltb k t p)

  pub low_here : top A ≡ some k → low k A s ≡ join (k - 1) (fix k false A) (fix k true A) s
  unfolding low_body low_cases low_at
  low_here e = rw (low_step k A, e, le-ltb k k (omega arith), eq-eqb k k refl)

  low_both : (t : ℕ) → top A ≡ some t → t < k → low k A ≡ both (λ X Y. low k X) t A A (join t)
  unfolding low_body low_cases low_at halves both
  low_both t e p = rw (low_step k A, e, le-ltb k t (omega arith), ne_eqb t k (λ q. omega arith))

  pub low_parts : (t : ℕ) → top A ≡ some t → t < k → {s1 s2 : Set d} {L H : Tensor d}
      → low k (fix t false A) s ≡ (L, s1) → low k (fix t true A) s1 ≡ (H, s2) → low k A s ≡ join t L H s2
  low_parts t e p low' high = rw (low_both t e p) (both_done (λ X Y. low k X) t A A (join t) low' high)
