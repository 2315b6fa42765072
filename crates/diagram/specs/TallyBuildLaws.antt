-- Laws of the tally's build: one step, what it puts in, meaning, scaling.
use Rattle.std.specs.Prelude.{◌≡◌, refl, Bool, true, false, ℕ}
use Rattle.std.proofs.Common.{ap, ap₂}
use Rattle.std.proofs.Math.Option.{Option, none, some}
use Rattle.field.specs.Weight.{Weight, 0w, Nonzero}
use Rattle.diagram.specs.Tensor.{Tensor, constant, top, fix, scale}
use Rattle.diagram.specs.TensorLaws.{joined_fix, fix_scale}
use Rattle.diagram.specs.TensorScaleLaws.{top_scale}
use Rattle.diagram.specs.TopLaws.{free_below_fix, top_is, top_inside, on_top_step, induction}
use Rattle.diagram.specs.Tally.{Set, Unary, Binary, return, ◌>>=◌, join, halves, build_cases, build_body, build}
use Rattle.diagram.specs.TallyStepLaws.{writes_return, writes_as, writes_bind, writes_join, writes_answer}
use Rattle.diagram.specs.TallyStepLaws.{scaled_return, scaled_bind, scaled_join}
use Rattle.diagram.specs.TallyStep.{Writes, ScaledStep}

pub halves_local : {d : ℕ} (rec rec' : Unary d) (k : ℕ) (A : Tensor d) (final : Binary d)
    → rec (fix k false A) ≡ rec' (fix k false A) → rec (fix k true A) ≡ rec' (fix k true A)
    → halves rec k A final ≡ halves rec' k A final
unfolding halves
halves_local rec rec' k A final p q = ap₂ (λ f g. f >>= (λ L. g >>= (λ H. final L H))) p q

pub writes_halves : {d : ℕ} {L H T : Tensor d} (rec : Unary d) (k : ℕ) (A : Tensor d) (final : Binary d)
    → Writes L (rec (fix k false A)) → Writes H (rec (fix k true A)) → Writes T (final L H)
    → Writes T (halves rec k A final)
unfolding halves
writes_halves {L = L} rec k A final p q r =
    writes_bind (λ L. rec (fix k true A) >>= final L) p (writes_bind (final L) q r)

-- build

build_cases_local : {d : ℕ} (o : Option ℕ) (rec rec' : Unary d) (T : Tensor d)
    → ((k : ℕ) (b : Bool) → o ≡ some k → rec (fix k b T) ≡ rec' (fix k b T))
    → build_cases o rec T ≡ build_cases o rec' T
unfolding build_cases
build_cases_local none rec rec' T h = refl
build_cases_local (some k) rec rec' T h = halves_local rec rec' k T (join k) (h k false refl) (h k true refl)

pub build_step : {d : ℕ} (T : Tensor d) → build T ≡ build_body build T
unfolding build build_body
build_step {d} T =
    on_top_step (return (constant d 0w)) build_body (λ rec rec' A h. build_cases_local (top A) rec rec' A h) T

build_cases_writes : {d : ℕ} (o : Option ℕ) (T : Tensor d) → top T ≡ o
    → ((k : ℕ) (b : Bool) → o ≡ some k → Writes (fix k b T) (build (fix k b T)))
    → Writes T (build_cases o build T)
unfolding build_cases
build_cases_writes none T e h = writes_return T
build_cases_writes (some k) T e h = writes_halves build k T (join k) (h k false refl) (h k true refl)
    (writes_as (joined_fix k T) (writes_join k _ _ (top_inside k T e) (free_below_fix k false T (top_is k T e))
    (free_below_fix k true T (top_is k T e))))

-- build answers the tensor itself
pub build_writes : {d : ℕ} (T : Tensor d) → Writes T (build T)
unfolding build_body
build_writes = induction (λ T. Writes T (build T)) (λ T h. rw (build_step T) (build_cases_writes (top T) T refl h))

pub build_meaning : {d : ℕ} (T : Tensor d) (s : Set d) → (build T s).0 ≡ T
build_meaning T s = writes_answer (build_writes T) s

pub build_is : {d : ℕ} (T : Tensor d) (s : Set d) → build T s ≡ (T, (build T s).1)
build_is T s = ap (λ X. (X, (build T s).1)) (build_meaning T s)

-- scaling: a multiple is built from the same nodes

scaled_halves : {d : ℕ} {c : Weight} (rec rec' : Unary d) (k : ℕ) (A : Tensor d) (final final' : Binary d)
    → ((x : Bool) → ScaledStep c (rec (fix k x A)) (rec' (scale c (fix k x A))))
    → ((L H : Tensor d) → ScaledStep c (final L H) (final' (scale c L) (scale c H)))
    → ScaledStep c (halves rec k A final) (halves rec' k (scale c A) final')
unfolding halves
scaled_halves rec rec' k A final final' p q =
    simp fix_scale (scaled_bind _ _ (p false) (λ L. scaled_bind _ _ (p true) (λ H. q L H)))

build_cases_scaled : {d : ℕ} (c : Weight) → Nonzero c → (o : Option ℕ) (T : Tensor d)
    → ((k : ℕ) (b : Bool) → o ≡ some k → ScaledStep c (build (fix k b T)) (build (scale c (fix k b T))))
    → ScaledStep c (build_cases o build T) (build_cases o build (scale c T))
unfolding build_cases
build_cases_scaled c n none T h = scaled_return c T
build_cases_scaled c n (some k) T h =
    scaled_halves build build k T (join k) (join k) (λ b. h k b refl) (λ L H. scaled_join c k L H n)

pub build_scaled : {d : ℕ} (c : Weight) → Nonzero c → (T : Tensor d) → ScaledStep c (build T) (build (scale c T))
unfolding build_body
build_scaled c n = induction (λ T. ScaledStep c (build T) (build (scale c T)))
    (λ T h. rw (build_step T, build_step (scale c T), top_scale c T n) (build_cases_scaled c n (top T) T h))
