-- Recursion on a measure that falls; on the top, which rises, of one tensor and of two.
use Rattle.std.specs.Prelude.{◌≡◌, Bool, ℕ, zero, suc, ◌-◌}
use Rattle.std.proofs.Math.Option.{Option, none, some}
use Rattle.diagram.specs.Tensor.{Tensor, top, top2, fix}

module _ {Y X : Type 0} (measure : Y → ℕ) (stop : X) (body : (Y → X) → Y → X) where
  unfoldable pub descend_f : ℕ → Y → X
  descend_f zero y = stop
  descend_f (suc n) y = body (descend_f n) y

  -- the function that calls itself through body; `stop` is never reached where each call has a smaller measure
  -- (descend_step)
  unfoldable pub descend : Y → X
  descend y = descend_f (suc (measure y)) y

-- how many indices there are from the top on
unfoldable pub top_measure : ℕ → Option ℕ → ℕ
top_measure d none = 0
top_measure d (some k) = d - k

module _ {d : ℕ} {X : Type 0} (stop : X) where
  -- a function of a tensor that calls itself where the top is fixed
  unfoldable pub on_top : ((Tensor d → X) → Tensor d → X) → Tensor d → X
  on_top body A = descend (λ T. top_measure d (top T)) stop body A

  -- a function of two tensors that calls itself where the lower top is fixed
  unfoldable pub on_top2 : ((Tensor d → Tensor d → X) → Tensor d → Tensor d → X) → Tensor d → Tensor d → X
  on_top2 body A B =
      descend {Y = Tensor d × Tensor d} (λ p. top_measure d (top2 p.0 p.1)) stop
      (λ rec p. body (λ A B. rec (A, B)) p.0 p.1) (A, B)

-- a body that asks for the recursion at the parts of its tensors alone, of one tensor and of two
abbrev pub Local : {d : ℕ} {X : Type 0} → ((Tensor d → X) → Tensor d → X) → Type 0
Local {d} {X} body = (rec rec' : Tensor d → X) (A : Tensor d)
    → ((k : ℕ) (b : Bool) → top A ≡ some k → rec (fix k b A) ≡ rec' (fix k b A))
    → body rec A ≡ body rec' A

abbrev pub Local2 : {d : ℕ} {X : Type 0} → ((Tensor d → Tensor d → X) → Tensor d → Tensor d → X) → Type 0
Local2 {d} {X} body = (rec rec' : Tensor d → Tensor d → X) (A B : Tensor d)
    → ((k : ℕ) (b : Bool) → top2 A B ≡ some k → rec (fix k b A) (fix k b B) ≡ rec' (fix k b A) (fix k b B))
    → body rec A B ≡ body rec' A B
