-- What the tally's steps answer, in document 01's words: at each assignment v, written as a number.
use Rattle.std.specs.Prelude.{◌≡◌, ◌↔◌, Bool, ℕ, ◌-◌, ◌^◌, ◌≤◌, ◌<◌}
use Rattle.std.proofs.Math.Path.{ap, ap₂, fun_ext}
use Rattle.std.proofs.Common.{sym, ◌∙◌, arith}
use Rattle.std.proofs.Math.Bool.{true, false}
use Rattle.field.specs.Weight.{Weight, plus_w, times_w}
use Rattle.diagram.specs.Tensor.{Tensor, branch, Bits, bits, at, value, fix, joined, times, scale, assign}
use Rattle.diagram.specs.Tensor.{rename_down}
use Rattle.diagram.specs.TensorLaws.{eq_value, at_scale, at_joined, fix_fix, fix_again, fix_joined_other}
use Rattle.diagram.specs.TensorRingLaws.{at_plus, at_times, fix_times}
use Rattle.diagram.specs.Top.{Free}
use Rattle.diagram.specs.Tally.{Set, join, sum, cont, low, build}
use Rattle.diagram.specs.TallyStepLaws.{join_meaning}
use Rattle.diagram.specs.TallySumLaws.{sum_meaning}
use Rattle.diagram.specs.SumOverLaws.{at_sum_over, fix_over_in, fix_over_out}
use Rattle.diagram.specs.SumOver.{sum_over, settings}
use Rattle.diagram.specs.TallyContLaws.{cont_meaning}
use Rattle.diagram.specs.TallyLowLaws.{rename_down_at, low_meaning}
use Rattle.diagram.specs.TallyBuildLaws.{build_meaning}

-- two tensors are equal exactly when they have the same value at every assignment
pub agree_exactly : {d : ℕ} (A B : Tensor d) → (A ≡ B) ↔ ((v : ℕ) → v < 2 ^ d → value A v ≡ value B v)
agree_exactly A B = (λ e v p. ap (λ T. value T v) e, eq_value A B)

pub scale_value : {d : ℕ} (c : Weight) (T : Tensor d) (v : ℕ) → value (scale c T) v ≡ times_w c (value T v)
unfolding value
scale_value c T v = at_scale c T (bits v)

module _ {d : ℕ} (s : Set d) where
  -- "the tensor that is L at k=0 and H at k=1"
  pub join_value : (k : ℕ) (L H : Tensor d) (v : ℕ) → k < d
      → value (join k L H s).0 v ≡ branch (bits v k) (value L v) (value H v)
  unfolding value
  join_value k L H v p = rw (join_meaning k L H s) (at_joined k L H (bits v) p)

  -- "At each assignment sum adds the two values"
  pub sum_value : (A B : Tensor d) (v : ℕ) → value (sum A B s).0 v ≡ plus_w (value A v) (value B v)
  unfolding value
  sum_value A B v = rw (sum_meaning A B s) (at_plus A B (bits v))

  -- "and cont adds their products over all settings of S"
  pub cont_value : (A B : Tensor d) (S : Bits) (v : ℕ)
      → value (cont A B S s).0 v ≡ settings d S (λ f. times_w (at A f) (at B f)) (bits v)
  unfolding value
  cont_value A B S v =
      rw (cont_meaning A B S s) (at_sum_over S _ (bits v) ∙ ap (λ g. settings d S g (bits v)) (fun_ext (at_times A B)))

  -- "index k is renamed k-1", where A does not depend on k - 1: index k takes the value of k - 1
  pub low_value : (k : ℕ) (A : Tensor d) (v : ℕ) → 1 ≤ k → k < d → Free (k - 1) A
      → value (low k A s).0 v ≡ at A (assign k (bits v (k - 1)) (bits v))
  unfolding value
  low_value k A v n p f = rw (low_meaning k A n p f s) (rename_down_at k A (bits v) (omega arith))

  pub build_value : (T : Tensor d) (v : ℕ) → value (build T s).0 v ≡ value T v
  build_value T v = rw (build_meaning T s)

-- which indices an answer does not depend on

module _ {d : ℕ} (s : Set d) where
  -- what is contracted over S does not depend on S
  pub cont_free : (k : ℕ) (A B : Tensor d) (S : Bits) → k < d → S k ≡ true → Free k (cont A B S s).0
  cont_free k A B S p e =
      rw (cont_meaning A B S s) (record { is = fix_over_in k false S _ p e ∙ sym (fix_over_in k true S _ p e) })

  pub cont_free_other : (k : ℕ) (A B : Tensor d) (S : Bits) → S k ≡ false → Free k A → Free k B
      → Free k (cont A B S s).0
  cont_free_other k A B S e f g =
      rw (cont_meaning A B S s)
      (record { is = fix_over_out k false S _ e ∙ ap (sum_over S) product ∙ sym (fix_over_out k true S _ e) })
    where
      product : fix k false (times A B) ≡ fix k true (times A B)
      product = fix_times k false A B ∙ ap₂ times f.is g.is ∙ sym (fix_times k true A B)

  module _ (k : ℕ) (A : Tensor d) (n : 1 ≤ k) (p : k < d) (f : Free (k - 1) A) where
    -- after index k is renamed, nothing depends on it
    pub low_free : Free k (low k A s).0
    low_free = rw (low_meaning k A n p f s) (record { is = at_k false ∙ sym (at_k true) })
      where
        at_k : (b : Bool) → fix k b (rename_down k A) ≡ rename_down k A
        at_k b = unfold rename_down in fix_joined_other k (k - 1) b _ _ (λ e. omega arith)
            ∙ ap₂ (joined (k - 1)) (fix_again k b false A) (fix_again k b true A)

    -- and the other indices are left alone
    pub low_free_other : (j : ℕ) → (j ≡ k → ⊥) → (j ≡ k - 1 → ⊥) → Free j A → Free j (low k A s).0
    low_free_other j ne ne' g =
        rw (low_meaning k A n p f s) (record { is = at_j false ∙ ap (rename_down k) g.is ∙ sym (at_j true) })
      where
        at_j : (b : Bool) → fix j b (rename_down k A) ≡ rename_down k (fix j b A)
        at_j b = unfold rename_down in fix_joined_other j (k - 1) b _ _ ne'
            ∙ ap₂ (joined (k - 1)) (fix_fix j k b false A ne) (fix_fix j k b true A ne)
