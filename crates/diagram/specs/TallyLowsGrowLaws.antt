-- More indices: lowering a set, and its test for 7, are the same with constant levels below.
use Rattle.std.specs.Prelude.{◌≡◌, refl, Bool, true, false, ℕ, ◌-◌, ltb}
use Rattle.std.proofs.Math.Path.{ap, fun_ext}
use Rattle.std.proofs.Common.{sym, ◌∙◌, true≢false, arith, ltb-true, ltb-false}
use Rattle.diagram.specs.Tensor.{Tensor, Bits, at}
use Rattle.diagram.specs.TestLaws.{cases}
use Rattle.diagram.specs.Tabulate.{tabulate}
use Rattle.diagram.specs.Grow.{deeper, grow, StepGrows, MembersBelow}
use Rattle.diagram.specs.GrowLaws.{deeper_more, grow_at, grow_depends, tabulate_grow}
use Rattle.diagram.specs.TallyGrowLaws.{build_grow}
use Rattle.diagram.specs.Rename.{AllFreeToGo}
use Rattle.diagram.specs.RenameLaws.{at_agree}
use Rattle.diagram.specs.Lows.{lower_in, lowered_set, lows, clash}
use Rattle.diagram.specs.TallyLowsLaws.{clash_exactly, lower_inside}

module _ {d : ℕ} (m : ℕ) (S : Bits) (T : Tensor d) where
  lowered_grow : lowered_set S (grow m T) ≡ grow m (lowered_set S T)
  unfolding lowered_set
  lowered_grow =
      ap (tabulate (deeper d m)) (fun_ext (λ f. grow_at m T (λ k. f (lower_in S k))))
      ∙ tabulate_grow m d (λ f. at T (λ k. f (lower_in S k)))
      (λ g h e. at_agree T _ _ (λ k p. e (lower_in S k) (lower_inside d S k p)))

  pub lows_grow : StepGrows m (lows S T) (lows S (grow m T))
  unfolding lows
  lows_grow = rw lowered_grow (build_grow m (lowered_set S T))

  -- S has indices below d alone
  module _ (b : MembersBelow d S) where
    free_to_go_grow : AllFreeToGo S T → AllFreeToGo S (grow m T)
    free_to_go_grow c = record {
      is = λ k p q r. cases (ltb k d)
          (λ x. c.is k (ltb-true k d x) q (sym (grow_depends m (k - 1) T) ∙ r))
          (λ x. absurd (true≢false (sym q ∙ b k (ltb-false k d x))));
    }

    grow_free_to_go : AllFreeToGo S (grow m T) → AllFreeToGo S T
    grow_free_to_go c =
        record { is = λ k p q r. c.is k (omega (arith, deeper_more m d)) q (grow_depends m (k - 1) T ∙ r) }

    pub clash_grow : clash S (grow m T) ≡ clash S T
    clash_grow = go (clash S (grow m T)) refl (clash S T) refl
      where
        go : (x : Bool) → clash S (grow m T) ≡ x → (y : Bool) → clash S T ≡ y → x ≡ y
        go true p true q = refl
        go true p false q =
            sym p ∙ (clash_exactly S (grow m T)).1 (free_to_go_grow ((clash_exactly S T).0 q))
        go false p true q =
            sym (sym q ∙ (clash_exactly S T).1 (grow_free_to_go ((clash_exactly S (grow m T)).0 p)))
        go false p false q = refl
