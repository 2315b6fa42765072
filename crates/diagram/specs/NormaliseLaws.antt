-- Laws of the normal form of a node.
use Rattle.std.specs.Prelude.{◌≡◌, refl, ◌≢◌, ℕ}
use Rattle.std.proofs.Common.{sym, ◌∙◌, inl, inr, arith}
use Rattle.field.specs.Weight.{to_weight, 0w, 1w, times_w, inverse_w}
use Rattle.field.specs.Field.{Represents}
use Rattle.field.specs.RingLaws.{times_w_zero, times_w_comm, times_w_assoc, times_w_one, nonzero_weight, weight_zero}
use Rattle.field.specs.RingLaws.{weight_one}
use Rattle.field.specs.InverseLaws.{inverse}
use Rattle.diagram.specs.Normalise.{NormaliseEnsures, NormaliseRequires}
use Rattle.diagram.specs.declared.node.Edge.{Edge}

times_one : (w : ℕ) → times_w (to_weight w) (to_weight 1) ≡ to_weight w
times_one w = rw weight_one (times_w_comm _ 1w ∙ times_w_one _)

pub weight_times_zero : (w : ℕ) → times_w (to_weight w) (to_weight 0) ≡ to_weight 0
weight_times_zero w = rw weight_zero (times_w_comm _ 0w ∙ times_w_zero _)

module _ {k : ℕ} {l h : Edge} {mask : ℕ} (n : NormaliseRequires k l h mask) where
  -- the low weight is 0: the high weight is taken out
  pub normalise_high : l.weight ≡ 0
      → NormaliseEnsures k l h mask h.weight (record {
        index = k;
        low = record { weight = 0; node = l.node };
        high = record { weight = 1; node = h.node };
        mask = mask;
      })
  normalise_high z =
      record {
        fits = omega arith;
        index = refl;
        low_node = refl;
        high_node = refl;
        same_mask = refl;
        nonzero = n.either z;
        small = n.high_small;
        low_small = omega arith;
        high_small = omega arith;
        low_weight = rw z (weight_times_zero h.weight);
        high_weight = times_one h.weight;
        leading = inr (refl, refl);
      }

  -- otherwise the low weight is
  pub normalise_low : {i r : ℕ} → l.weight ≢ 0 → Represents i (inverse_w (to_weight l.weight))
      → Represents r (times_w (to_weight i) (to_weight h.weight))
      → NormaliseEnsures k l h mask l.weight (record {
        index = k;
        low = record { weight = 1; node = l.node };
        high = record { weight = r; node = h.node };
        mask = mask;
      })
  normalise_low z p q =
      record {
        fits = omega (arith, q.small);
        index = refl;
        low_node = refl;
        high_node = refl;
        same_mask = refl;
        nonzero = z;
        small = n.low_small;
        low_small = omega arith;
        high_small = q.small;
        low_weight = times_one l.weight;
        high_weight = rw (q.is, p.is) (sym (times_w_assoc _ _ _)
            ∙ rw (
              times_w_comm (to_weight l.weight) (inverse_w (to_weight l.weight)),
              inverse
                  (nonzero_weight l.weight n.low_small z),
            ) (times_w_one _));
        leading = inl refl;
      }
