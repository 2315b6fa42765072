-- The sentences of VerdictMeaning hold of every good text.
use Rattle.std.specs.Prelude.{◌≡◌, refl, ◌≢◌, ◌⊎◌, ◌↔◌, List, ℕ, ◌<◌, ◌*◌, ◌≤◌, Ok, Err}
use Rattle.std.proofs.Common.{ap, sym, ◌∙◌, subst, inl, inr, arith}
use Rattle.std.proofs.Math.Logic.Iff as Iff
use Rattle.diagram.specs.Weights.{modulus, Weight, to_weight}
use Rattle.diagram.specs.WeightsLaws.{weight_number, weight_zero}
use Rattle.diagram.specs.Weights.{Nonzero}
use Rattle.diagram.specs.WeightsLaws.{nonzero_weight, nonzero_not}
use Rattle.diagram.specs.Weights.{inverse_w}
use Rattle.diagram.specs.WeightsLaws.{inverse_nonzero, weight_one, number_weight}
use Rattle.diagram.specs.Tensor.{Tensor, scale, indices, indices_count}
use Rattle.diagram.specs.TensorScaleLaws.{unscale}
use Rattle.diagram.specs.TensorLaws.{scale_one}
use Rattle.diagram.specs.Compare.{compared, ComparisonMeans}
use Rattle.diagram.specs.CompareLaws.{compared_same, compared_factor, compared_differ, compared_means}
use Rattle.diagram.specs.TallyValueLaws.{agree_exactly, scale_value}
use Rattle.diagram.specs.Gate.{unit_tensor}
use Rattle.text.specs.Text.{Bytes}
use Rattle.text.specs.Session.{Capacity, empty_tally}
use Rattle.text.specs.Check.{lists, read_text, AllPlaced, GoodLists}
use Rattle.text.specs.Qubits.{AllFit}
use Rattle.text.specs.Ruling.{Ruling, no_at}
use Rattle.text.specs.VerdictSession.{PerformResult, refused_at, ruling_at_end, session_calls}
use Rattle.text.specs.VerdictSession.{perform, ruling_of_reading, ruling_on}
use Rattle.text.specs.Product.{list_matrix}
use Rattle.text.specs.VerdictMeaning.{Meaning, IsTimes, NotFull, VerdictMeans, MatrixIsTimes, VerdictMatrices}
use Rattle.text.specs.Apply.{applied_list}
use Rattle.text.specs.Runs.{RegisterList, AllCallsRun, full, end, GoodTextRuling, was_full, was_compared}
use Rattle.text.specs.QubitsLaws.{placed_fit}
use Rattle.text.specs.RulingLaws.{no_at_same}
use Rattle.text.specs.VerdictSessionLaws.{session_runs, list_tensor_lem, good_lists, ruling_judged}
use Rattle.text.specs.ProductLaws.{lists_same, lists_multiple}
use Rattle.diagram.specs.declared.compare.Comparison.TheVariants.{Same, Factor, Differ}
use Rattle.diagram.specs.declared.compare.Comparison.{Comparison}
use Rattle.text.specs.declared.check.Fault.{Fault}
use Rattle.diagram.specs.declared.gate.Gate.{Gate}
use Rattle.text.specs.declared.call.Refusal.TheVariants as refusal
use Rattle.text.specs.declared.check.Fault.TheVariants as faults

-- A is f times B, f a weight other than 0

record Scaled {d : ℕ} (f : ℕ) (A B : Tensor d) : Type 0 where
  weight : f < modulus
  nonzero : f ≢ 0
  is : A ≡ scale (to_weight f) B

scaled_nonzero : {d f : ℕ} {A B : Tensor d} → Scaled f A B → Nonzero (to_weight f)
scaled_nonzero {f = f} s = nonzero_weight f s.weight s.nonzero

scaled_weight : {d : ℕ} (f : Weight) (A B : Tensor d) → Nonzero f → A ≡ scale f B → Scaled f.number A B
scaled_weight f A B z e = record {
  weight = f.small;
  nonzero = λ q. nonzero_not z (sym (weight_number f) ∙ ap to_weight q ∙ weight_zero);
  is = rw (weight_number f) e;
}

-- B is a multiple of A too
scaled_back : {d f : ℕ} {A B : Tensor d} → Scaled f A B → Scaled (inverse_w (to_weight f)).number B A
scaled_back {f = f} {A} {B} s =
    let z = scaled_nonzero s in
    scaled_weight (inverse_w (to_weight f)) B A (inverse_nonzero z) (sym (ap (scale (inverse_w (to_weight f))) s.is
    ∙ unscale B z))

scaled_one : {d f : ℕ} {A B : Tensor d} → A ≢ B → Scaled f A B → f ≢ 1
scaled_one {A = A} {B} n s q = n (s.is ∙ ap (λ w. scale w B) (ap to_weight q ∙ weight_one) ∙ scale_one B)

-- What a ruling says: E that the two are equal, M f that the first is f times the second, N f that the second is f
-- times the first

abbrev RulingMeans : Type 0 → (ℕ → Type 0) → (ℕ → Type 0) → Ruling → Type 0
RulingMeans E M N (Ok Same) = E
RulingMeans E M N (Ok (Factor f)) = (¬ E) × (f ≢ 1) × M f
RulingMeans E M N (Ok Differ) = (¬ E) × (¬ ((f : ℕ) × (M f ⊎ N f)))
RulingMeans E M N (Err at) = ⊥

abbrev TensorsMean : {d : ℕ} → Tensor d → Tensor d → Ruling → Type 0
TensorsMean A B r = Meaning r (A ≡ B) (λ f. Scaled f A B) (λ f. Scaled f B A)

-- comparing two tensors
module _ {d : ℕ} (A B : Tensor d) where
  abbrev compared_ruling : Ruling
  compared_ruling = Ok (compared A B)

  ruling_means : (x : Comparison) → ComparisonMeans A B x
      → RulingMeans (A ≡ B) (λ f. Scaled f A B) (λ f. Scaled f B A) (Ok x)
  ruling_means Same e = e
  ruling_means (Factor f) m =
      let s : Scaled f A B = record {
        weight = m.small;
        nonzero = λ q. nonzero_not m.nonzero (ap to_weight q ∙ weight_zero);
        is = m.is;
      } in
      (m.differ, scaled_one m.differ s, s)
  ruling_means Differ p = (p.differ, apart)
    where
      alone : (f : ℕ) → ¬ Scaled f A B
      alone f s = p.multiple (to_weight f) (scaled_nonzero s) s.is

      apart : ¬ ((f : ℕ) × (Scaled f A B ⊎ Scaled f B A))
      apart (f, inl s) = alone f s
      apart (f, inr s) = alone _ (scaled_back s)

  is_factor : (f : ℕ) → A ≢ B → Scaled f A B → compared_ruling ≡ Ok (Factor f)
  is_factor f n s =
      ap Ok (compared_factor A B (to_weight f) n (scaled_nonzero s) s.is)
      ∙ ap (λ n. Ok (Factor n)) (number_weight f s.weight)

  tells_compared : TensorsMean A B compared_ruling
  tells_compared = record {
    same = (tensors_mean (Ok Same), λ e. ap Ok (compared_same A B e));
    factor = (
      λ p. let s = tensors_mean (Ok (Factor p.0)) p.1 in (s.0, (p.0, inl s.2)),
      λ p. some_factor p.0 p.1,
    );
    differ = (
      tensors_mean (Ok Differ),
      λ p. ap Ok (compared_differ A B (record
          { differ = p.0; multiple = λ f z e. p.1 (f.number, inl (scaled_weight f A B z e)) })),
    );
    no_other = λ f line. tensors_mean (no_at f line);
    factor_of = λ f. (tensors_mean (Ok (Factor f)), λ p. is_factor f p.0 p.2);
  }
    where
      tensors_mean : (r : Ruling) → compared_ruling ≡ r → RulingMeans (A ≡ B) (λ f. Scaled f A B)
          (λ f. Scaled f B A) r
      tensors_mean r e =
          subst (RulingMeans (A ≡ B) (λ f. Scaled f A B) (λ f. Scaled f B A)) e
          (ruling_means (compared A B) (compared_means A B))

      some_factor : A ≢ B → (f : ℕ) × (Scaled f A B ⊎ Scaled f B A)
          → (f : ℕ) × (compared_ruling ≡ Ok (Factor f))
      some_factor n (f, inl s) = (f, is_factor f n s)
      some_factor n (f, inr s) = (_, is_factor _ n (scaled_back s))

-- the same in other words

either : {M M' N N' : ℕ → Type 0} → ((f : ℕ) → M f → M' f) → ((f : ℕ) → N f → N' f) → (f : ℕ) × (M f ⊎ N f)
    → (f : ℕ) × (M' f ⊎ N' f)
either m n (f, inl x) = (f, inl (m f x))
either m n (f, inr x) = (f, inr (n f x))

meaning_carry : {r : Ruling} {E E' : Type 0} {M M' N N' : ℕ → Type 0} → E ↔ E' → ((f : ℕ) → M f ↔ M' f)
    → ((f : ℕ) → N f ↔ N' f)
    → Meaning r E M N → Meaning r E' M' N'
meaning_carry {M = M} {M'} {N} {N'} e m n t =
    let not_equal = Iff.not e in
    let one : ((f : ℕ) × (M f ⊎ N f)) ↔ ((f : ℕ) × (M' f ⊎ N' f)) =
    (either (λ f. (m f).0) (λ f. (n f).0), either (λ f. (m f).1) (λ f. (n f).1)) in
    record {
      same = Iff.trans t.same e;
      factor = Iff.trans t.factor (Iff.and not_equal one);
      differ = Iff.trans t.differ (Iff.and not_equal (Iff.not one));
      no_other = t.no_other;
      factor_of = λ f.
          Iff.trans (t.factor_of f) (
            λ p. (not_equal.0 p.0, p.1, (m f).0 p.2),
            λ p. (not_equal.1 p.0, p.1, (m f).1 p.2),
          );
    }

-- at every assignment
scaled_values : (A B : Tensor indices) (f : ℕ) → Scaled f A B ↔ IsTimes f A B
scaled_values A B f = (
  λ s. record {
    weight = s.weight;
    nonzero = s.nonzero;
    values = λ v p. (agree_exactly A _).0 s.is v p ∙ scale_value (to_weight f) B v;
  },
  λ s. record {
    weight = s.weight;
    nonzero = s.nonzero;
    is = (agree_exactly A _).1 (λ v p. s.values v p ∙ sym (scale_value (to_weight f) B v));
  },
)

-- what is refused in a verdict's session is refused as full, and the ruling says so

ruling_full : {d : ℕ} (c : Capacity) {P : RegisterList d → Type 0} {x : PerformResult d} → AllCallsRun c P x
    → (f : Fault) (line : ℕ)
    → (ruling_at_end c x ≡ no_at f line) ↔ ((f ≡ faults.Full) × (x ≡ refused_at line refusal.Full))
unfolding ruling_at_end
ruling_full c (full {line = l} h) f line = (
  λ e. let same = no_at_same e in (sym same.0, rw same.1),
  λ p. rw p.0 (let z : l ≡ line = cc in rw z),
)
ruling_full c (end {t = t} h) f line = (
  λ e. absurd (let z : ◌≡◌ {A = ℕ} 0 1 = cc in omega arith),
  λ p. absurd (let q = p.1 in let z : ◌≡◌ {A = ℕ} 0 1 = cc in omega arith),
)

-- For every text of two lists, and every capacity at which it is not refused as full

module _ (c : Capacity) (text : Bytes) {n : ℕ} {gs hs : List Gate} (e : read_text text ≡ lists n gs hs) where
  good : GoodLists n gs hs
  good = good_lists text e

  fit : (l : List Gate) → AllPlaced n l → AllFit indices l
  fit l p = rw indices_count (placed_fit n l good.within_most_qubits p)

  abbrev list_tensor_of : List Gate → Tensor indices
  list_tensor_of l = applied_list l (unit_tensor indices n)

  -- a good text is refused exactly where a call of its session is refused as full, at that call's line
  pub verdict_refused : (f : Fault) (line : ℕ)
      → (ruling_on indices c text ≡ no_at f line)
      ↔ ((f ≡ faults.Full)
      × (perform {d = indices} c (session_calls n gs hs) empty_tally ≡ refused_at line refusal.Full))
  unfolding ruling_on ruling_of_reading
  verdict_refused f line =
      rw e (ruling_full c (session_runs c n gs hs (fit gs good.first) (fit hs good.second)) f line)

  tells_verdict : NotFull c text → TensorsMean (list_tensor_of gs) (list_tensor_of hs) (ruling_on indices c text)
  tells_verdict h = go (ruling_judged c text e) h
    where
      go : {r : Ruling} → GoodTextRuling c (list_tensor_of gs) (list_tensor_of hs) r
          → ((line : ℕ) → r ≢ no_at faults.Full line)
          → TensorsMean (list_tensor_of gs) (list_tensor_of hs) r
      go (was_full line l) h = absurd (h line refl)
      go was_compared h = tells_compared (list_tensor_of gs) (list_tensor_of hs)

  -- the ruling is "same", "factor" or "differ" exactly where the lists' tensors are equal, multiples, or neither
  pub verdict_means : NotFull c text → VerdictMeans c text n gs hs
  verdict_means h =
      let t = meaning_carry (agree_exactly (list_tensor_of gs) (list_tensor_of hs))
      (scaled_values (list_tensor_of gs) (list_tensor_of hs)) (scaled_values (list_tensor_of hs) (list_tensor_of gs))
      (tells_verdict h) in
      record {
        first = list_tensor_of gs;
        second = list_tensor_of hs;
        first_is = list_tensor_lem indices n gs (fit gs good.first);
        second_is = list_tensor_lem indices n hs (fit hs good.second);
        same = t.same;
        factor = t.factor;
        differ = t.differ;
        no_other = t.no_other;
        factor_of = t.factor_of;
      }

  -- and exactly where the products of the gates' matrices do
  pub verdict_matrices : NotFull c text → VerdictMatrices c text n gs hs
  verdict_matrices h =
      let t = meaning_carry (lists_same indices n gs hs good.first good.second room)
      (scaled_matrices gs hs good.first good.second)
      (scaled_matrices hs gs good.second good.first) (tells_verdict h) in
      record { same = t.same; factor = t.factor; differ = t.differ; factor_of = t.factor_of }
    where
      room : 3 * n ≤ indices
      room = rw indices_count (omega (arith, good.within_most_qubits))

      scaled_matrices : (k l : List Gate) → AllPlaced n k → AllPlaced n l → (f : ℕ)
          → Scaled f (list_tensor_of k) (list_tensor_of l) ↔ MatrixIsTimes f (list_matrix n k) (list_matrix n l)
      scaled_matrices k l p q f = (
        λ s. record {
          weight = s.weight;
          nonzero = s.nonzero;
          entries = (lists_multiple indices n k l p q room (to_weight f)).0 s.is;
        },
        λ s. record {
          weight = s.weight;
          nonzero = s.nonzero;
          is = (lists_multiple indices n k l p q room (to_weight f)).1 s.entries;
        },
      )
