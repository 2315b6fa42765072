-- What a verdict says of the two lists of a good text: demand 2, sentence by sentence, and document 01
-- (its theorems: VerdictMeaningLaws).
use Rattle.std.specs.Prelude.{◌≢◌, ◌⊎◌, ◌↔◌, ◌≡◌, List, ℕ, ◌^◌, ◌<◌, Ok}
use Rattle.std.proofs.Math.Option.{some}
use Rattle.diagram.specs.Tensor.{indices, Tensor, value}
use Rattle.diagram.specs.Weights.{to_weight, times_w, modulus}
use Rattle.text.specs.Text.{Bytes}
use Rattle.text.specs.Session.{Capacity}
use Rattle.text.specs.Ruling.{Ruling, no_at}
use Rattle.text.specs.VerdictSession.{ruling_on, list_tensor}
use Rattle.text.specs.Agrees.{AgreeEverywhere}
use Rattle.text.specs.Product.{BasisState, Operator, list_matrix}
use Rattle.text.specs.declared.check.Fault.TheVariants.{Full}
use Rattle.diagram.specs.declared.compare.Comparison.TheVariants.{Same, Factor, Differ}
use Rattle.diagram.specs.declared.gate.Gate.{Gate}
use Rattle.text.specs.declared.check.Fault.{Fault}

-- the text is not refused as full: no call of its session is (verdict_refused in VerdictMeaningLaws)
abbrev pub NotFull : Capacity → Bytes → Type 0
NotFull c text = (line : ℕ) → ruling_on indices c text ≢ no_at Full line

-- A is f times B at every assignment, f being a weight ("the whole numbers 0 to 65536") and not 0
pub record IsTimes (f : ℕ) (A B : Tensor indices) : Type 0 where
  pub weight : f < modulus
  pub nonzero : f ≢ 0
  pub values : (v : ℕ) → v < 2 ^ indices → value A v ≡ times_w (to_weight f) (value B v)

-- "one is a nonzero multiple of the other". Of zero this is zero alone, and two zeros agree: so "Zero against nonzero
-- is `differ`."
abbrev pub Multiples : Tensor indices → Tensor indices → Type 0
Multiples A B = (f : ℕ) × (IsTimes f A B ⊎ IsTimes f B A)

-- the verdict on a text of the lists gs and hs on n qubits, where it is not refused as full
pub record VerdictMeans (c : Capacity) (text : Bytes) (n : ℕ) (gs hs : List Gate) : Type 0 where
  -- "A list's tensor is the one its register ends with at unlimited capacity."
  pub first : Tensor indices
  pub second : Tensor indices
  pub first_is : list_tensor indices n gs ≡ some first
  pub second_is : list_tensor indices n hs ≡ some second
  -- "A verdict is "same" exactly when both lists' tensors agree at every assignment over document 01's field,
  pub same : (ruling_on indices c text ≡ Ok Same) ↔ AgreeEverywhere first second
  -- "factor" exactly when they differ and one is a nonzero multiple of the other,
  pub factor : ((f : ℕ) × (ruling_on indices c text ≡ Ok (Factor f)))
      ↔ ((¬ AgreeEverywhere first second) × Multiples first second)
  -- else "differ""; and there is no other answer
  pub differ : (ruling_on indices c text ≡ Ok Differ) ↔ ((¬ AgreeEverywhere first second) × (¬ Multiples first second))
  pub no_other : (f : Fault) (line : ℕ) → ruling_on indices c text ≢ no_at f line
  -- which f: "`factor` and f where a is f times b, f not 0 or 1"
  pub factor_of : (f : ℕ)
      → (ruling_on indices c text ≡ Ok (Factor f))
      ↔ ((¬ AgreeEverywhere first second) × (f ≢ 1) × IsTimes f first second)

-- The same in terms of the lists' matrices.

-- they agree at every output and input state
abbrev pub EqualMatrices : Operator → Operator → Type 0
EqualMatrices M N = (o i : BasisState) → M o i ≡ N o i

-- M is f times N at every output and input state, f being a weight and not 0
pub record MatrixIsTimes (f : ℕ) (M N : Operator) : Type 0 where
  pub weight : f < modulus
  pub nonzero : f ≢ 0
  pub entries : (o i : BasisState) → M o i ≡ times_w (to_weight f) (N o i)

abbrev pub MatrixMultiples : Operator → Operator → Type 0
MatrixMultiples M N = (f : ℕ) × (MatrixIsTimes f M N ⊎ MatrixIsTimes f N M)

-- each of the above, with the product of a list's gates' matrices for its tensor
pub record VerdictMatrices (c : Capacity) (text : Bytes) (n : ℕ) (gs hs : List Gate) : Type 0 where
  pub same : (ruling_on indices c text ≡ Ok Same) ↔ EqualMatrices (list_matrix n gs) (list_matrix n hs)
  pub factor : ((f : ℕ) × (ruling_on indices c text ≡ Ok (Factor f)))
      ↔ ((¬ EqualMatrices (list_matrix n gs) (list_matrix n hs))
      × MatrixMultiples (list_matrix n gs) (list_matrix n hs))
  pub differ : (ruling_on indices c text ≡ Ok Differ)
      ↔ ((¬ EqualMatrices (list_matrix n gs) (list_matrix n hs))
      × (¬ MatrixMultiples (list_matrix n gs) (list_matrix n hs)))
  pub factor_of : (f : ℕ) → (ruling_on indices c text ≡ Ok (Factor f))
      ↔ ((¬ EqualMatrices (list_matrix n gs) (list_matrix n hs))
      × (f ≢ 1) × MatrixIsTimes f (list_matrix n gs) (list_matrix n hs))

-- What a ruling says, where E is that the two are equal, M f that the first is f times the second, and N f that the
-- second is f times the first.
pub record Meaning (r : Ruling) (E : Type 0) (M N : ℕ → Type 0) : Type 0 where
  pub same : (r ≡ Ok Same) ↔ E
  pub factor : ((f : ℕ) × (r ≡ Ok (Factor f))) ↔ ((¬ E) × ((f : ℕ) × (M f ⊎ N f)))
  pub differ : (r ≡ Ok Differ) ↔ ((¬ E) × (¬ ((f : ℕ) × (M f ⊎ N f))))
  pub no_other : (f : Fault) (line : ℕ) → r ≢ no_at f line
  pub factor_of : (f : ℕ) → (r ≡ Ok (Factor f)) ↔ ((¬ E) × (f ≢ 1) × M f)
