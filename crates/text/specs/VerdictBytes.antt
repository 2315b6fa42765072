-- What the bytes that a verdict writes say: demand 2 and document 01's "Verdicts", to a reader of the output alone (its
-- theorems: VerdictBytesLaws).
use Rattle.std.specs.Prelude.{◌++◌, List, ◌≡◌, ◌⊎◌, ◌≢◌, ◌↔◌, ℕ, ◌+◌, ◌^◌, ◌≤◌, ◌<◌, take, length, drop}
use Rattle.std.proofs.Math.Option.{some}
use Rattle.diagram.specs.Tensor.{Tensor, indices}
use Rattle.diagram.specs.Node.{capacity}
use Rattle.text.specs.Text.{Bytes, bytes}
use Rattle.text.specs.Print.{decimal}
use Rattle.text.specs.Session.{Capacity, empty_tally, at_most}
use Rattle.text.specs.Check.{lists, read_text, fault}
use Rattle.text.specs.Ruling.{fault_number}
use Rattle.text.specs.VerdictSession.{list_tensor, session_calls, refused_at, perform}
use Rattle.text.specs.Product.{Operator, list_matrix}
use Rattle.text.specs.declared.check.Fault.{Fault}
use Rattle.diagram.specs.declared.gate.Gate.{Gate}
use Rattle.text.specs.declared.check.Fault.TheVariants.{Full}
use Rattle.text.specs.declared.ruling.VerdictResult.{VerdictResult}
use Rattle.text.specs.declared.call.Refusal.TheVariants as refusal

-- "An answer's fields are parted by one tab, and it ends in LF.": `same`; `factor` and f; `differ`; "`no`, number,
-- line counted from 1"
abbrev pub same_line : Bytes
same_line = bytes "same\n"

abbrev pub factor_line : ℕ → Bytes
factor_line f = bytes "factor\t" ++ (decimal f ++ bytes "\n")

abbrev pub differ_line : Bytes
differ_line = bytes "differ\n"

abbrev pub no_line : Fault → ℕ → Bytes
no_line f line = bytes "no\t" ++ (decimal (fault_number f) ++ (bytes "\t" ++ (decimal line ++ bytes "\n")))

abbrev pub OneOfFour : Bytes → Type 0
OneOfFour w =
    (w ≡ same_line)
    ⊎ (((f : ℕ) × (w ≡ factor_line f)) ⊎ ((w ≡ differ_line) ⊎ ((f : Fault) × (line : ℕ) × (w ≡ no_line f line))))

-- What a list stands for: its tensor, "the one its register ends with at unlimited capacity" ..
abbrev pub IsTensorOf : ℕ → List Gate → Tensor indices → Type 0
IsTensorOf n gs A = list_tensor indices n gs ≡ some A

-- .. or its matrix, the product of its gates' matrices
abbrev pub IsMatrixOf : ℕ → List Gate → Operator → Type 0
IsMatrixOf n gs M = M ≡ list_matrix n gs

-- The text is good, no call of its session is refused as full, and P holds of what its two lists stand for.
pub record ListsAre {X : Type 0} (Of : ℕ → List Gate → X → Type 0) (c : Capacity) (text : Bytes) (P : X → X → Type 0)
    : Type 0 where
  pub n : ℕ
  pub gs : List Gate
  pub hs : List Gate
  pub good : read_text text ≡ lists n gs hs
  pub not_full : (line : ℕ) → perform {d = indices} c (session_calls n gs hs) empty_tally ≢ refused_at line refusal.Full
  pub first : X
  pub second : X
  pub first_is : Of n gs first
  pub second_is : Of n hs second
  pub are : P first second

-- The text is good, and its session is refused at a line: "8 full, at the line being run, a unit at its header or `=`".
pub record FullAt (c : Capacity) (text : Bytes) (line : ℕ) : Type 0 where
  pub n : ℕ
  pub gs : List Gate
  pub hs : List Gate
  pub good : read_text text ≡ lists n gs hs
  pub full : perform {d = indices} c (session_calls n gs hs) empty_tally ≡ refused_at line refusal.Full

-- "All lines are read before any gate runs; the first faulty line decides.": the text's first fault is f at that line;
-- or it is good and full there
abbrev pub RefusedAt : Capacity → Bytes → Fault → ℕ → Type 0
RefusedAt c text f line = (read_text text ≡ fault f line) ⊎ ((f ≡ Full) × FullAt c text line)

-- the bytes written: the first of the output o', as many as the result says
abbrev pub bytes_of : VerdictResult → Bytes → Bytes
bytes_of r o' = take r.bytes o'

-- The verdict on a text over a store s, for an output of 32 bytes or more: o as it was lent, o' as it is left. Two
-- lists are compared by what they stand for: E A B says that A and B are equal, T f A B that A is f times B, f being a
-- weight and not 0.
pub record VerdictBytes {X : Type 0} (Of : ℕ → List Gate → X → Type 0) (E : X → X → Type 0) (T : ℕ → X → X → Type 0)
    (text s o o' : Bytes) (r : VerdictResult) : Type 0 where
  -- "otherwise the code is 0, also with `no`. The result is code and bytes written; later bytes are untouched"
  pub code : r.code ≡ 0
  pub within : r.bytes ≤ length o'
  pub untouched : drop r.bytes o' ≡ drop r.bytes o
  -- "A verdict is "same" exactly when both lists' tensors agree at every assignment over document 01's field,
  pub same : (bytes_of r o' ≡ same_line) ↔ ListsAre Of (at_most (capacity s)) text E
  -- "factor" exactly when they differ and one is a nonzero multiple of the other,
  pub factor : ((f : ℕ) × (bytes_of r o' ≡ factor_line f))
      ↔ ListsAre Of (at_most (capacity s)) text (λ A B. (¬ E A B) × ((f : ℕ) × (T f A B ⊎ T f B A)))
  -- else "differ"";
  pub differ : (bytes_of r o' ≡ differ_line)
      ↔ ListsAre Of (at_most (capacity s)) text (λ A B. (¬ E A B) × (¬ ((f : ℕ) × (T f A B ⊎ T f B A))))
  -- which f: "`factor` and f where a is f times b, f not 0 or 1"
  pub factor_of : (f : ℕ) → (bytes_of r o' ≡ factor_line f)
      ↔ ListsAre Of (at_most (capacity s)) text (λ A B. (¬ E A B) × (f ≢ 1) × T f A B)
  -- "full stores, malformed texts .. are refused by the stated rules": "Refused as `no`, number, line counted from 1".
  -- A text that is lent is shorter than 2 ^ 64 bytes, and the line is one of it or the next, so that 20 digits hold it.
  pub no : length text < 2 ^ 64 → (f : Fault) (line : ℕ) → line < 10 ^ 20
      → (bytes_of r o' ≡ no_line f line) ↔ RefusedAt (at_most (capacity s)) text f line
  pub no_line_lem : (f : Fault) (line : ℕ) → RefusedAt (at_most (capacity s)) text f line → line ≤ length text + 1
  -- and of a text of any length the fault, and a line with these digits
  pub no_digits : (f : Fault) (line : ℕ)
      → (bytes_of r o' ≡ no_line f line)
      ↔ ((l : ℕ) × (decimal l ≡ decimal line) × RefusedAt (at_most (capacity s)) text f
      l)
  -- and nothing else is ever written
  pub one_of_four : OneOfFour (bytes_of r o')

-- "Fewer than 32 output bytes returns 9 and writes nothing"
pub record VerdictShort (o o' : Bytes) (r : VerdictResult) : Type 0 where
  pub code : r.code ≡ 9
  pub bytes : r.bytes ≡ 0
  pub unchanged : o' ≡ o
