-- What gates, `unit`, sum, contraction and lowering answer, in the documents' words: at each
-- assignment v, as a number.
use Rattle.std.proofs.lemmas.Bool.{false≢true}
use Rattle.std.specs.Prelude.{◌≡◌, refl, ◌↔◌, cond, List, ℕ, ◌-◌, ◌^◌, ◌<◌, length, Result, Ok, Err, IsErr}
use Rattle.std.proofs.Common.{ap, sym, ◌∙◌, arith}
use Rattle.field.specs.Weight.{plus_w, times_w}
use Rattle.diagram.specs.Tensor.{bits, at, value, assign, indices, indices_count}
use Rattle.diagram.specs.Tally.{Step, sum, cont, low, build}
use Rattle.diagram.specs.SumOver.{settings}
use Rattle.diagram.specs.TallyValueLaws.{sum_value, cont_value, low_value, build_value}
use Rattle.diagram.specs.Lows.{lows}
use Rattle.diagram.specs.TallyLowsLaws.{lows_value}
use Rattle.diagram.specs.Gate.{entry, gate_tensor, unit_entry, unit_tensor}
use Rattle.diagram.specs.GateLaws.{gate_value, unit_value}
use Rattle.diagram.specs.Node.{capacity}
use Rattle.diagram.specs.Meaning.{Valid}
use Rattle.diagram.specs.Store.{set_of, tensor_of, RefinesEdge, Refines}
use Rattle.diagram.specs.StoreLaws.{refines_fits, tensor_kept}
use Rattle.diagram.specs.Operation.{RefinesCached}
use Rattle.diagram.specs.Lower.{LowerRequires}
use Rattle.diagram.specs.declared.gate.Gate.{Gate}
use Rattle.diagram.specs.declared.node.Edge.{Edge}
use Rattle.diagram.specs.declared.make.State.{State}
use Rattle.diagram.specs.declared.diagram.Full.{Full}

-- an answer's tensor and set are those of the step
module _ {s s' : List ℕ} {st t : State} {e : Edge} {f : Step indices} (d : RefinesEdge s s' st t f e) where
  pub answer_tensor : tensor_of s' t e ≡ (f (set_of s st)).0
  answer_tensor = ap (λ r. r.0) (sym d.is)

  -- "The tensors of the nodes from 1 up are exactly those in the tally's set."
  pub answer_set : set_of s' t ≡ (f (set_of s st)).1
  answer_set = ap (λ r. r.1) (sym d.is)

  -- what an edge led to before, it leads to still
  pub answer_kept : {x : Edge} → Valid st.count x → tensor_of s' t x ≡ tensor_of s st x
  answer_kept v = tensor_kept s s' st t d.grown v

module _ {s s' : List ℕ} {st t : State} {e : Edge} where
  -- "Each gate is 2 by 2 numbers, rows output (fresh), columns input (middle)"; of two qubits: the rule of CX, CZ or SW
  pub gate_answer : (g : Gate) → RefinesEdge s s' st t (build (gate_tensor indices g)) e → (v : ℕ) → v < 2 ^ indices
      → value (tensor_of s' t e) v ≡ entry g (bits v)
  gate_answer g d v p =
      rw (answer_tensor d) (build_value (set_of s st) (gate_tensor indices g) v ∙ gate_value indices g v p)

  -- "1 where input equals middle for each qubit below n, else 0"
  pub unit_answer : (n : ℕ) → RefinesEdge s s' st t (build (unit_tensor indices n)) e → (v : ℕ) → v < 2 ^ indices
      → value (tensor_of s' t e) v ≡ unit_entry n (bits v)
  unit_answer n d v p =
      rw (answer_tensor d) (build_value (set_of s st) (unit_tensor indices n) v ∙ unit_value indices n v p)

module _ {c' s s' : List ℕ} {st t : State} {e : Edge} (a b : Edge) where
  -- "At each assignment sum adds the two values"
  pub sum_answer : RefinesCached c' s s' st t (sum (tensor_of s st a) (tensor_of s st b)) (Ok e) → (v : ℕ)
      → value (tensor_of s' t e) v ≡ plus_w (value (tensor_of s st a) v) (value (tensor_of s st b) v)
  sum_answer w v = rw (answer_tensor w.step) (sum_value (set_of s st) (tensor_of s st a) (tensor_of s st b) v)

  -- ".. and cont adds their products over all settings of S."
  pub contract_answer : (m : ℕ)
      → RefinesCached c' s s' st t (cont (tensor_of s st a) (tensor_of s st b) (bits m)) (Ok e) → (v : ℕ)
      → value (tensor_of s' t e) v ≡ settings indices (bits m)
      (λ f. times_w (at (tensor_of s st a) f) (at (tensor_of s st b) f)) (bits v)
  contract_answer m w v =
      rw (answer_tensor w.step) (cont_value (set_of s st) (tensor_of s st a) (tensor_of s st b) (bits m) v)

-- "index k is renamed k-1": at v the answer has a's value where index k takes the value of k - 1
pub lower_answer : {c' s s' : List ℕ} {st t : State} {e : Edge} (a : Edge) (k : ℕ) → LowerRequires s st a k
    → RefinesCached c' s s' st t (low k (tensor_of s st a)) (Ok e) → (v : ℕ)
    → value (tensor_of s' t e) v ≡ at (tensor_of s st a) (assign k (bits v (k - 1)) (bits v))
lower_answer {s = s} {st = st} a k x w v =
    rw (answer_tensor w.step)
    (low_value (set_of s st) k (tensor_of s st a) v x.first (rw indices_count (omega (arith, x.last))) x.free)

-- "lowers every index of the set m at the same moment": at v the answer has a's value where each index k of m takes the
-- value of k - 1
pub lows_answer : {c' s s' : List ℕ} {st t : State} {e : Edge} (a : Edge) (m : ℕ)
    → RefinesCached c' s s' st t (lows (bits m) (tensor_of s st a)) (Ok e) → (v : ℕ)
    → value (tensor_of s' t e) v ≡ at (tensor_of s st a) (λ k. cond (bits m k) (bits v (k - 1)) (bits v k))
lows_answer {s = s} {st = st} a m w v =
    rw (answer_tensor w.step) (lows_value (bits m) (tensor_of s st a) (set_of s st) v)

-- "A call whose set would exceed the capacity is refused as 8 (full)", and no other: for gates and `unit` ..
pub refines_full_exactly : (s s' : List ℕ) (st t : State) (f : Step indices) (r : Result Edge Full)
    → Refines s s' st t f r
    → IsErr r ↔ (capacity s < length (f (set_of s st)).1)
refines_full_exactly s s' st t f (Ok e) d = (λ q. absurd (false≢true q), λ p. absurd (omega (arith, p, refines_fits d)))
refines_full_exactly s s' st t f (Err x) o = (λ q. o.full, λ p. refl)

-- .. and for sum, contraction and lowering
pub cached_full_exactly : (c' s s' : List ℕ) (st t : State) (f : Step indices) (r : Result Edge Full)
    → RefinesCached c' s s' st t f r
    → IsErr r ↔ (capacity s < length (f (set_of s st)).1)
cached_full_exactly c' s s' st t f r w = refines_full_exactly s s' st t f r w.step
