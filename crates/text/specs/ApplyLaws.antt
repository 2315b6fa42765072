-- Laws of Apply: each step as the code takes it.
use Rattle.std.specs.Prelude.{◌≡◌, refl, true, [], List, ◌∷◌, ℕ, ◌-◌, ◌<◌, ◌≤◌, suc, ◌+◌, ◌*◌, Result, Ok, Err}
use Rattle.std.proofs.Common.{subst, ap, arith}
use Rattle.diagram.specs.Tensor.{Tensor, Bits, times, bits, indices, indices_count, rename_down}
use Rattle.diagram.specs.TallyContLaws.{cont_meaning, cont_grows}
use Rattle.diagram.specs.SumOver.{sum_over}
use Rattle.diagram.specs.TallyValueLaws.{cont_free, low_free_other}
use Rattle.diagram.specs.Top.{Free}
use Rattle.diagram.specs.TallyLowLaws.{low_meaning, low_writes}
use Rattle.diagram.specs.Tally.{Set, cont, low, ◌>>=◌, Step, return, build}
use Rattle.diagram.specs.TallyStepLaws.{writes_answer, writes_return, writes_bind, writes_grows}
use Rattle.diagram.specs.TallyStep.{Writes}
use Rattle.diagram.specs.Sets.{PrefixOf}
use Rattle.diagram.specs.SetsLaws.{prefix_trans}
use Rattle.diagram.specs.Store.{set_of, tensor_of, Refines}
use Rattle.diagram.specs.Operation.{OperationRequires, RefinesCached}
use Rattle.diagram.specs.Lower.{LowerRequires}
use Rattle.diagram.specs.OperationLaws.{cached_as, cached_then, cached_full_more, cached_step}
use Rattle.diagram.specs.Gate.{gate_tensor}
use Rattle.diagram.specs.MeaningLaws.{valid_more}
use Rattle.diagram.specs.StoreLaws.{tensor_kept, refines_count}
use Rattle.text.specs.Limits.{most_qubits}
use Rattle.text.specs.Names.{Placed}
use Rattle.text.specs.Qubits.{Rising, AllSet, middles, qubit_list, QubitsOf, qubits}
use Rattle.text.specs.Apply.{AllFree, rename_step, renamed_tensor, contract_step, Renamable, apply_step}
use Rattle.text.specs.QubitsLaws.{middles_set, gate_rising}
use Rattle.diagram.specs.declared.node.Edge.{Edge}
use Rattle.diagram.specs.declared.make.State.{State}
use Rattle.diagram.specs.declared.diagram.Full.{Full}
use Rattle.diagram.specs.declared.gate.Shape.{Shape}
use Rattle.diagram.specs.declared.gate.Shape.TheVariants.{One, Two}
use Rattle.diagram.specs.declared.gate.Gate.{Gate}

-- contraction over k leaves nothing that depends on k; renaming another index keeps independence

free_contracted : {d : ℕ} (k : ℕ) (S : Bits) (A B : Tensor d) → k < d → S k ≡ true → Free k (sum_over S (times A B))
free_contracted k S A B p e = subst (Free k) (cont_meaning A B S []) (cont_free [] k A B S p e)

free_renamed : {d : ℕ} (i k : ℕ) (A : Tensor d) → 1 ≤ k → k < d → Free (k - 1) A → (i ≡ k → ⊥) → (i ≡ k - 1 → ⊥)
    → Free i A → Free i (rename_down k A)
free_renamed i k A p q f n m g = subst (Free i) (low_meaning k A p q f []) (low_free_other [] k A p q f i n m g)

pub all_free_renamed : {d : ℕ} (least q : ℕ) (qs : List ℕ) (A : Tensor d) → Rising d least qs → q < least
    → 3 * q + 2 < d → Free (3 * q + 1) A → AllFree qs A
    → AllFree qs (rename_down (3 * q + 2) A)
all_free_renamed least q [] A r p l g f = tt
all_free_renamed least q (x ∷ qs) A r p l g f =
    let e : 3 * q + 2 - 1 ≡ 3 * q + 1 = omega arith in (
      free_renamed (3 * x + 1) (3 * q + 2) A (omega arith) l (rw e g) (λ z. omega arith) (λ z. omega arith) f.0,
      all_free_renamed (suc x) q qs A r.2 (omega arith) l g f.1,
    )

pub all_free : {d : ℕ} (least : ℕ) (qs : List ℕ) (S : Bits) (A B : Tensor d) → Rising d least qs → AllSet qs S
    → AllFree qs (sum_over S (times A B))
all_free least [] S A B r s = tt
all_free least (q ∷ qs) S A B r s =
    (free_contracted (3 * q + 1) S A B (omega (arith, r.1)) s.0, all_free (suc q) qs S A B r.2 s.1)

-- Contraction leaves nothing that depends on a middle, and renaming one qubit's fresh index keeps that for the others.
-- So what these steps answer and put in does not depend on the set.

pub cont_all_free : {d : ℕ} (qs : List ℕ) (A T : Tensor d) (s : Set d) → Rising d 0 qs
    → AllFree qs (cont A T (bits (middles qs)) s).0
cont_all_free {d} qs A T s u =
    rw (cont_meaning A T (bits (middles qs)) s) (all_free 0 qs (bits (middles qs)) A T u (middles_set d 0 qs u))

module _ {d : ℕ} (least q : ℕ) (qs : List ℕ) (T : Tensor d) (u : Rising d least (q ∷ qs)) (f : AllFree (q ∷ qs) T) where
  low_known : Writes (rename_down (3 * q + 2) T) (low (3 * q + 2) T)
  low_known =
      let e : 3 * q + 2 - 1 ≡ 3 * q + 1 = omega arith in low_writes (3 * q + 2) (omega arith) u.1 T (rw e f.0)

  lowered_free : AllFree qs (rename_down (3 * q + 2) T)
  lowered_free = all_free_renamed (suc q) q qs T u.2 (omega arith) u.1 f.0 f.1

  pub low_free : (s : Set d) → AllFree qs (low (3 * q + 2) T s).0
  low_free s = rw (writes_answer low_known s) lowered_free

pub rename_step_writes : {d : ℕ} (least : ℕ) (qs : List ℕ) (T : Tensor d) → Rising d least qs → AllFree qs T
    → Writes (renamed_tensor qs T) (rename_step qs T)
unfolding rename_step renamed_tensor
rename_step_writes least [] T u f = writes_return T
rename_step_writes least (q ∷ qs) T u f =
    writes_bind (rename_step qs) (low_known least q qs T u f)
    (rename_step_writes (suc q) qs (rename_down (3 * q + 2) T) u.2 (lowered_free least q qs T u f))

pub rename_step_grows : {d : ℕ} (least : ℕ) (qs : List ℕ) (T : Tensor d) → Rising d least qs → AllFree qs T
    → (s : Set d)
    → PrefixOf s (rename_step qs T s).1
rename_step_grows least qs T u f s = writes_grows (rename_step_writes least qs T u f) s

pub contract_step_grows : {d : ℕ} (qs : List ℕ) (T A : Tensor d) → Rising d 0 qs → (s : Set d)
    → PrefixOf s (contract_step qs T A s).1
unfolding contract_step ◌>>=◌
contract_step_grows qs T A u s =
    prefix_trans (cont_grows A T (bits (middles qs)) s)
    (rename_step_grows 0 qs (cont A T (bits (middles qs)) s).0 u (cont_all_free qs A T s u) _)

-- the tensor of a step's edge is what the step answers
answered : {c' s s' : List ℕ} {st t : State} {f : Step indices} {e : Edge}
    → RefinesCached c' s s' st t f (Ok e)
    → (f (set_of s st)).0 ≡ tensor_of s' t e
answered w = ap (λ p. p.0) w.step.is

cached_requires : {c' s s' : List ℕ} {st t : State} {f : Step indices} {e : Edge}
    → RefinesCached c' s s' st t f (Ok e)
    → OperationRequires c' s' t e e
cached_requires w = record { sound = w.step.sound; left = w.step.valid; right = w.step.valid; cache = w.cache }

-- one fresh index

pub rename_allowed : {s : List ℕ} {st : State} {a : Edge} {q : ℕ} → q < most_qubits
    → Free (3 * q + 1) (tensor_of s st a)
    → LowerRequires s st a (3 * q + 2)
rename_allowed {q = q} p f =
    let e : 3 * q + 2 - 1 ≡ 3 * q + 1 = omega arith in record { first = omega arith; last = omega arith; free = rw e f }

-- one qubit's

pub free_one : {q : ℕ} {x : Shape} {T : Tensor indices} → x ≡ One q → Renamable (qubit_list x) T → Free (3 * q + 1) T
free_one {T = T} e h = (subst (λ x. Renamable (qubit_list x) T) e h).free.0

pub renamed_one : (c' s s' : List ℕ) (st t : State) (T : Tensor indices) {q : ℕ} {x : Shape} (r : Result Edge Full)
    → x ≡ One q
    → RefinesCached c' s s' st t (low (3 * q + 2) T) r
    → RefinesCached c' s s' st t (rename_step (qubit_list x) T) r
unfolding rename_step ◌>>=◌ return
renamed_one c' s s' st t T {q} r e w =
    rw e (cached_as c' s s' st t (rename_step (q ∷ []) T) (low (3 * q + 2) T) r refl w)

-- two qubits'

module _ {p q : ℕ} {x : Shape} {T : Tensor indices} (e : x ≡ Two p q) (h : Renamable (qubit_list x) T) where
  two : Renamable (p ∷ q ∷ []) T
  two = subst (λ x. Renamable (qubit_list x) T) e h

  pub free_first : Free (3 * p + 1) T
  free_first = two.free.0

  -- the second is as free of its middle after the first was renamed
  second_free : (z : Set indices) → AllFree (q ∷ []) (low (3 * p + 2) T z).0
  second_free = low_free 0 p (q ∷ []) T two.rising two.free

  pub renamed_full : {c₁ s s₁ : List ℕ} {st t : State} {f : Full}
      → RefinesCached c₁ s s₁ st t (low (3 * p + 2) T) (Err f)
      → RefinesCached c₁ s s₁ st t (rename_step (qubit_list x) T) (Err f)
  unfolding rename_step ◌>>=◌
  renamed_full {s = s} {st = st} w =
      rw e (cached_full_more (rename_step (p ∷ q ∷ []) T) w
      (rename_step_grows (suc p) (q ∷ []) (low (3 * p + 2) T (set_of s st)).0 two.rising.2
      (second_free (set_of s st)) _))

  module _ {c₁ s s₁ : List ℕ} {st t : State} {y : Edge} (w : RefinesCached c₁ s s₁ st t (low (3 * p + 2) T) (Ok y))
    where
      pub ready_second : OperationRequires c₁ s₁ t y y
      ready_second = cached_requires w

      pub free_second : Free (3 * q + 1) (tensor_of s₁ t y)
      free_second = rw (← answered w) (second_free (set_of s st)).0

      pub renamed_two : (c₂ s₂ : List ℕ) (u : State) (r : Result Edge Full)
          → RefinesCached c₂ s₁ s₂ t u (low (3 * q + 2) (tensor_of s₁ t y)) r
          → RefinesCached c₂ s s₂ st u (rename_step (qubit_list x) T) r
      unfolding rename_step ◌>>=◌ return
      renamed_two c₂ s₂ u r v =
          rw e (cached_then c₂ s₂ u (rename_step (p ∷ q ∷ []) T) (low (3 * q + 2) (tensor_of s₁ t y)) r w
          (rw w.step.is) v)

-- the contraction, and then the fresh indices

module _ {m : ℕ} (x : Shape) (k : m ≡ middles (qubit_list x)) (u : Rising indices 0 (qubit_list x))
    (A T : Tensor indices) where
  over : bits m ≡ bits (middles (qubit_list x))
  over = ap bits k

  -- what is left depends on no middle
  loose : (z : Set indices) → Renamable (qubit_list x) (cont A T (bits m) z).0
  loose z = rw over record { rising = u; free = cont_all_free (qubit_list x) A T z u }

  pub contracted_full : {c₁ s s₁ : List ℕ} {st t : State} {f : Full}
      → RefinesCached c₁ s s₁ st t (cont A T (bits m)) (Err f)
      → RefinesCached c₁ s s₁ st t (contract_step (qubit_list x) T A) (Err f)
  unfolding contract_step ◌>>=◌
  contracted_full {s = s} {st = st} w =
      cached_full_more (contract_step (qubit_list x) T A) w
      (rw over (rename_step_grows 0 (qubit_list x) _ u (cont_all_free (qubit_list x) A T (set_of s st) u) _))

  module _ {c₁ s s₁ : List ℕ} {st t : State} {y : Edge} (w : RefinesCached c₁ s s₁ st t (cont A T (bits m)) (Ok y))
    where
      pub contracted_ready : OperationRequires c₁ s₁ t y y
      contracted_ready = cached_requires w

      pub contracted_renamable : Renamable (qubit_list x) (tensor_of s₁ t y)
      contracted_renamable = subst (Renamable (qubit_list x)) (answered w) (loose (set_of s st))

      pub contract_rename_refines : (c₂ s₂ : List ℕ) (q : State) (r : Result Edge Full)
          → RefinesCached c₂ s₁ s₂ t q (rename_step (qubit_list x) (tensor_of s₁ t y)) r
          → RefinesCached c₂ s s₂ st q (contract_step (qubit_list x) T A) r
      unfolding contract_step ◌>>=◌
      contract_rename_refines c₂ s₂ q r v =
          cached_then c₂ s₂ q (contract_step (qubit_list x) T A) (rename_step (qubit_list x) (tensor_of s₁ t y)) r w
          (rw (← over, w.step.is)) v

-- the gate's tensor, and then the others

pub apply_rising : (g : Gate) (qs : Shape) → Placed most_qubits g → QubitsOf g qs → Rising indices 0 (qubit_list qs)
apply_rising g qs p o = rw o.is (gate_rising indices most_qubits g (omega (arith, indices_count)) p)

module _ {c c₁ s : List ℕ} {st : State} {x : Edge} (h : OperationRequires c s st x x) {g : Gate}
    (p : Placed most_qubits g) (k : c₁ ≡ c) {qs : Shape} (o : QubitsOf g qs) where
  pub apply_full : {s₁ : List ℕ} {t : State} {f : Full} → Refines s s₁ st t (build (gate_tensor indices g)) (Err f)
      → RefinesCached c₁ s s₁ st t (apply_step g (tensor_of s st x)) (Err f)
  unfolding apply_step ◌>>=◌
  apply_full {s₁} {t} {f} w =
      cached_full_more (apply_step g (tensor_of s st x))
      (cached_step s₁ t (build (gate_tensor indices g)) (Err f) h k w)
      (contract_step_grows (qubits g) (tensor_of s st x) _
      (gate_rising indices most_qubits g (omega (arith, indices_count)) p) _)

  module _ {s₁ : List ℕ} {t : State} {a : Edge}
      (w : Refines s s₁ st t (build (gate_tensor indices g)) (Ok a)) where
    build_refines : RefinesCached c₁ s s₁ st t (build (gate_tensor indices g)) (Ok a)
    build_refines = cached_step s₁ t (build (gate_tensor indices g)) (Ok a) h k w

    pub apply_ready : OperationRequires c₁ s₁ t a x
    apply_ready = record {
      sound = build_refines.step.sound;
      left = build_refines.step.valid;
      right = valid_more t.count (refines_count build_refines.step) h.left;
      cache = build_refines.cache;
    }

    pub apply_refines : (c₂ s₂ : List ℕ) (u : State) (r : Result Edge Full)
        → RefinesCached c₂ s₁ s₂ t u (contract_step (qubit_list qs) (tensor_of s₁ t x) (tensor_of s₁ t a)) r
        → RefinesCached c₂ s s₂ st u (apply_step g (tensor_of s st x)) r
    unfolding apply_step ◌>>=◌
    apply_refines c₂ s₂ u r v =
        cached_then c₂ s₂ u (apply_step g (tensor_of s st x))
        (contract_step (qubit_list qs) (tensor_of s₁ t x) (tensor_of s₁ t a)) r build_refines
        (rw (build_refines.step.is, o.is, tensor_kept s s₁ st t build_refines.step.grown h.left)) v
