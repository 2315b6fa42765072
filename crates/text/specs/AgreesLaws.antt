-- What the engine keeps between lines gives demand 3's sentences; what a run passes.
use Rattle.std.specs.Prelude.{◌≡◌, List, ◌↔◌, ℕ, ◌≤◌, ◌<◌, ◌+◌, get_or, take, drop, Some, None}
use Rattle.std.proofs.lemmas.Bool.{false≢true}
use Rattle.std.proofs.Math.Path.{refl, ap, sym, subst}
use Rattle.std.proofs.Common.{◌∙◌, arith}
use Rattle.std.proofs.Math.Bool.{true, false}
use Rattle.std.proofs.Math.Option.{Option, none, some}
use Rattle.std.proofs.Math.Decide.{ℕ_discrete}
use Rattle.std.proofs.Math.ListN.{length, length-append}
use Rattle.std.proofs.Math.Seq.{take-append_seam}
use Rattle.diagram.specs.Store.{nodes_of, set_of, tensor_of}
use Rattle.diagram.specs.StoreLaws.{node_top, node_normal, node_form, node_low, node_high, node_multiple, edge_unique}
use Rattle.diagram.specs.SupportStoreLaws.{support_record}
use Rattle.diagram.specs.Registers.{Register, empty_register, occupied, edge_of, holds, holds_all}
use Rattle.diagram.specs.RegistersLaws.{holds_at, register_valid, register_empty}
use Rattle.diagram.specs.Weights.{Weight, to_weight}
use Rattle.diagram.specs.Tensor.{Tensor, indices, indices_count, scale}
use Rattle.diagram.specs.TallyValueLaws.{agree_exactly}
use Rattle.diagram.specs.NodeLaws.{edge_eq}
use Rattle.diagram.specs.Meaning.{tensor_at, edge_in, Valid}
use Rattle.diagram.specs.Invariant.{Invariant}
use Rattle.text.specs.Text.{Bytes}
use Rattle.text.specs.Limits.{register_count}
use Rattle.text.specs.Print.{written}
use Rattle.text.specs.Session.{TallyRun, Capacity, run}
use Rattle.text.specs.Agrees.{register_in, node_tensors, is_filled, AgreeEverywhere, IsNode, Agrees, Passes}
use Rattle.text.specs.Agrees.{start, line, Point, Between}
use Rattle.text.specs.Agrees.{AgreesThroughout}
use Rattle.diagram.specs.declared.make.State.{State}
use Rattle.diagram.specs.declared.node.Edge.{Edge}
use Rattle.text.specs.declared.progress.SessionResult.{SessionResult}

pub node_tensors_lem : (s : List ℕ) (st : State) → node_tensors s st.count ≡ set_of s st
unfolding node_tensors set_of nodes_of
node_tensors_lem s st = refl

module _ {c s : List ℕ} {st : State} {rs : List Register} (p : Invariant c s st rs) where
  abbrev register_tensor_lem : ℕ → Option (Tensor indices)
  register_tensor_lem i = get_or (holds_all (set_of s st) rs) i none

  pub same_filled : (i : ℕ) → occupied (register_in rs i) ≡ is_filled (register_tensor_lem i)
  unfolding holds
  same_filled i = sym (ap is_filled (holds_at (set_of s st) rs i) ∙ go (register_in rs i))
    where
      go : (r : Register) → is_filled (holds (set_of s st) r) ≡ occupied r
      go None = refl
      go (Some e) = refl

  pub filled_tensor : (i : ℕ) → occupied (register_in rs i) ≡ true
      → register_tensor_lem i ≡ some (tensor_of s st (edge_of (register_in rs i)))
  unfolding holds tensor_of
  filled_tensor i q = holds_at (set_of s st) rs i ∙ go (register_in rs i) q
    where
      go : (r : Register) → occupied r ≡ true → holds (set_of s st) r ≡ some (edge_in (set_of s st) (edge_of r))
      go None z = absurd (false≢true z)
      go (Some e) z = refl

  pub weight_times_node : (i : ℕ) → occupied (register_in rs i) ≡ true
      → register_tensor_lem i
      ≡ some (scale (to_weight (edge_of (register_in rs i)).weight)
      (tensor_at (node_tensors s st.count) (edge_of (register_in rs i)).node))
  unfolding tensor_of edge_in
  weight_times_node i q = rw (node_tensors_lem s st) (filled_tensor i q)

  -- the words of the registers

  pub filled_valid : (i : ℕ) → i < register_count → occupied (register_in rs i) ≡ true
      → Valid st.count (edge_of (register_in rs i))
  filled_valid i l q = register_valid st.count rs i p.registers.valid q

  pub empty_zero : (i : ℕ) → occupied (register_in rs i) ≡ false → register_in rs i ≡ empty_register
  empty_zero i q = register_empty (register_in rs i) q

  -- the words of the nodes
  pub is_node : (n : ℕ) → 1 ≤ n → n ≤ st.count → IsNode s (node_tensors s st.count) n
  is_node n k l =
      let x = node_form p.sound n k l in
      rw (node_tensors_lem s st) record {
        index = rw indices_count at x.index;
        top = node_top p.sound n k l;
        low = x.low;
        high = x.high;
        at_0 = node_low p.sound n k l;
        at_1 = node_high p.sound n k l;
        normal = node_normal p.sound n k l;
        mask = support_record s st p.sound n k l;
      }

  unfoldable tensor_in : Option (Tensor indices) → Tensor indices → Tensor indices
  tensor_in none T = T
  tensor_in (some A) T = A

  -- a register in which the tally holds a tensor has an edge with it
  module _ (i : ℕ) (l : i < register_count) {A : Tensor indices} (q : register_tensor_lem i ≡ some A) where
    filled_register : occupied (register_in rs i) ≡ true
    filled_register = same_filled i ∙ ap is_filled q

    is_tensor : tensor_of s st (edge_of (register_in rs i)) ≡ A
    unfolding tensor_in
    is_tensor = ap (λ o. tensor_in o A) (sym (filled_tensor i filled_register) ∙ q)

    valid : Valid st.count (edge_of (register_in rs i))
    valid = filled_valid i l filled_register

  pub same_exactly : (i j : ℕ) → i < register_count → j < register_count → (A B : Tensor indices)
      → register_tensor_lem i ≡ some A → register_tensor_lem j ≡ some B
      → (((edge_of (register_in rs i)).weight ≡ (edge_of (register_in rs j)).weight)
      × ((edge_of (register_in rs i)).node ≡ (edge_of (register_in rs j)).node)) ↔ AgreeEverywhere A B
  same_exactly i j k l A B q r = (
    λ w. (agree_exactly A B).0 (sym (is_tensor i k q) ∙ ap (tensor_of s st) (edge_eq w.0 w.1) ∙ is_tensor j l r),
    λ w. one (edge_unique p.sound (valid i k q) (valid j l r) (is_tensor i k q ∙ (agree_exactly A B).1 w
        ∙ sym (is_tensor j l r))),
  )
    where
      one : (edge_of (register_in rs i)) ≡ (edge_of (register_in rs j))
          → ((edge_of (register_in rs i)).weight ≡ (edge_of (register_in rs j)).weight) ×
          ((edge_of (register_in rs i)).node ≡ (edge_of (register_in rs j)).node)
      one e = (ap (λ (x : Edge). x.weight) e, ap (λ (x : Edge). x.node) e)

  pub no_multiples : (m n : ℕ) (f : Weight) → m ≤ st.count → n ≤ st.count
      → tensor_at (node_tensors s st.count) m ≡ scale f (tensor_at (node_tensors s st.count) n) → m ≡ n
  no_multiples m n f k l e = node_multiple p.sound m n f k l (rw (node_tensors_lem s st) at e)

-- what a run prints stands at the front of the output

module _ {s o o' : Bytes} {r : SessionResult} {t : TallyRun indices} (a : Agrees s o o' r t) where
  pub printed_front : take r.bytes o' ≡ t.output
  unfolding written
  printed_front = rw (a.bytes, a.printed) (take-append_seam t.output (drop (0 + length t.output) o))

  pub printed_within : r.bytes ≤ length o'
  unfolding written
  printed_within =
      rw a.printed (omega (arith, a.bytes, length-append t.output (drop (0 + length t.output) o)))

-- what a run passes

module _ {c : Capacity} {o : Bytes} {ls : List Bytes} {t : TallyRun indices} {s₀ : Bytes} {r₀ : SessionResult} where
  pub passes_agrees : {s o' : Bytes} {r : SessionResult} → Passes c o ls t s₀ r₀ s o' r
      → Agrees s o o' r (run c (length o) (take r.lines ls) t)
  unfolding run
  passes_agrees (start z a) = subst (λ n. Agrees s₀ o o r₀ (run c (length o) (take n ls) t)) (sym z) a
  passes_agrees (line b l a) = a

  passes_point : {s o' : Bytes} {r : SessionResult} → Passes c o ls t s₀ r₀ s o' r → Point c o ls t r.lines
  passes_point {s} {o'} {r} b = record { store = s; output = o'; result = r; lines = refl; agrees = passes_agrees b }

  -- "at the start and after each line answered"
  pub after_each_line : {s o' : Bytes} {r : SessionResult} → Passes c o ls t s₀ r₀ s o' r → (j : ℕ) → j ≤ r.lines
      → Point c o ls t j
  after_each_line (start z a) j p =
      let e : r₀.lines ≡ j = omega arith in subst (Point c o ls t) e (passes_point (start z a))
  after_each_line (line {r' = r'} b l a) j p = elim (ℕ_discrete r'.lines j) [
    | yes e ↦ subst (Point c o ls t) e (passes_point (line b l a))
    | no n ↦ after_each_line b j (omega (arith, l.lines))
  ]

  -- "a refused line changes no register and leaves no new node", for each line that a session answers
  pub each_line : {s o' : Bytes} {r : SessionResult} → Passes c o ls t s₀ r₀ s o' r → (j : ℕ) → j < r.lines
      → Between c o ls t j
  unfolding passes_point
  each_line (start z a) j p = absurd (omega arith)
  each_line (line {r = r} {s' = s'} {o''} {r'} b l a) j p = elim (ℕ_discrete r.lines j) [
    | yes e ↦ subst (Between c o ls t) e (record {
      before = passes_point b;
      after = record {
        store = s';
        output = o'';
        result = r';
        lines = l.lines;
        agrees = subst (λ n. Agrees s' o o'' r' (run c (length o) (take n ls) t)) l.lines a;
      };
      one = l;
    })
    | no n ↦ each_line b j (omega (arith, l.lines))
  ]

pub session_within : {c : Capacity} {ls : List Bytes} {t : TallyRun indices} {s o o' : Bytes} {r : SessionResult}
    → AgreesThroughout c ls t s o o' r → r.bytes ≤ length o'
session_within a = printed_within a.ends
