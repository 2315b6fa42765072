-- Laws of List: a line, the loop over gate lines, a whole list.
use Rattle.std.specs.Prelude.{◌≡◌, refl, List, [], ◌∷◌, ◌++◌, false, true, ℕ, ◌+◌, ◌≤◌, ◌<◌, length}
use Rattle.std.specs.Prelude.{Result, Ok}
use Rattle.text.specs.declared.check.Fault.{Fault}
use Rattle.std.proofs.Common.{ap, sym, subst, ◌∙◌, append_assoc, true≢false, arith}
use Rattle.diagram.specs.Node.{capacity}
use Rattle.text.specs.Text.{Bytes, LF}
use Rattle.text.specs.Session.{Capacity, at_most}
use Rattle.text.specs.Check.{item_of, GateRead, IsGate, gate_items}
use Rattle.text.specs.VerdictSession.{NumberedCall, gate_calls, at_line, gates_calls, list_calls}
use Rattle.text.specs.Split.{part, end_from}
use Rattle.text.specs.Engine.{EngineInvariant}
use Rattle.text.specs.Perform.{PerformState, ruling_from, PerformsCalls}
use Rattle.text.specs.List.{ListState, list_state_of, ruling_from_state, PerformsLines, LineAhead, LinePassed}
use Rattle.text.specs.List.{OpenEnsures}
use Rattle.text.specs.List.{GateEnsures, GateRequires, GatesRequires, GatesLoop, GateLines, GatesEnsures}
use Rattle.text.specs.List.{GateList, gate_list, GatesReached, ListEnds, next_line, ListRequires, ListEnsures}
use Rattle.text.specs.SplitLaws.{ends_from}
use Rattle.text.specs.CheckListsLaws.{gate_next}
use Rattle.diagram.specs.declared.gate.Gate.{Gate}
use Rattle.text.specs.declared.call.Call.{Call}
use Rattle.text.specs.declared.check.Item.{Item}
use Rattle.text.specs.Ruling.{no_at}
use Rattle.text.specs.declared.check.Fault.TheVariants.{Full}
use Rattle.text.specs.declared.check.Item.TheVariants as item
use Rattle.text.specs.declared.call.Call.TheVariants as call

-- one line

ruling_state : (c : Capacity) (line place : ℕ) (more : List NumberedCall) (s : List ℕ) (b : PerformState)
    → ruling_from c line more s b ≡ ruling_from_state c more s (list_state_of b line place)
unfolding ruling_from ruling_from_state
ruling_state c line place more s b = refl

ruling_not_refused : (c : Capacity) (line : ℕ) (more : List NumberedCall) (s : List ℕ) (a : ListState) → a.refused
    ≡ false
    → ruling_from_state c more s a ≡ ruling_from c line more s (record { refused = false; engine = a.engine })
unfolding ruling_from ruling_from_state
ruling_not_refused c line more s a q = rw q

same_gate : {g k : Gate} → ◌≡◌ {A = Result Item Fault} (Ok (item.Gate g)) (Ok (item.Gate k)) → g ≡ k
same_gate e = cc

module _ {text : Bytes} {a x : ListState} {b : PerformState} (h : LineAhead text a)
    (q : x ≡ list_state_of b (a.line + 1) (next_line text a.place)) where
  line_passed : LinePassed text a x
  line_passed = let n = ends_from LF text a.place (omega (arith, h.inside)) in rw q (record {
    place = refl;
    line = refl;
    passed = omega (arith, h.passed, n.from);
  })

  performs_line : {s c' s' : List ℕ} {xs : List Call}
      → PerformsCalls s c' s' (record { refused = false; engine = a.engine }) xs b
      → PerformsLines s c' s' a (at_line (a.line + 1) xs) x
  performs_line {s} {s' = s'} {xs} w = rw q (record {
    invariant = w.invariant;
    is =
        λ more. ruling_not_refused (at_most (capacity s)) (a.line + 1) (at_line (a.line + 1) xs ++ more) s a
        h.not_refused
        ∙ w.is (a.line + 1) more
        ∙ ruling_state (at_most (capacity s)) (a.line + 1) (next_line text a.place) more s' b;
  })

  pub open_ensures : {m r : ℕ} {s c' s' : List ℕ}
      → PerformsCalls s c' s' (record { refused = false; engine = a.engine }) (call.Unit r m ∷ []) b
      → OpenEnsures text m r s c' s' a x
  unfolding at_line
  open_ensures w = record { passes = line_passed; performs = performs_line w }

  pub gate_ensures : {m r : ℕ} {s c' s' : List ℕ} {g : Gate} {line : Bytes}
      → line ≡ part text a.place (end_from LF text a.place) → GateRead m line g
      → PerformsCalls s c' s' (record { refused = false; engine = a.engine }) (gate_calls r g) b
      → GateEnsures text m r s c' s' a x
  gate_ensures {m} {r} {s} {c'} {s'} {g} is f w = record { passes = line_passed; performs = each }
    where
      each : (k : Gate) → item_of m (part text a.place (end_from LF text a.place)) ≡ Ok (item.Gate k)
          → PerformsLines s c' s' a (at_line (a.line + 1) (gate_calls r k)) x
      each k z =
          subst (λ y. PerformsLines s c' s' a (at_line (a.line + 1) (gate_calls r y)) x)
          (same_gate (sym f.gate ∙ rw is z)) (performs_line w)

-- the line at hand is a gate's
pub line_is_gate : {text : Bytes} {m : ℕ} {a : ListState} {line : Bytes} → GateRequires text m a
    → line ≡ part text a.place (end_from LF text a.place) → IsGate (item_of m line)
line_is_gate f is = rw (is, f.is) tt

pub gates_loop_start : {l : GateList} {a : ListState} {c s : List ℕ} → EngineInvariant c s a.engine
    → GatesRequires l a → GatesLoop l a s c s 0 a
gates_loop_start p k = record {
  invariant = p;
  long = refl;
  within = omega arith;
  passed = k.passed;
  line = omega arith;
  each = λ gs rest ls. record { left = gs; counted = omega (arith, ls.long); next = ls.is; is = λ more. refl };
}

gates_cons : (r line : ℕ) (k : Gate) (ks : List Gate) (more : List NumberedCall)
    → gates_calls r line (k ∷ ks) ++ more ≡ at_line line (gate_calls r k) ++ (gates_calls r (line + 1) ks ++ more)
unfolding gates_calls
gates_cons r line k ks more = append_assoc (at_line line (gate_calls r k)) (gates_calls r (line + 1) ks) more

no_gates : (r line : ℕ) (more : List NumberedCall) → gates_calls r line [] ++ more ≡ more
unfolding gates_calls
no_gates r line more = refl

items_none : (rest : List (Result Item Fault)) → gate_items [] ++ rest ≡ rest
unfolding gate_items
items_none rest = refl

-- nothing that follows a refusal counts
pub ruling_refused : (c : Capacity) (more : List NumberedCall) (s : List ℕ) (x : ListState) → x.refused ≡ true
    → ruling_from_state c more s x ≡ no_at Full x.line
unfolding ruling_from ruling_from_state
ruling_refused c more s x q = rw q

module _ {text : Bytes} {n r count : ℕ} {a : ListState} {s₀ c s : List ℕ} {i : ℕ} {p : ListState}
    (g : GatesLoop (gate_list text n r count) a s₀ c s i p) where
  abbrev l : GateList
  l = gate_list text n r count

  -- a gate line is at hand
  gate_left : {gs : List Gate} {rest : List (Result Item Fault)} → i < count → (v : GatesReached l a s₀ gs rest s p)
      → (k : Gate) × ((ks : List Gate) × (v.left ≡ k ∷ ks))
  gate_left {gs} {rest} h v = go v.left refl
    where
      go : (left : List Gate) → v.left ≡ left → (k : Gate) × ((ks : List Gate) × (v.left ≡ k ∷ ks))
      go [] e = absurd (omega (arith, v.counted, g.line, ap length e))
      go (k ∷ ks) e = (k, (ks, e))

  pub gates_loop_gate : GatesRequires l a → i < count → p.refused ≡ false → GateRequires text n p
  gates_loop_gate k h q =
      let v = g.each k.first k.rest k.are in
      let w = gate_left h v in
      let x = gate_next {n = n} {s = text} {a = p.place} w.0 w.1.0 k.rest
      (v.next ∙ ap (λ left. gate_items left ++ k.rest) w.1.1) in
      record {
        ahead = record { not_refused = q; inside = x.inside; passed = g.passed };
        gate = w.0;
        is = x.here (ends_from LF text p.place (omega (arith, x.inside)));
      }

  pub gates_loop_next : {c' s' : List ℕ} {y : ListState} → i < count → GateRequires text n p → length s' ≡ length s
      → GateEnsures text n r s c' s' p y → GatesLoop l a s₀ c' s' (i + 1) y
  gates_loop_next {c'} {s'} {y} h f m w = record {
    invariant = (w.performs f.gate f.is).invariant;
    long = m ∙ g.long;
    within = omega arith;
    passed = w.passes.passed;
    line = omega (arith, w.passes.line, g.line);
    each = each;
  }
    where
      each : (gs : List Gate) (rest : List (Result Item Fault)) → GateLines l a.place gs rest
          → GatesReached l a s₀ gs rest s' y
      each gs rest ls =
          let v = g.each gs rest ls in
          let d = gate_left h v in
          let k = d.0 in
          let ks = d.1.0 in
          let x = gate_next {n = n} {s = text} {a = p.place} k ks rest
          (v.next ∙ ap (λ left. gate_items left ++ rest) d.1.1) in
          let e = ends_from LF text p.place (omega (arith, x.inside)) in
          record {
            left = ks;
            counted = omega (arith, v.counted, w.passes.line, ap length d.1.1);
            next = rw w.passes.place (x.on e);
            is = λ more. v.is more ∙ one_gate k ks more d.1.1 (w.performs k (x.here e));
          }
        where
          one_gate : {left : List Gate} (k : Gate) (ks : List Gate) (more : List NumberedCall) → left ≡ k ∷ ks
              → PerformsLines s c' s' p (at_line (p.line + 1) (gate_calls r k)) y
              → ruling_from_state (at_most (capacity s₀)) (gates_calls r (p.line + 1) left ++ more) s p
              ≡ ruling_from_state (at_most (capacity s₀)) (gates_calls r (y.line + 1) ks ++ more) s' y
          one_gate k ks more e d =
              rw (e, gates_cons r (p.line + 1) k ks more)
              ((rw g.long at (d.is (gates_calls r (p.line + 1 + 1) ks ++ more)))
              ∙ ap (λ m. ruling_from_state (at_most (capacity s₀)) (gates_calls r (m + 1) ks ++ more) s' y)
              (sym w.passes.line))

  pub gates_loop_refused : p.refused ≡ true → GatesEnsures l s₀ c s a p
  gates_loop_refused q = record {
    invariant = g.invariant;
    passed = g.passed;
    performs = λ gs rest ls. record {
      invariant = g.invariant;
      is = λ more. (g.each gs rest ls).is more ∙ ruling_refused (at_most (capacity s₀)) _ s p q
          ∙ sym (ruling_refused (at_most (capacity s₀)) more s p q);
    };
    ends = λ gs rest ls z. absurd (true≢false (sym q ∙ z));
  }

  pub gates_loop_end : count ≤ i → GatesEnsures l s₀ c s a p
  gates_loop_end h = record { invariant = g.invariant; passed = g.passed; performs = performs; ends = ends }
    where
      empty : (left : List Gate) → length left ≡ 0 → left ≡ []
      empty [] e = refl
      empty (k ∷ ks) e = absurd (omega arith)

      none_left : {gs : List Gate} {rest : List (Result Item Fault)} (v : GatesReached l a s₀ gs rest s p) → v.left ≡ []
      none_left v = empty v.left (omega (arith, v.counted, g.line))

      gates_none : (r line : ℕ) (more : List NumberedCall)
          → ruling_from_state (at_most (capacity s₀)) (gates_calls r line [] ++ more) s p
          ≡ ruling_from_state (at_most (capacity s₀)) more s p
      gates_none r line more = ap (λ calls. ruling_from_state (at_most (capacity s₀)) calls s p) (no_gates r line more)

      performs : (gs : List Gate) (rest : List (Result Item Fault)) → GateLines l a.place gs rest
          → PerformsLines s₀ c s a (gates_calls r (a.line + 1) gs) p
      performs gs rest ls =
          let v = g.each gs rest ls in
          record {
            invariant = g.invariant;
            is =
                λ more. v.is more
                ∙ ap (λ left. ruling_from_state (at_most (capacity s₀)) (gates_calls r (p.line + 1) left ++ more) s p)
                (none_left v)
                ∙ gates_none r (p.line + 1) more;
          }

      ends : (gs : List Gate) (rest : List (Result Item Fault)) → GateLines l a.place gs rest → p.refused ≡ false
          → ListEnds l count rest a p
      ends gs rest ls z =
          let v = g.each gs rest ls in
          record {
            next = v.next ∙ ap (λ left. gate_items left ++ rest) (none_left v) ∙ items_none rest;
            line = omega (arith, g.line, g.within);
          }

-- a whole list

gate_lines_next : {l : GateList} {a x : ListState} {gs : List Gate} {rest : List (Result Item Fault)}
    → LinePassed l.text a x
    → GateLines l (next_line l.text a.place) gs rest
    → GateLines l x.place gs rest
gate_lines_next m ls = rw m.place ls

pub gates_ahead : {l : GateList} {s c' s' : List ℕ} {a x : ListState} → ListRequires l a
    → OpenEnsures l.text l.qubits l.register s c' s' a x → GatesRequires l x
gates_ahead f o =
    record { first = f.first; rest = f.rest; are = gate_lines_next o.passes f.are; passed = o.passes.passed }

list_cons : (r n line : ℕ) (gs : List Gate) (more : List NumberedCall)
    → list_calls r n line gs ++ more ≡ ((line, call.Unit r n) ∷ []) ++ (gates_calls r (line + 1) gs ++ more)
unfolding list_calls
list_cons r n line gs more = refl

pub list_ensures : {l : GateList} {s c₁ s₁ c' s' : List ℕ} {a x y : ListState} → length s₁ ≡ length s
    → OpenEnsures l.text l.qubits l.register s c₁ s₁ a x
    → GatesEnsures l s₁ c' s' x y → ListEnsures l s c' s' a y
list_ensures {l} {s} {c₁} {s₁} {c'} {s'} {a} {x} {y} m o w =
    record { invariant = w.invariant; passed = w.passed; performs = performs; ends = ends }
  where
    performs : (gs : List Gate) (rest : List (Result Item Fault)) → GateLines l (next_line l.text a.place) gs rest
        → PerformsLines s c' s' a (list_calls l.register l.qubits (a.line + 1) gs) y
    performs gs rest ls = record {
      invariant = w.invariant;
      is =
          λ more. ap (λ k. ruling_from_state (at_most (capacity s)) k s a)
          (list_cons l.register l.qubits (a.line + 1) gs more)
          ∙ o.performs.is (gates_calls l.register (a.line + 1 + 1) gs ++ more)
          ∙ gates_then more (w.performs gs rest (gate_lines_next o.passes ls));
    }
      where
        gates_then : (more : List NumberedCall) → PerformsLines s₁ c' s' x (gates_calls l.register (x.line + 1) gs) y
            → ruling_from_state (at_most (capacity s)) (gates_calls l.register (a.line + 1 + 1) gs ++ more) s₁ x
            ≡ ruling_from_state (at_most (capacity s)) more s' y
        gates_then more d = rw (← o.passes.line, ← m) (d.is more)

    ends : (gs : List Gate) (rest : List (Result Item Fault)) → GateLines l (next_line l.text a.place) gs rest
        → y.refused
        ≡ false
        → ListEnds l (1 + l.count) rest a y
    ends gs rest ls z =
        let v = w.ends gs rest (gate_lines_next o.passes ls) z in
        record { next = v.next; line = omega (arith, v.line, o.passes.line) }

-- the head line was refused: no gate line is run
pub list_refused : {l : GateList} {s c₁ s₁ : List ℕ} {a x : ListState} → ListRequires l a → length s₁ ≡ length s
    → OpenEnsures l.text l.qubits l.register s c₁ s₁ a x → x.refused ≡ true → ListEnsures l s c₁ s₁ a x
list_refused f m o q =
    list_ensures m o (gates_loop_refused (gates_loop_start o.performs.invariant (gates_ahead f o)) q)
