-- Laws of Runs: a list's calls run through, and its register ends with its tensor.
use Rattle.std.specs.Prelude.{◌≡◌, refl, Bool, true, false, cond, ℕ, ◌-◌, ◌+◌, suc, ◌*◌, ◌≤◌, ◌<◌, leb, length, set}
use Rattle.std.specs.Prelude.{get_or, Ok, Err}
use Rattle.std.proofs.Common.{ap, ◌∙◌}
use Rattle.std.proofs.Math.Option.{some, Option, none}
use mathlib.Core.List.{List, [], ◌∷◌, ◌++◌}
use native.Mathlib.Omega.{arith}
use Rattle.std.proofs.Math.ListN.{length-set}
use Rattle.std.proofs.Math.Seq.{get_or-set_same, get_or-set_other}
use Rattle.diagram.specs.Tensor.{Tensor, bits, times, rename_down}
use Rattle.diagram.specs.Tally.{Set, cont, low, build}
use Rattle.diagram.specs.Gate.{gate_tensor, unit_tensor}
use Rattle.diagram.specs.TallyStepLaws.{writes_answer}
use Rattle.diagram.specs.TallyContLaws.{cont_meaning}
use Rattle.diagram.specs.SumOver.{sum_over}
use Rattle.diagram.specs.TopFreeLaws.{free_depends}
use Rattle.diagram.specs.Top.{Free}
use Rattle.diagram.specs.TallyLowLaws.{low_writes}
use Rattle.diagram.specs.TallyBuildLaws.{build_writes}
use Rattle.text.specs.Limits.{register_count}
use Rattle.text.specs.Session.{Capacity, Tally, at_most, unlimited, accept, refuse, settle, TallyReply, answer}
use Rattle.text.specs.Session.{with_register}
use Rattle.text.specs.Session as Session
use Rattle.text.specs.Qubits.{Rising, AllFit, qubits, middles}
use Rattle.text.specs.VerdictSession.{PerformResult, continue_with, NumberedCall, perform, at_line, low_calls}
use Rattle.text.specs.VerdictSession.{gate_calls}
use Rattle.text.specs.VerdictSession.{gates_calls, list_calls}
use Rattle.text.specs.Apply.{AllFree, renamed_tensor, contracted_tensor, applied_tensor, applied_list}
use Rattle.text.specs.Runs.{RegisterList, IsLimited, OneCallRuns, full, on, AllCallsRun, end, HoldsList}
use Rattle.text.specs.Runs.{HoldsGate}
use Rattle.text.specs.QubitsLaws.{middles_set}
use Rattle.text.specs.ApplyLaws.{all_free_renamed, all_free}
use Rattle.text.specs.declared.call.Refusal.TheVariants.{Full}
use Rattle.text.specs.declared.call.Call.{Call}
use Rattle.diagram.specs.declared.gate.Gate.{Gate}
use Rattle.text.specs.declared.answer.Answer.TheVariants as answers
use Rattle.text.specs.declared.call.Call.TheVariants as call

runs_settled : {d : ℕ} (c : Capacity) (P : RegisterList d → Type 0) (b : Bool) (n : ℕ) (s t : Tally d)
    → (b ≡ false → IsLimited c) → P s.registers → OneCallRuns c P (cond b (Ok (answers.Done n), s) (Err Full, t))
runs_settled c P true n s t l h = on h
runs_settled c P false n s t l h = full (l refl)

runs_settle : {d : ℕ} (c : Capacity) (P : RegisterList d → Type 0) (r : ℕ) (p : Tensor d × Set d) (t : Tally d)
    → P (set t.registers r (some p.0)) → OneCallRuns c P (settle c r p t)
unfolding settle accept refuse
runs_settle (at_most m) P r p t h = runs_settled (at_most m) P (leb (length p.1) m) _ _ _ (λ e. tt) h
runs_settle unlimited P r p t h = on h

runs_on : {d : ℕ} {c : Capacity} (P Q : RegisterList d → Type 0) (line : ℕ) {x : TallyReply d}
    (f : Tally d → PerformResult d)
    → OneCallRuns c P x → ((t : Tally d) → P t.registers → AllCallsRun c Q (f t)) → AllCallsRun c Q
    (continue_with line x f)
unfolding continue_with
runs_on P Q line f (full l) h = full l
runs_on P Q line f (on {t = t} p) h = h t p

continue_then : {d : ℕ} {c : Capacity} (P Q : RegisterList d → Type 0) (line : ℕ) (x : TallyReply d)
    (f g : Tally d → PerformResult d)
    → AllCallsRun c P (continue_with line x f) → ((t : Tally d) → AllCallsRun c P (f t) → AllCallsRun c Q (g t))
    → AllCallsRun c Q (continue_with line x g)
unfolding continue_with
continue_then P Q line (Ok a, t) f g r h = h t r
continue_then P Q line (Err x, t) f g (full l) h = full l

-- calls, and then more calls
pub runs_append : {d : ℕ} {c : Capacity} (P Q : RegisterList d → Type 0) (xs ys : List NumberedCall) (t : Tally d)
    → AllCallsRun c P (perform c xs t) → ((t : Tally d) → P t.registers → AllCallsRun c Q (perform c ys t))
    → AllCallsRun c Q (perform c (xs ++ ys) t)
unfolding perform
runs_append P Q [] ys t (end p) h = h t p
runs_append {c = c} P Q ((line, x) ∷ xs) ys t r h =
    continue_then P Q line (answer c x t) (perform c xs) (perform c (xs ++ ys)) r (λ t r. runs_append P Q xs ys t r h)

pub runs_less : {d : ℕ} {c : Capacity} {P Q : RegisterList d → Type 0} {x : PerformResult d} → AllCallsRun c P x
    → ((l : RegisterList d) → P l → Q l) → AllCallsRun c Q x
runs_less (full l) f = full l
runs_less (end {t = t} p) f = end (f t.registers p)

pub at_line_append : (line : ℕ) (xs ys : List Call) → at_line line (xs ++ ys) ≡ at_line line xs ++ at_line line ys
unfolding at_line
at_line_append line [] ys = refl
at_line_append line (x ∷ xs) ys = ap (λ l. (line, x) ∷ l) (at_line_append line xs ys)

module _ {d : ℕ} (r j : ℕ) (o : Option (Tensor d)) (r_small : r < 2) (j-small : j < 2) (apart : j ≡ r → ⊥) where
  holds_list_gate : (G T : Tensor d) (l : RegisterList d) → HoldsList r T j o l → HoldsGate r T j o G (set l 2 (some G))
  holds_list_gate G T l h = record {
    holding = record {
      sixteen = length-set l 2 (some G) ∙ h.sixteen;
      here = get_or-set_other l 2 r (some G) none (λ e. omega arith) ∙ h.here;
      there = get_or-set_other l 2 j (some G) none (λ e. omega arith) ∙ h.there;
    };
    gate = get_or-set_same l 2 (some G) none (omega (arith, h.sixteen));
  }

  holds_list_set : (T U : Tensor d) (l : RegisterList d) → HoldsList r T j o l → HoldsList r U j o (set l r (some U))
  holds_list_set T U l h = record {
    sixteen = length-set l r (some U) ∙ h.sixteen;
    here = get_or-set_same l r (some U) none (omega (arith, h.sixteen));
    there = get_or-set_other l r j (some U) none apart ∙ h.there;
  }

  holds_gate_set : (G T U : Tensor d) (l : RegisterList d) → HoldsGate r T j o G l
      → HoldsGate r U j o G (set l r (some U))
  holds_gate_set G T U l w = record {
    holding = holds_list_set T U l w.holding;
    gate = get_or-set_other l r 2 (some U) none (λ e. omega arith) ∙ w.gate;
  }

  holds_gate_drop : (G T : Tensor d) (l : RegisterList d) → HoldsGate r T j o G l → HoldsList r T j o (set l 2 none)
  holds_gate_drop G T l w = let h = w.holding in record {
    sixteen = length-set l 2 none ∙ h.sixteen;
    here = get_or-set_other l 2 r none none (λ e. omega arith) ∙ h.here;
    there = get_or-set_other l 2 j none none (λ e. omega arith) ∙ h.there;
  }

  -- each call of a gate

  gate_call_runs : (c : Capacity) (g : Gate) (T : Tensor d) (t : Tally d) → HoldsList r T j o t.registers
      → OneCallRuns c (HoldsGate r T j o (gate_tensor d g)) (answer c (call.Gate 2 g) t)
  unfolding answer
  gate_call_runs c g T t h =
      runs_settle c (HoldsGate r T j o (gate_tensor d g)) 2 (build (gate_tensor d g) t.nodes) t
      (rw (writes_answer (build_writes (gate_tensor d g)) t.nodes)
      (holds_list_gate (gate_tensor d g) T t.registers h))

  cont_call_runs : (c : Capacity) (G T : Tensor d) (m : ℕ) (t : Tally d) → HoldsGate r T j o G t.registers
      → OneCallRuns c (HoldsGate r (sum_over (bits m) (times G T)) j o G) (answer c (call.Cont r 2 r m) t)
  unfolding answer with_register Session.with_tensor
  cont_call_runs c G T m t w =
      rw (w.gate, w.holding.here)
      (runs_settle c (HoldsGate r (sum_over (bits m) (times G T)) j o G) r (cont G T (bits m) t.nodes) t
      (rw (cont_meaning G T (bits m) t.nodes) (holds_gate_set G T (sum_over (bits m) (times G T)) t.registers w)))

  low_call_runs : (c : Capacity) (G T : Tensor d) (k : ℕ) (t : Tally d) → 1 ≤ k → k < d → Free (k - 1) T
      → HoldsGate r T j o G t.registers
      → OneCallRuns c (HoldsGate r (rename_down k T) j o G) (answer c (call.Low r r k) t)
  unfolding answer with_register Session.with_tensor
  low_call_runs c G T k t p q f w =
      rw (w.holding.here, free_depends (k - 1) T f)
      (runs_settle c (HoldsGate r (rename_down k T) j o G) r (low k T t.nodes) t
      (rw (writes_answer (low_writes k p q T f) t.nodes) (holds_gate_set G T (rename_down k T) t.registers w)))

  drop_call_runs : (c : Capacity) (G T : Tensor d) (t : Tally d) → HoldsGate r T j o G t.registers
      → OneCallRuns c (HoldsList r T j o) (answer c (call.Drop 2) t)
  unfolding answer with_register Session.with_tensor accept
  drop_call_runs c G T t w = rw w.gate (on (holds_gate_drop G T t.registers w))

  collect_call_runs : (c : Capacity) (P : RegisterList d → Type 0) (t : Tally d) → P t.registers
      → OneCallRuns c P (answer c call.Collect t)
  unfolding answer accept
  collect_call_runs c P t h = on h

  unit_call_runs : (c : Capacity) (n : ℕ) (t : Tally d) → length t.registers ≡ register_count
      → get_or t.registers j none ≡ o
      → OneCallRuns c (HoldsList r (unit_tensor d n) j o) (answer c (call.Unit r n) t)
  unfolding answer
  unit_call_runs c n t l e =
      runs_settle c (HoldsList r (unit_tensor d n) j o) r (build (unit_tensor d n) t.nodes) t
      (rw (writes_answer (build_writes (unit_tensor d n)) t.nodes)
      (record {
        sixteen = length-set t.registers r (some (unit_tensor d n)) ∙ l;
        here = get_or-set_same t.registers r (some (unit_tensor d n)) none (omega (arith, l));
        there = get_or-set_other t.registers r j (some (unit_tensor d n)) none apart ∙ e;
      }))

  low_calls_run : (c : Capacity) (line least : ℕ) (G T : Tensor d) (qs : List ℕ) (t : Tally d)
      → Rising d least qs → AllFree qs T → HoldsGate r T j o G t.registers
      → AllCallsRun c (HoldsGate r (renamed_tensor qs T) j o G) (perform c (at_line line (low_calls r qs)) t)
  unfolding perform at_line low_calls renamed_tensor
  low_calls_run c line least G T [] t u f w = end w
  low_calls_run c line least G T (q ∷ qs) t u f w =
      let e : 3 * q + 2 - 1 ≡ 3 * q + 1 = omega arith in
      runs_on (HoldsGate r (rename_down (3 * q + 2) T) j o G)
      (HoldsGate r (renamed_tensor qs (rename_down (3 * q + 2) T)) j o G) line
      (perform c (at_line line (low_calls r qs)))
      (low_call_runs c G T (3 * q + 2) t (omega arith) u.1 (rw e f.0) w)
      (λ t w. low_calls_run c line (suc q) G (rename_down (3 * q + 2) T) qs t u.2
      (all_free_renamed (suc q) q qs T u.2 (omega arith) u.1 f.0 f.1) w)

  -- a gate's calls up to its last `low`
  made_runs : (c : Capacity) (line : ℕ) (g : Gate) (T : Tensor d) (t : Tally d) → Rising d 0 (qubits g)
      → HoldsList r T j o t.registers
      → AllCallsRun c (HoldsGate r (applied_tensor g T) j o (gate_tensor d g))
      (perform c (at_line line (call.Gate 2 g ∷ call.Cont r 2 r (middles (qubits g)) ∷ low_calls r (qubits g))) t)
  unfolding perform at_line applied_tensor contracted_tensor
  made_runs c line g T t u h =
      let m = middles (qubits g) in
      let G = gate_tensor d g in
      let Q = HoldsGate r (applied_tensor g T) j o G in
      runs_on (HoldsGate r T j o G) Q line (perform c (at_line line (call.Cont r 2 r m ∷ low_calls r (qubits g))))
      (gate_call_runs c g T t h)
      (λ t w. runs_on (HoldsGate r (contracted_tensor g T) j o G) Q line
      (perform c (at_line line (low_calls r (qubits g)))) (cont_call_runs c G T m t w)
      (λ t w. low_calls_run c line 0 G (contracted_tensor g T) (qubits g) t u
      (all_free 0 (qubits g) (bits m) G T u (middles_set d 0 (qubits g) u)) w))

  dropped_runs : (c : Capacity) (line : ℕ) (G T : Tensor d) (t : Tally d) → HoldsGate r T j o G t.registers
      → AllCallsRun c (HoldsList r T j o) (perform c (at_line line (call.Drop 2 ∷ call.Collect ∷ [])) t)
  unfolding perform at_line
  dropped_runs c line G T t w =
      let Q = HoldsList r T j o in
      runs_on Q Q line (perform c ((line, call.Collect) ∷ [])) (drop_call_runs c G T t w)
      (λ t h. runs_on Q Q line (perform c []) (collect_call_runs c Q t h) (λ t h. end h))

  -- a gate: "into 2, `cont 0 2 0` over the middles of its qubits, `low` of their fresh indices in rising order, `drop
  -- 2`, `collect`"
  gate_runs : (c : Capacity) (line : ℕ) (g : Gate) (T : Tensor d) (t : Tally d) → Rising d 0 (qubits g)
      → HoldsList r T j o t.registers
      → AllCallsRun c (HoldsList r (applied_tensor g T) j o) (perform c (at_line line (gate_calls r g)) t)
  unfolding gate_calls
  gate_runs c line g T t u h =
      let made = call.Gate 2 g ∷ call.Cont r 2 r (middles (qubits g)) ∷ low_calls r (qubits g) in
      let dropped = call.Drop 2 ∷ call.Collect ∷ [] in
      rw (at_line_append line made dropped)
      (runs_append (HoldsGate r (applied_tensor g T) j o (gate_tensor d g)) (HoldsList r (applied_tensor g T) j o)
      (at_line line made) (at_line line dropped) t
      (made_runs c line g T t u h) (λ t w. dropped_runs c line (gate_tensor d g) (applied_tensor g T) t w))

  gates_run : (c : Capacity) (line : ℕ) (gs : List Gate) (T : Tensor d) (t : Tally d) → AllFit d gs
      → HoldsList r T j o t.registers
      → AllCallsRun c (HoldsList r (applied_list gs T) j o) (perform c (gates_calls r line gs) t)
  unfolding gates_calls applied_list perform
  gates_run c line [] T t u h = end h
  gates_run c line (g ∷ gs) T t u h =
      runs_append (HoldsList r (applied_tensor g T) j o) (HoldsList r (applied_list gs (applied_tensor g T)) j o)
      (at_line line (gate_calls r g)) (gates_calls r (line + 1) gs) t (gate_runs c line g T t u.0 h)
      (λ t h. gates_run c (line + 1) gs (applied_tensor g T) t u.1 h)

  -- one list, in register r
  pub list_runs : (c : Capacity) (n line : ℕ) (gs : List Gate) (t : Tally d) → AllFit d gs
      → length t.registers ≡ register_count → get_or t.registers j none ≡ o
      → AllCallsRun c (HoldsList r (applied_list gs (unit_tensor d n)) j o) (perform c (list_calls r n line gs) t)
  unfolding list_calls perform
  list_runs c n line gs t u l e =
      runs_on (HoldsList r (unit_tensor d n) j o) (HoldsList r (applied_list gs (unit_tensor d n)) j o) line
      (perform c (gates_calls r (line + 1) gs)) (unit_call_runs c n t l e)
      (λ t h. gates_run c (line + 1) gs (unit_tensor d n) t u h)
