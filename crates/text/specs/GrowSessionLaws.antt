-- Laws of GrowSession: with more indices a session and a verdict are the same.
use Rattle.std.specs.Prelude.{◌≡◌, false, true, Bool, cond, leb, length, get_or, Result, Ok, Err}
use Rattle.std.proofs.Math.Path.{refl, ap}
use Rattle.std.proofs.Common.{sym, ◌∙◌, arith, leb-true, ltb-true}
use mathlib.Core.List.{List, [], ◌∷◌}
use Rattle.std.proofs.Math.Option.{Option, none, some}
use Prim.Native.Nat.{ℕ, zero, suc, ◌-◌, ◌^◌, ◌<◌, ◌+◌, ◌*◌, min, max}
use Rattle.std.proofs.Math.ListN.{set}
use Rattle.diagram.specs.Tensor.{bits, Tensor, constant, depends}
use Rattle.diagram.specs.TallyGrowLaws.{length_grow, sum_grow, cont_grow, build_grow, low_grow}
use Rattle.diagram.specs.TallyGrowLaws.{grows_answer, collect_grow}
use Rattle.diagram.specs.Lows.{lows, clash}
use Rattle.diagram.specs.TallyLowsGrowLaws.{lows_grow, clash_grow}
use Rattle.diagram.specs.Gate.{shape, gate_tensor, unit_tensor, ShapeBelow, GateBelow}
use Rattle.diagram.specs.TestLaws.{and_left, and_right}
use Rattle.diagram.specs.Weights.{Weight, to_weight}
use Rattle.diagram.specs.Tally.{Step, sum, cont, low, build, collect, filled_tensors, return}
use Rattle.diagram.specs.Grow.{deeper, grow, MembersBelow, grow_all, StepGrows}
use Rattle.diagram.specs.GrowLaws.{grow_constant, grow_depends, grow_value, grow_support, gate_grow, unit_grow}
use Rattle.diagram.specs.MaskBitsLaws.{bits_above}
use Rattle.diagram.specs.CompareLaws.{grow_compared}
use Rattle.text.specs.Text.{lines}
use Rattle.text.specs.Limits.{answer_room}
use Rattle.text.specs.Line.{read_line}
use Rattle.text.specs.Session.{Capacity, fits, Tally, TallyReply, node_count, answer, answer_read, accept}
use Rattle.text.specs.Session.{refuse}
use Rattle.text.specs.Session.{settle, with_tensor, with_register, TallyRun, with_answer, stopped_run, run}
use Rattle.text.specs.Session.{empty_tally, empty_run, session}
use Rattle.text.specs.Check.{Reading, lists, fault, read_text}
use Rattle.text.specs.Qubits.{qubits_on, qubits}
use Rattle.text.specs.VerdictSession.{NumberedCall, PerformResult, continue_with, perform, refused_at, ended_with}
use Rattle.text.specs.VerdictSession.{comparison_of, ruling_at_end, session_calls, ruling_of_reading, ruling_on}
use Rattle.text.specs.VerdictSession.{verdict_result}
use Rattle.text.specs.GrowSession.{qubits_below, touches, read_touches, all_touch, lines_touch, grow_register}
use Rattle.text.specs.GrowSession.{grow_registers}
use Rattle.text.specs.GrowSession.{grow_tally, grow_reply, grow_result, grow_run, reading_touches}
use Rattle.diagram.specs.declared.gate.Gate.{Gate}
use Rattle.diagram.specs.declared.gate.Shape.{Shape}
use Rattle.diagram.specs.declared.gate.Shape.TheVariants.{One, Two}
use Rattle.text.specs.declared.call.Refusal.TheVariants.{Full, Depends}
use Rattle.text.specs.declared.call.Refusal.{Refusal}
use Rattle.text.specs.declared.call.Call.{Call}
use Rattle.text.specs.declared.answer.Answer.TheVariants as answers
use Rattle.text.specs.declared.call.Call.TheVariants as call

-- a gate whose qubits are below fits

gate_fits : (d : ℕ) (g : Gate) → qubits_below d (qubits g) ≡ true → GateBelow d g
unfolding qubits_below
gate_fits d g e = on (shape g) e
  where
    on : (x : Shape) → qubits_below d (qubits_on x) ≡ true → ShapeBelow d x
    on (One q) e = let p = leb-true (3 * q + 3) d (and_left _ _ e) in omega arith
    on (Two a b) e =
        let p = leb-true (3 * min a b + 3) d (and_left _ _ e) in
        let q = leb-true (3 * max a b + 3) d (and_left _ _ (and_right (leb (3 * min a b + 3) d) _ e)) in
        (omega arith, omega arith)

module _ {d : ℕ} (m : ℕ) where
  grow_get : (l : List (Option (Tensor d))) (a : ℕ)
      → get_or (grow_registers m l) a none ≡ grow_register m (get_or l a none)
  unfolding grow_registers grow_register
  grow_get [] a = refl
  grow_get (o ∷ l) zero = refl
  grow_get (o ∷ l) (suc a) = grow_get l a

  grow_set : (l : List (Option (Tensor d))) (r : ℕ) (o : Option (Tensor d))
      → set (grow_registers m l) r (grow_register m o) ≡ grow_registers m (set l r o)
  unfolding grow_registers
  grow_set [] r o = refl
  grow_set (x ∷ l) zero o = refl
  grow_set (x ∷ l) (suc r) o = ap (λ l. grow_register m x ∷ l) (grow_set l r o)

  grow_filled : (l : List (Option (Tensor d))) → filled_tensors (grow_registers m l) ≡ grow_all m (filled_tensors l)
  unfolding filled_tensors grow_registers grow_register grow_all
  grow_filled [] = refl
  grow_filled (none ∷ l) = grow_filled l
  grow_filled (some T ∷ l) = ap (λ l. grow m T ∷ l) (grow_filled l)

  -- calls, piece by piece

  grow_accept : (t : Tally d) → accept (grow_tally m t) ≡ grow_reply m (accept t)
  unfolding accept node_count grow_tally
  grow_accept t = rw (length_grow m t.nodes)

  grow_refuse : (r : Refusal) (t : Tally d) → refuse r (grow_tally m t) ≡ grow_reply m (refuse r t)
  unfolding refuse
  grow_refuse r t = refl

  cond_grow : (b : Bool) (x y : TallyReply d) → cond b (grow_reply m x) (grow_reply m y) ≡ grow_reply m (cond b x y)
  cond_grow true x y = refl
  cond_grow false x y = refl

  grow_settle : (c : Capacity) (r : ℕ) (f : Step d) (g : Step (deeper d m)) (t : Tally d) → StepGrows m f g
      → settle c r (g (grow_all m t.nodes)) (grow_tally m t) ≡ grow_reply m (settle c r (f t.nodes) t)
  unfolding settle accept node_count refuse grow_tally grow_register
  grow_settle c r f g t h =
      let T = (f t.nodes).0 in
      let s = (f t.nodes).1 in
      rw (h.is t.nodes, length_grow m s, grow_set t.registers r (some T))
      (cond_grow (fits c (length s)) (
        Ok (answers.Done (length s)),
        record { nodes = s; registers = set t.registers r (some T) },
      ) (Err Full, t))

  grow_with_tensor : (o : Option (Tensor d)) (t : Tally d) (F : Tensor d → TallyReply d)
      (G : Tensor (deeper d m) → TallyReply (deeper d m))
      → ((T : Tensor d) → G (grow m T) ≡ grow_reply m (F T))
      → with_tensor (grow_register m o) (grow_tally m t) G ≡ grow_reply m (with_tensor o t F)
  unfolding with_tensor grow_register refuse
  grow_with_tensor none t F G h = refl
  grow_with_tensor (some T) t F G h = h T

  grow_register_lem : (t : Tally d) (a : ℕ) (F : Tensor d → TallyReply d)
      (G : Tensor (deeper d m) → TallyReply (deeper d m))
      → ((T : Tensor d) → G (grow m T) ≡ grow_reply m (F T))
      → with_register (grow_tally m t) a G ≡ grow_reply m (with_register t a F)
  unfolding with_register grow_tally
  grow_register_lem t a F G h = rw (grow_get t.registers a) (grow_with_tensor (get_or t.registers a none) t F G h)

  -- each call

  grow_put : (c : Capacity) (r w : ℕ) (t : Tally d)
      → answer c (call.Put r w) (grow_tally m t) ≡ grow_reply m (answer c (call.Put r w) t)
  unfolding answer return grow_tally
  grow_put c r w t =
      grow_settle c r (return (constant d (to_weight w))) (return (constant (deeper d m) (to_weight w))) t
      (grows_answer m _ _ (sym (grow_constant m d (to_weight w))))

  grow_build : (c : Capacity) (r : ℕ) (T : Tensor d) (U : Tensor (deeper d m)) (t : Tally d) → U ≡ grow m T
      → settle c r (build U (grow_all m t.nodes)) (grow_tally m t) ≡ grow_reply m (settle c r (build T t.nodes) t)
  grow_build c r T U t e = rw e (grow_settle c r (build T) (build (grow m T)) t (build_grow m T))

  grow_add : (c : Capacity) (r a b : ℕ) (t : Tally d)
      → answer c (call.Add r a b) (grow_tally m t) ≡ grow_reply m (answer c (call.Add r a b) t)
  unfolding answer grow_tally
  grow_add c r a b t =
      grow_register_lem t a _ _ (λ A. grow_register_lem t b _ _
      (λ B. grow_settle c r (sum A B) (sum (grow m A) (grow m B)) t (sum_grow m A B)))

  grow_cont : (c : Capacity) (r a b x : ℕ) (t : Tally d) → MembersBelow d (bits x)
      → answer c (call.Cont r a b x) (grow_tally m t) ≡ grow_reply m (answer c (call.Cont r a b x) t)
  unfolding answer grow_tally
  grow_cont c r a b x t h =
      grow_register_lem t a _ _
      (λ A. grow_register_lem t b _ _
      (λ B. grow_settle c r (cont A B (bits x)) (cont (grow m A) (grow m B) (bits x)) t (cont_grow m A B (bits x) h)))

  -- a step that is not done where the test says 7
  grow_unless : (c : Capacity) (b : Bool) (r : ℕ) (f : Step d) (g : Step (deeper d m)) (t : Tally d) → StepGrows m f g
      → cond b (refuse Depends (grow_tally m t)) (settle c r (g (grow_all m t.nodes)) (grow_tally m t))
      ≡ grow_reply m (cond b (refuse Depends t) (settle c r (f t.nodes) t))
  grow_unless c true r f g t h = grow_refuse Depends t
  grow_unless c false r f g t h = grow_settle c r f g t h

  grow_low : (c : Capacity) (r a k : ℕ) (t : Tally d) → k < d
      → answer c (call.Low r a k) (grow_tally m t) ≡ grow_reply m (answer c (call.Low r a k) t)
  unfolding answer grow_tally
  grow_low c r a k t p =
      grow_register_lem t a _ _
      (λ A. rw (grow_depends m (k - 1) A) (grow_unless c (depends (k - 1) A) r (low k A) (low k (grow m A)) t
      (low_grow m k p A)))

  grow_lows : (c : Capacity) (r a x : ℕ) (t : Tally d) → MembersBelow d (bits x)
      → answer c (call.Lows r a x) (grow_tally m t) ≡ grow_reply m (answer c (call.Lows r a x) t)
  unfolding answer grow_tally
  grow_lows c r a x t h =
      grow_register_lem t a _ _
      (λ A. rw (clash_grow m (bits x) A h) (grow_unless c (clash (bits x) A) r (lows (bits x) A)
      (lows (bits x) (grow m A)) t (lows_grow m (bits x) A)))

  grow_drop : (c : Capacity) (a : ℕ) (t : Tally d)
      → answer c (call.Drop a) (grow_tally m t) ≡ grow_reply m (answer c (call.Drop a) t)
  unfolding answer grow_tally grow_register
  grow_drop c a t =
      grow_register_lem t a _ _
      (λ A. rw (grow_set t.registers a none) (grow_accept
      (record { nodes = t.nodes; registers = set t.registers a none })))

  grow_collect : (c : Capacity) (t : Tally d)
      → answer c call.Collect (grow_tally m t) ≡ grow_reply m (answer c call.Collect t)
  unfolding answer grow_tally
  grow_collect c t =
      rw (grow_filled t.registers, collect_grow m (filled_tensors t.registers) t.nodes)
      (grow_accept (record { nodes = collect (filled_tensors t.registers) t.nodes; registers = t.registers }))

  grow_at : (c : Capacity) (a v : ℕ) (t : Tally d)
      → answer c (call.At a v) (grow_tally m t) ≡ grow_reply m (answer c (call.At a v) t)
  unfolding answer
  grow_at c a v t =
      grow_register_lem t a _ _
      (λ A. ap (λ (w : Weight). (Ok (answers.Value w.number), grow_tally m t)) (grow_value m A v))

  grow_cmp : (c : Capacity) (a b : ℕ) (t : Tally d)
      → answer c (call.Cmp a b) (grow_tally m t) ≡ grow_reply m (answer c (call.Cmp a b) t)
  unfolding answer
  grow_cmp c a b t =
      grow_register_lem t a _ _ (λ A. grow_register_lem t b _ _
      (λ B. ap (λ x. (Ok (answers.Compared x), grow_tally m t)) (grow_compared m A B)))

  grow_on : (c : Capacity) (a : ℕ) (t : Tally d)
      → answer c (call.On a) (grow_tally m t) ≡ grow_reply m (answer c (call.On a) t)
  unfolding answer
  grow_on c a t = grow_register_lem t a _ _ (λ A. ap (λ x. (Ok (answers.Mask x), grow_tally m t)) (grow_support m A))

  grow_answer : (c : Capacity) (x : Call) (t : Tally d) → touches d x ≡ true
      → answer c x (grow_tally m t) ≡ grow_reply m (answer c x t)
  unfolding touches
  grow_answer c (call.Put r w) t e = grow_put c r w t
  grow_answer c (call.Gate r g) t e =
      unfold answer grow_tally in grow_build c r (gate_tensor d g) (gate_tensor (deeper d m) g) t
      (gate_grow m d g (gate_fits d g e))
  grow_answer c (call.Unit r n) t e =
      unfold answer grow_tally in grow_build c r (unit_tensor d n) (unit_tensor (deeper d m) n) t
      (unit_grow m d n (leb-true (3 * n) d e))
  grow_answer c (call.Add r a b) t e = grow_add c r a b t
  grow_answer c (call.Cont r a b x) t e = grow_cont c r a b x t (λ j q. bits_above d x j (ltb-true x (2 ^ d) e) q)
  grow_answer c (call.Low r a k) t e = grow_low c r a k t (ltb-true k d e)
  grow_answer c (call.Drop a) t e = grow_drop c a t
  grow_answer c call.Collect t e = grow_collect c t
  grow_answer c (call.At a v) t e = grow_at c a v t
  grow_answer c (call.Cmp a b) t e = grow_cmp c a b t
  grow_answer c (call.On a) t e = grow_on c a t
  grow_answer c (call.Lows r a x) t e = grow_lows c r a x t (λ j q. bits_above d x j (ltb-true x (2 ^ d) e) q)

  grow_read : (c : Capacity) (x : Result Call Refusal) (t : Tally d) → read_touches d x ≡ true
      → answer_read c x (grow_tally m t) ≡ grow_reply m (answer_read c x t)
  grow_read c (Ok x) t e = grow_answer c x t e
  grow_read c (Err r) t e = grow_refuse r t

  -- calls and lines, one after another

  grow_continue : (line : ℕ) (x : TallyReply d) (f : Tally d → PerformResult d)
      (g : Tally (deeper d m) → PerformResult (deeper d m))
      → ((t : Tally d) → g (grow_tally m t) ≡ grow_result m (f t))
      → continue_with line (grow_reply m x) g ≡ grow_result m (continue_with line x f)
  unfolding continue_with
  grow_continue line (Ok a, t) f g h = h t
  grow_continue line (Err r, t) f g h = refl

  grow_perform : (c : Capacity) (xs : List NumberedCall) (t : Tally d) → all_touch d xs ≡ true
      → perform c xs (grow_tally m t) ≡ grow_result m (perform c xs t)
  unfolding perform all_touch
  grow_perform c [] t e = refl
  grow_perform c ((line, x) ∷ xs) t e =
      rw (grow_answer c x t (and_left _ _ e))
      (grow_continue line (answer c x t) (perform c xs) (perform c xs)
      (λ t. grow_perform c xs t (and_right (touches d x) (all_touch d xs) e)))

  grow_stopped : (r : TallyRun d) → stopped_run (grow_run m r) ≡ grow_run m (stopped_run r)
  unfolding stopped_run grow_run
  grow_stopped r = refl

  grow_cond : (b : Bool) (x y : TallyRun d) (x' y' : TallyRun (deeper d m)) → x' ≡ grow_run m x → y' ≡ grow_run m y
      → cond b x' y' ≡ grow_run m (cond b x y)
  grow_cond true x y x' y' p q = p
  grow_cond false x y x' y' p q = q

  grow_line : (c : Capacity) (x : Result Call Refusal) (r : TallyRun d) → read_touches d x ≡ true
      → with_answer (grow_run m r) (answer_read c x (grow_run m r).tally)
      ≡ grow_run m (with_answer r (answer_read c x r.tally))
  unfolding grow_run with_answer
  grow_line c x r e = rw (grow_read c x r.tally e)

  grow_run_lem : (c : Capacity) (room : ℕ) (ls : List (List ℕ)) (r : TallyRun d) → lines_touch d ls ≡ true
      → run c room ls (grow_run m r) ≡ grow_run m (run c room ls r)
  unfolding run lines_touch grow_run
  grow_run_lem c room [] r e = refl
  grow_run_lem c room (line ∷ ls) r e =
      let next = with_answer r (answer_read c (read_line line) r.tally) in
      grow_cond (leb (length r.output + answer_room) room) (run c room ls next) (stopped_run r) _ _
      (ap (run c room ls) (grow_line c (read_line line) r (and_left _ _ e))
      ∙ grow_run_lem c room ls next (and_right (read_touches d (read_line line)) (lines_touch d ls) e))
      (grow_stopped r)

grow_start : (d m : ℕ) → grow_tally {d = d} m empty_tally ≡ empty_tally
unfolding grow_tally empty_tally grow_registers grow_register grow_all
grow_start d m = refl

-- With more indices a session that touches only the lowest prints the same bytes, answers the same lines and ends with
-- the same code.
pub session_grows : (d m : ℕ) (c : Capacity) (room : ℕ) (text : List ℕ) → lines_touch d (lines text) ≡ true
    → session (deeper d m) c room text ≡ grow_run m (session d c room text)
unfolding session empty_run grow_run
session_grows d m c room text e =
    rw (← grow_start d m) (grow_run_lem m c room (lines text)
    (record { code = 0; answered = 0; output = []; tally = empty_tally }) e)

ruling_grows : {d : ℕ} (m : ℕ) (c : Capacity) (x : PerformResult d)
    → ruling_at_end c (grow_result m x) ≡ ruling_at_end c x
unfolding ruling_at_end touches
ruling_grows m c (refused_at line r) = refl
ruling_grows m c (ended_with t) =
    ap (λ (y : TallyReply _). Ok (comparison_of y.0)) (grow_answer m c (call.Cmp 0 1) t refl)

ruling_of_reading_grows : (d m : ℕ) (c : Capacity) (r : Reading) → reading_touches d r ≡ true
    → ruling_of_reading (deeper d m) c r ≡ ruling_of_reading d c r
unfolding ruling_of_reading reading_touches
ruling_of_reading_grows d m c (fault f line) e = refl
ruling_of_reading_grows d m c (lists n gs hs) e =
    rw (← grow_start d m, grow_perform m c (session_calls n gs hs) empty_tally e)
    (ruling_grows m c (perform c (session_calls n gs hs) empty_tally))

-- With more indices a verdict whose session touches only the lowest is the same.
pub verdict_result_grows : (d m : ℕ) (c : Capacity) (room : ℕ) (text : List ℕ)
    → reading_touches d (read_text text) ≡ true
    → verdict_result (deeper d m) c room text ≡ verdict_result d c room text
unfolding verdict_result ruling_on
verdict_result_grows d m c room text e = rw (ruling_of_reading_grows d m c (read_text text) e)
