-- A gate's calls are one step, `apply_step`, and are refused exactly where it does not fit.
use Rattle.std.proofs.Math.Option.{some, none, Option}
use Rattle.std.specs.Prelude.{◌≡◌, Bool, true, cond, List, [], ◌∷◌, ◌++◌, ℕ, ◌-◌, ◌≤◌, suc, ◌+◌, ◌*◌, ◌<◌, set, length}
use Rattle.std.specs.Prelude.{get_or}
use Rattle.std.proofs.Math.Path.{refl}
use Rattle.std.proofs.Common.{sym, ◌∙◌, append_assoc, arith, length-set, leb-false, set-set, get_or-set_same}
use Rattle.std.proofs.Common.{get_or-set_other}
use Rattle.std.proofs.Math.Bool.{false}
use Rattle.std.proofs.lemmas.Bool.{lt-leb}
use Rattle.std.proofs.lemmas.List.{set-get_or, set_comm}
use Rattle.diagram.specs.Tensor.{Tensor, bits}
use Rattle.diagram.specs.Tally.{Set, return, ◌>>=◌, low, cont, build}
use Rattle.diagram.specs.StoreLaws.{prefix_length}
use Rattle.diagram.specs.TopFreeLaws.{free_depends}
use Rattle.diagram.specs.Gate.{gate_tensor}
use Rattle.text.specs.Limits.{register_count}
use Rattle.text.specs.Session.{Tally, Capacity, fits, accept, refuse, settle, at_most, unlimited, answer}
use Rattle.text.specs.Session.{with_tensor}
use Rattle.text.specs.Session.{with_register}
use Rattle.text.specs.Qubits.{Rising, middles, qubits}
use Rattle.text.specs.VerdictSession.{PerformResult, refused_at, continue_with, low_calls, NumberedCall, at_line}
use Rattle.text.specs.VerdictSession.{perform}
use Rattle.text.specs.VerdictSession.{gate_calls, ruling_at_end}
use Rattle.text.specs.Apply.{AllFree, rename_step, drop_collect, contract_step, apply_step}
use Rattle.text.specs.ApplyLaws.{low_free, rename_step_grows, cont_all_free, contract_step_grows}
use Rattle.text.specs.RunsLaws.{at_line_append}
use Rattle.diagram.specs.declared.gate.Gate.{Gate}
use Rattle.text.specs.Ruling.{no_at}
use Rattle.text.specs.declared.check.Fault.TheVariants.{Full}
use Rattle.text.specs.declared.call.Refusal.TheVariants as refusal
use Rattle.text.specs.declared.call.Call.TheVariants as call

-- a call that settles

unfoldable settled_tally : {d : ℕ} → ℕ → Tensor d × Set d → Tally d → Tally d
settled_tally r p t = record { nodes = p.1; registers = set t.registers r (some p.0) }

settle_on : {d : ℕ} (c : Capacity) (line r : ℕ) (p : Tensor d × Set d) (t : Tally d) (f : Tally d → PerformResult d)
    → continue_with line (settle c r p t) f
    ≡ cond (fits c (length p.1)) (f (settled_tally r p t)) (refused_at line refusal.Full)
unfolding settled_tally settle
settle_on c line r p t f = go (fits c (length p.1))
  where
    go : (b : Bool) → continue_with line (cond b (accept (settled_tally r p t)) (refuse refusal.Full t)) f
        ≡ cond b (f (settled_tally r p t)) (refused_at line refusal.Full)
    go true = unfold continue_with accept in refl
    go false = unfold continue_with refuse in refl

fits_less : (c : Capacity) (m n : ℕ) → m ≤ n → fits c m ≡ false → fits c n ≡ false
fits_less (at_most k) m n l e = let h = leb-false m k e in lt-leb n k (omega arith)
fits_less unlimited m n l e = e

-- two such calls are the second, whose set has grown from the first's
settle_then : {d : ℕ} (c : Capacity) (line a r : ℕ) (p q : Tensor d × Set d) (t u : Tally d)
    (f g : Tally d → PerformResult d) → length p.1 ≤ length q.1
    → (fits c (length p.1) ≡ true → f (settled_tally a p t) ≡ continue_with line (settle c r q u) g)
    → continue_with line (settle c a p t) f ≡ continue_with line (settle c r q u) g
settle_then c line a r p q t u f g l h = settle_on c line a p t f ∙ go (fits c (length p.1)) refl
  where
    go : (b : Bool) → fits c (length p.1) ≡ b
        → cond b (f (settled_tally a p t)) (refused_at line refusal.Full) ≡ continue_with line (settle c r q u) g
    go true e = h e
    go false e = sym (settle_on c line r q u g ∙ rw (fits_less c (length p.1) (length q.1) l e))

-- the same register settled twice has what it was settled to last
settle_again : {d : ℕ} (c : Capacity) (line r : ℕ) (p q : Tensor d × Set d) (t : Tally d)
    (f : Tally d → PerformResult d)
    → continue_with line (settle c r q (settled_tally r p t)) f ≡ continue_with line (settle c r q t) f
unfolding settled_tally
settle_again c line r p q t f =
    settle_on c line r q (settled_tally r p t) f ∙ rw set-set (sym (settle_on c line r q t f))

-- the calls `low`

low_calls_perform : {d : ℕ} (c : Capacity) (line r least : ℕ) (qs : List ℕ) (T : Tensor d) (t : Tally d)
    (more : List NumberedCall)
    → Rising d least qs → AllFree qs T → r < length t.registers → get_or t.registers r none ≡ some T
    → fits c (length t.nodes) ≡ true
    → perform c (at_line line (low_calls r qs) ++ more) t
    ≡ continue_with line (settle c r (rename_step qs T t.nodes) t) (perform c more)
unfolding perform at_line low_calls rename_step return ◌>>=◌ answer with_register with_tensor settled_tally
low_calls_perform c line r least [] T t more u f i h e =
    let same : set t.registers r (some T) ≡ t.registers = rw (← h) (set-get_or t.registers r none) in
    sym (settle_on c line r (T, t.nodes) t (perform c more) ∙ rw (e, same))
low_calls_perform c line r least (q ∷ qs) T t more u f i h e =
    let k = 3 * q + 2 in
    let n : k - 1 ≡ 3 * q + 1 = omega arith in
    let p = low k T t.nodes in
    let free = low_free least q qs T u f t.nodes in
    let end = rename_step qs p.0 p.1 in
    rw (h, n, free_depends (3 * q + 1) T f.0)
    (settle_then c line r r p end t t (perform c (at_line line (low_calls r qs) ++ more)) (perform c more)
    (prefix_length (rename_step_grows (suc q) qs p.0 u.2 free p.1))
    (λ e. low_calls_perform c line r (suc q) qs p.0 (settled_tally r p t) more u.2 free (rw length-set i)
    (get_or-set_same t.registers r (some p.0) none i) e
    ∙ settle_again c line r p end t (perform c more)))

-- `drop 2` and `collect`, once register r is settled

abbrev dropped : ℕ → List NumberedCall → List NumberedCall
dropped line more = (line, call.Drop 2) ∷ (line, call.Collect) ∷ more

drop_performs : {d : ℕ} (c : Capacity) (line : ℕ) (A : Tensor d) (t : Tally d) (more : List NumberedCall)
    → get_or t.registers 2 none ≡ some A
    → perform c (dropped line more) t ≡ perform c more (drop_collect t)
unfolding perform continue_with answer with_register with_tensor accept drop_collect
drop_performs c line A t more h = rw h

settle_drop : {d : ℕ} (c : Capacity) (line r : ℕ) (A : Tensor d) (p : Tensor d × Set d) (t : Tally d)
    (more : List NumberedCall)
    → r < 2 → get_or t.registers 2 none ≡ some A
    → continue_with line (settle c r p t) (perform c (dropped line more))
    ≡ continue_with line (settle c r p t) (λ t. perform c more (drop_collect t))
unfolding settled_tally
settle_drop c line r A p t more small h =
    let kept = get_or-set_other t.registers r 2 (some p.0) none (λ e. omega arith) ∙ h in
    settle_on c line r p t _
    ∙ rw (drop_performs c line A (settled_tally r p t) more kept) (sym (settle_on c line r p t _))

-- it does not matter then what 2 was settled to
drop_collect_settled : {d : ℕ} (c : Capacity) (line r : ℕ) (p q : Tensor d × Set d) (t : Tally d)
    (more : List NumberedCall)
    → r < 2
    → continue_with line (settle c r q (settled_tally 2 p t)) (λ t. perform c more (drop_collect t))
    ≡ continue_with line (settle c r q t) (λ t. perform c more (drop_collect t))
unfolding settled_tally drop_collect
drop_collect_settled c line r p q t more small =
    let A = some p.0 in
    let U = some q.0 in
    let e : set (set (set t.registers 2 A) r U) 2 none ≡ set (set t.registers r U) 2 none =
    rw (set_comm t.registers 2 r A U (λ e. omega arith)) (set-set (set t.registers r U) 2 A none) in
    settle_on c line r q (settled_tally 2 p t) _ ∙ rw e (sym (settle_on c line r q t _))

-- the calls after `gate`, whose tensor is A

contract_step_performs : {d : ℕ} (c : Capacity) (line r : ℕ) (qs : List ℕ) (T A : Tensor d) (t : Tally d)
    (more : List NumberedCall)
    → r < 2 → length t.registers ≡ register_count → get_or t.registers r none ≡ some T
    → get_or t.registers 2 none ≡ some A → Rising d 0 qs
    → perform c ((line, call.Cont r 2 r (middles qs)) ∷ (at_line line (low_calls r qs) ++ dropped line more)) t
    ≡ continue_with line (settle c r (contract_step qs T A t.nodes) t) (λ t. perform c more (drop_collect t))
unfolding perform answer with_register with_tensor contract_step ◌>>=◌ settled_tally
contract_step_performs c line r qs T A t more small sixteen holds gate u =
    let p = cont A T (bits (middles qs)) t.nodes in
    let end = rename_step qs p.0 p.1 in
    let free = cont_all_free qs A T t.nodes u in
    let rest = dropped line more in
    let inside : r < length t.registers = omega arith in
    rw (gate, holds)
    (settle_then c line r r p end t t (perform c (at_line line (low_calls r qs) ++ rest))
    (λ t. perform c more (drop_collect t)) (prefix_length (rename_step_grows 0 qs p.0 u free p.1))
    (λ e. low_calls_perform c line r 0 qs p.0 (settled_tally r p t) rest u free (rw length-set inside)
    (get_or-set_same t.registers r (some p.0) none inside) e
    ∙ settle_again c line r p end t (perform c rest)
    ∙ settle_drop c line r A end t more small gate))

gate_calls_lem : (line r : ℕ) (g : Gate) (more : List NumberedCall) → at_line line (gate_calls r g) ++ more
    ≡ (line, call.Gate 2 g) ∷ (line, call.Cont r 2 r (middles (qubits g)))
    ∷ (at_line line (low_calls r (qubits g)) ++ dropped line more)
unfolding gate_calls at_line
gate_calls_lem line r g more = rw (at_line_append line (low_calls r (qubits g)), append_assoc)

-- where the list's register holds T
pub gate_performs : {d : ℕ} (c : Capacity) (line r : ℕ) (g : Gate) (T : Tensor d) (t : Tally d)
    (more : List NumberedCall)
    → r < 2 → length t.registers ≡ register_count → get_or t.registers r none ≡ some T → Rising d 0 (qubits g)
    → perform c (at_line line (gate_calls r g) ++ more) t
    ≡ continue_with line (settle c r (apply_step g T t.nodes) t) (λ t. perform c more (drop_collect t))
unfolding perform answer apply_step ◌>>=◌ settled_tally
gate_performs {d} c line r g T t more small sixteen holds rising =
    let p = build (gate_tensor d g) t.nodes in
    let end = contract_step (qubits g) T p.0 p.1 in
    let l = t.registers in
    let A = some p.0 in
    rw (gate_calls_lem line r g more)
    (settle_then c line 2 r p end t t _ (λ t. perform c more (drop_collect t))
    (prefix_length (contract_step_grows (qubits g) T p.0 rising p.1))
    (λ e. contract_step_performs c line r (qubits g) T p.0 (settled_tally 2 p t) more small (length-set l 2 A
    ∙ sixteen)
    (get_or-set_other l 2 r A none (λ e. omega arith) ∙ holds) (get_or-set_same l 2 A none (omega arith)) rising
    ∙ drop_collect_settled c line r p end t more small))

-- where it is empty, the gate is refused

cont_empty : {d : ℕ} (c : Capacity) (line r m : ℕ) (t : Tally d) (more : List NumberedCall)
    → get_or t.registers r none ≡ none
    → ruling_at_end c (perform c ((line, call.Cont r 2 r m) ∷ more) t) ≡ no_at Full line
unfolding perform answer with_register with_tensor
cont_empty {d} c line r m t more h = rw h (go (get_or t.registers 2 none))
  where
    go : (o : Option (Tensor d))
        → ruling_at_end c (continue_with line (with_tensor o t (λ A. refuse refusal.Empty t)) (perform c more))
        ≡ no_at Full line
    go none = unfold refuse continue_with ruling_at_end in refl
    go (some A) = unfold refuse continue_with ruling_at_end in refl

ruling_settle : {d : ℕ} (c : Capacity) (line r : ℕ) (p : Tensor d × Set d) (t : Tally d) (f : Tally d → PerformResult d)
    → ruling_at_end c (f (settled_tally r p t)) ≡ no_at Full line
    → ruling_at_end c (continue_with line (settle c r p t) f) ≡ no_at Full line
ruling_settle c line r p t f h = rw (settle_on c line r p t f) (go (fits c (length p.1)))
  where
    go : (b : Bool)
        → ruling_at_end c (cond b (f (settled_tally r p t)) (refused_at line refusal.Full)) ≡ no_at Full line
    go true = h
    go false = unfold ruling_at_end in refl

pub gate_empty : {d : ℕ} (c : Capacity) (line r : ℕ) (g : Gate) (t : Tally d) (more : List NumberedCall)
    → r < 2 → get_or t.registers r none ≡ none
    → ruling_at_end c (perform c (at_line line (gate_calls r g) ++ more) t) ≡ no_at Full line
unfolding perform answer settled_tally
gate_empty {d} c line r g t more small empty =
    let p = build (gate_tensor d g) t.nodes in
    let rest = at_line line (low_calls r (qubits g)) ++ dropped line more in
    let still = get_or-set_other t.registers 2 r (some p.0) none (λ e. omega arith) ∙ empty in
    rw (gate_calls_lem line r g more) (ruling_settle c line 2 p t _
    (cont_empty c line r (middles (qubits g)) (settled_tally 2 p t) rest still))
