-- Laws of Perform: one call, and a gate.
use Rattle.std.specs.Prelude.{Some, ◌++◌, Result, Ok, Err, is_err}
use Rattle.std.specs.Prelude.{◌≡◌, refl, cond, true, Bool, false, List, [], ◌∷◌, ℕ, ◌<◌, set}
use Rattle.std.proofs.Common.{◌∙◌, arith}
use Rattle.std.proofs.Math.Path.{ap}
use Rattle.std.proofs.Math.ListN.{length}
use Rattle.diagram.specs.Tensor.{indices, indices_count}
use Rattle.diagram.specs.Node.{capacity}
use Rattle.diagram.specs.InvariantLaws.{invariant_collect, holds_read}
use Rattle.diagram.specs.Store.{set_of, tensor_of}
use Rattle.diagram.specs.Registers.{empty_register, holds, GetEnsures}
use Rattle.diagram.specs.RegistersLaws.{holds_set, holds_length}
use Rattle.diagram.specs.Collect.{CollectEnsures}
use Rattle.text.specs.Limits.{most_qubits, register_count}
use Rattle.text.specs.Names.{Placed}
use Rattle.text.specs.Ruling.{no_at}
use Rattle.text.specs.Session.{Capacity, Tally, at_most}
use Rattle.text.specs.VerdictSession.{PerformResult, continue_with, ruling_at_end, at_line, perform, gate_calls}
use Rattle.text.specs.VerdictSession.{NumberedCall}
use Rattle.text.specs.Engine.{Reply, EngineInvariant, tally_of, SetsRegister}
use Rattle.text.specs.declared.engine.Contents.{Contents}
use Rattle.text.specs.Respond.{RespondEnsures}
use Rattle.text.specs.Apply.{drop_collect, apply_step}
use Rattle.text.specs.Perform.{PerformState, ruling_from, PerformsCalls, DropCollectEnsures}
use Rattle.text.specs.QubitsLaws.{gate_rising}
use Rattle.text.specs.ApplyCallsLaws.{gate_performs, gate_empty}
use Rattle.text.specs.declared.answer.Answer.{Answer}
use Rattle.text.specs.declared.call.Refusal.{Refusal}
use Rattle.text.specs.declared.check.Fault.TheVariants.{Full}
use Rattle.text.specs.declared.call.Call.{Call}
use Rattle.diagram.specs.declared.make.State.{State}
use Rattle.diagram.specs.declared.registers.Registers.{Registers}
use Rattle.diagram.specs.declared.node.Edge.{Edge}
use Rattle.diagram.specs.declared.gate.Gate.{Gate}

ruling_continue : (c : Capacity) (line : ℕ) (a : Result Answer Refusal) (t : Tally indices)
    (f : Tally indices → PerformResult indices)
    → ruling_at_end c (continue_with line (a, t) f) ≡ cond (is_err a) (no_at Full line) (ruling_at_end c (f t))
unfolding continue_with ruling_at_end
ruling_continue c line (Ok a) t f = refl
ruling_continue c line (Err r) t f = refl

-- where a call was refused, those after it are not run

pub performs_refused : {c s : List ℕ} {a : PerformState} {xs : List Call} → EngineInvariant c s a.engine
    → a.refused ≡ true
    → PerformsCalls s c s a xs a
unfolding ruling_from
performs_refused p q = record { invariant = p; is = λ line more. rw q }

-- one call

pub performs_call : {s c' s' : List ℕ} {e : Contents} {x : Call} {y : Reply} {b : Bool}
    → RespondEnsures c' s s' e x y → b ≡ is_err y.answer
    → PerformsCalls s c' s' (record { refused = false; engine = e }) (x ∷ [])
    (record { refused = b; engine = y.engine })
unfolding ruling_from at_line perform
performs_call {s} {c'} {s'} {e} {x} {y} w n = record {
  invariant = w.invariant;
  is =
      λ line more. rw (w.is, n) (ruling_continue (at_most (capacity s)) line y.answer (tally_of s' y.engine)
      (perform (at_most (capacity s)) more));
}

pub drop_collect_ensures : {s c' s' : List ℕ} {e : Contents} {rs rs' : Registers} {st : State}
    → rs.all ≡ set e.registers.all 2 empty_register
    → CollectEnsures c' s s' e.state st rs.all rs'.all
    → DropCollectEnsures s c' s' e (record { state = st; registers = rs' })
unfolding tally_of drop_collect holds
drop_collect_ensures {s} {e = e} q w = record {
  invariant = invariant_collect w;
  is = rw (w.same, w.set, q, holds_set (set_of s e.state) e.registers.all 2 empty_register);
}

-- a gate

module _ {c s : List ℕ} {e : Contents} {r : ℕ} (g : Gate) (w : EngineInvariant c s e) (small : r < 2) where
  pub performs_empty : GetEnsures e.registers.all r empty_register
      → PerformsCalls s c s (record { refused = false; engine = e }) (gate_calls r g)
      (record { refused = true; engine = e })
  unfolding ruling_from tally_of holds
  performs_empty i = record {
    invariant = w;
    is = λ line more.
        gate_empty (at_most (capacity s)) line r g (tally_of s e) more small
        (holds_read (set_of s e.state) i);
  }

  module _ {x : Edge} {c₁ s₁ : List ℕ} {y : Reply} (p : Placed most_qubits g)
      (i : GetEnsures e.registers.all r (Some x))
      (v : SetsRegister c₁ s s₁ e r (apply_step g (tensor_of s e.state x)) y) where
    sixteen : length (tally_of s e).registers ≡ register_count
    unfolding tally_of
    sixteen = holds_length (set_of s e.state) e.registers.all ∙ w.registers.sixteen

    after : (line : ℕ) (more : List NumberedCall)
        → ruling_from (at_most (capacity s)) line (at_line line (gate_calls r g) ++ more) s
        (record { refused = false; engine = e })
        ≡ cond (is_err y.answer) (no_at Full line) (ruling_at_end (at_most (capacity s))
        (perform (at_most (capacity s)) more (drop_collect (tally_of s₁ y.engine))))
    unfolding ruling_from tally_of tensor_of holds
    after line more =
        ap (ruling_at_end (at_most (capacity s)))
        (gate_performs (at_most (capacity s)) line r g (tensor_of s e.state x) (tally_of s e) more
        small
        sixteen
        (holds_read (set_of s e.state) i) (gate_rising indices most_qubits g (omega (arith, indices_count)) p)
        ∙ ap (λ y. continue_with line y (λ t. perform (at_most (capacity s)) more (drop_collect t))) v.is)
        ∙ ruling_continue (at_most (capacity s)) line y.answer (tally_of s₁ y.engine)
        (λ t. perform (at_most (capacity s)) more (drop_collect t))

    -- its step was refused
    pub performs_gate_refused : is_err y.answer ≡ true
        → PerformsCalls s c₁ s₁ (record { refused = false; engine = e }) (gate_calls r g)
        (record { refused = true; engine = y.engine })
    unfolding ruling_from
    performs_gate_refused m = record { invariant = v.invariant; is = λ line more. after line more ∙ rw m refl }

    -- its step was done, and `drop 2` and `collect` after it
    pub performs_gate : {c' s' : List ℕ} {z : Contents} → is_err y.answer ≡ false
        → DropCollectEnsures s₁ c' s' y.engine z
        → PerformsCalls s c' s' (record { refused = false; engine = e }) (gate_calls r g)
        (record { refused = false; engine = z })
    unfolding ruling_from
    performs_gate m f = record { invariant = f.invariant; is = λ line more. after line more ∙ rw (m, ← f.is) refl }
