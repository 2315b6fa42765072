-- Laws of Respond: the operands, and the refusals in order.
use Rattle.std.specs.Prelude.{◌≡◌, ◌≢◌, Bool, cond, ◌-◌, ℕ, ◌<◌, set, Result, Some}
use Rattle.std.specs.Prelude.{Ok, Err}
use Rattle.std.proofs.Common.{subst, ◌∙◌, arith}
use Rattle.std.proofs.Math.Path.{sym, ap, refl}
use mathlib.Core.List.{List}
use Rattle.std.proofs.lemmas.Bool.{false≢true}
use Rattle.diagram.specs.InvariantLaws.{holds_read, read_valid, invariant_clear, invariant_collect}
use Rattle.diagram.specs.Tensor.{Tensor, indices, bits, constant, depends, value, masks}
use Rattle.diagram.specs.Meaning.{Valid}
use Rattle.diagram.specs.Store.{set_of, tensor_of}
use Rattle.diagram.specs.StoreLaws.{set_length}
use Rattle.diagram.specs.Registers.{Register, GetEnsures, RegistersValid, empty_register, holds}
use Rattle.diagram.specs.RegistersLaws.{holds_set}
use Rattle.diagram.specs.Node.{capacity}
use Rattle.diagram.specs.Weights.{to_weight, Represents, modulus}
use Rattle.diagram.specs.WeightsLaws.{represents_number}
use Rattle.diagram.specs.Tally.{Step, return, sum, cont, low, build}
use Rattle.diagram.specs.Lows.{lows, clash}
use Rattle.diagram.specs.Gate.{gate_tensor, unit_tensor}
use Rattle.diagram.specs.Compare.{ComparisonMeans, compared, CompareEnsures}
use Rattle.diagram.specs.CompareLaws.{compared_means}
use Rattle.diagram.specs.Collect.{CollectEnsures}
use Rattle.diagram.specs.Support.{support_mask}
use Rattle.text.specs.Call.{InRange, refusal_number}
use Rattle.text.specs.Answer.{SmallAnswer}
use Rattle.text.specs.Session.{TallyReply, refuse, with_tensor, with_register, at_most, answer, settle}
use Rattle.text.specs.Session.{node_count, accept}
use Rattle.text.specs.Engine.{Reply, EngineInvariant, tally_of, FullForgets, SetsRegister}
use Rattle.text.specs.declared.engine.Contents.{Contents}
use Rattle.text.specs.Operate.{SetsUnless}
use Rattle.text.specs.Respond.{RespondEnsures, ReplyEnsures, Forgets}
use Rattle.text.specs.EngineLaws.{never_full}
use Rattle.text.specs.declared.call.Call.{Call}
use Rattle.diagram.specs.declared.node.Edge.{Edge}
use Rattle.text.specs.declared.call.Refusal.TheVariants.{Empty, Depends}
use Rattle.text.specs.declared.answer.Answer.{Answer}
use Rattle.text.specs.declared.answer.Answer.TheVariants.{Done, Value, Compared, Mask}
use Rattle.text.specs.declared.call.Refusal.{Refusal}
use Rattle.diagram.specs.declared.gate.Gate.{Gate}
use Rattle.diagram.specs.declared.compare.Comparison.{Comparison}
use Rattle.diagram.specs.declared.registers.Registers.{Registers}
use Rattle.diagram.specs.declared.make.State.{State}
use Rattle.text.specs.declared.call.Call.TheVariants as call
use Rattle.diagram.specs.declared.compare.Comparison.TheVariants as compare

-- what a call's line said, case by case

pub ranged_as : {x : Call} (y : Call) → InRange y → y ≡ x → InRange x
ranged_as y r e = subst InRange e r

pub responds_as : {c' s s' : List ℕ} {e : Contents} {x y : Call} {r : Reply} → y ≡ x → RespondEnsures c' s s' e x r
    → RespondEnsures c' s s' e y r
responds_as {c'} {s} {s'} {e} {r = r} q h = subst (λ z. RespondEnsures c' s s' e z r) (sym q) h

-- an operand

module _ (s : List ℕ) (e : Contents) {a : ℕ} (f : Tensor indices → TallyReply indices) where
  pub operand : {x : Edge} → GetEnsures e.registers.all a (Some x)
      → with_register (tally_of s e) a f ≡ f (tensor_of s e.state x)
  unfolding with_register with_tensor tally_of tensor_of holds
  operand r = rw (holds_read (set_of s e.state) r)

  pub operand_empty : GetEnsures e.registers.all a empty_register
      → with_register (tally_of s e) a f ≡ refuse Empty (tally_of s e)
  unfolding with_register with_tensor tally_of holds
  operand_empty r = rw (holds_read (set_of s e.state) r)

-- refusals that have begun nothing

abbrev refusal_of_answer : Result Answer Refusal → ℕ
refusal_of_answer (Ok a) = 0
refusal_of_answer (Err r) = refusal_number r

-- what a refusal leaves that has begun nothing
abbrev refused_by : Refusal → Contents → Reply
refused_by why e = record { answer = Err why; engine = e }

-- a refusal with another number is not as full
pub refused_forgets : {c : List ℕ} (e : Contents) (why : Refusal) → refusal_number why ≢ 8
    → FullForgets c (record { answer = Err why; engine = e })
refused_forgets e why n q = absurd (n (ap refusal_of_answer q))

module _ {c s : List ℕ} {e : Contents} (p : EngineInvariant c s e) where
  pub respond_refused : {x : Call} (why : Refusal) → Forgets x c (refused_by why e)
      → answer (at_most (capacity s)) x (tally_of s e) ≡ refuse why (tally_of s e)
      → RespondEnsures c s s e x (refused_by why e)
  unfolding refuse
  respond_refused why n q = record {
    invariant = p;
    small = tt;
    is = q;
    refused = λ no. record { nodes = refl; registers = refl };
    forgets = n;
  }

  -- an operand is empty: 3, which is not as full
  refused_empty : {x : Call} → (FullForgets c (refused_by Empty e) → Forgets x c (refused_by Empty e))
      → answer (at_most (capacity s)) x (tally_of s e) ≡ refuse Empty (tally_of s e)
      → RespondEnsures c s s e x (refused_by Empty e)
  refused_empty forgets q = respond_refused Empty (forgets (refused_forgets e Empty (λ z. omega arith))) q

  -- the reader refused
  pub reply_refused : {x : Result Call Refusal} {why : Refusal} → x ≡ Err why
      → ReplyEnsures c s s e x (record { answer = Err why; engine = e })
  unfolding refuse
  reply_refused q = record {
    invariant = p;
    small = tt;
    is = rw q refl;
    refused = λ no. record { nodes = refl; registers = refl };
    forgets = rw q tt;
  }

  module _ {a : ℕ} (g : GetEnsures e.registers.all a empty_register) where
    pub empty_add : {d b : ℕ} → RespondEnsures c s s e (call.Add d a b) (record { answer = Err Empty; engine = e })
    unfolding answer
    empty_add = refused_empty (λ k. k) (operand_empty s e _ g)

    pub empty_cont : {d b m : ℕ}
        → RespondEnsures c s s e (call.Cont d a b m) (record { answer = Err Empty; engine = e })
    unfolding answer
    empty_cont = refused_empty (λ k. k) (operand_empty s e _ g)

    pub empty_low : {d k : ℕ} → RespondEnsures c s s e (call.Low d a k) (record { answer = Err Empty; engine = e })
    unfolding answer
    empty_low = refused_empty (λ k. k) (operand_empty s e _ g)

    pub empty_lows : {d m : ℕ} → RespondEnsures c s s e (call.Lows d a m) (record { answer = Err Empty; engine = e })
    unfolding answer
    empty_lows = refused_empty (λ k. k) (operand_empty s e _ g)

    pub empty_drop : RespondEnsures c s s e (call.Drop a) (record { answer = Err Empty; engine = e })
    unfolding answer
    empty_drop = refused_empty (λ k. k) (operand_empty s e _ g)

    pub empty_at : {v : ℕ} → RespondEnsures c s s e (call.At a v) (record { answer = Err Empty; engine = e })
    unfolding answer
    empty_at = refused_empty (λ k. k) (operand_empty s e _ g)

    pub empty_on : RespondEnsures c s s e (call.On a) (record { answer = Err Empty; engine = e })
    unfolding answer
    empty_on = refused_empty (λ k. k) (operand_empty s e _ g)

    pub empty_cmp : {b : ℕ} → RespondEnsures c s s e (call.Cmp a b) (record { answer = Err Empty; engine = e })
    unfolding answer
    empty_cmp = refused_empty (λ k. k) (operand_empty s e _ g)

  -- the second operand
  module _ {a b : ℕ} {x : Edge} (i : GetEnsures e.registers.all a (Some x))
      (j : GetEnsures e.registers.all b empty_register) where
    pub empty_add_2 : {d : ℕ} → RespondEnsures c s s e (call.Add d a b) (record { answer = Err Empty; engine = e })
    unfolding answer
    empty_add_2 = refused_empty (λ k. k) (operand s e _ i ∙ operand_empty s e _ j)

    pub empty_cont_2 : {d m : ℕ}
        → RespondEnsures c s s e (call.Cont d a b m) (record { answer = Err Empty; engine = e })
    unfolding answer
    empty_cont_2 = refused_empty (λ k. k) (operand s e _ i ∙ operand_empty s e _ j)

    pub empty_cmp_2 : RespondEnsures c s s e (call.Cmp a b) (record { answer = Err Empty; engine = e })
    unfolding answer
    empty_cmp_2 = refused_empty (λ k. k) (operand s e _ i ∙ operand_empty s e _ j)

-- the calls that set a register

module _ {c' s s' : List ℕ} {e : Contents} {d : ℕ} {r : Reply} where
  sets_register_as : {f : Step indices} {x : Call} → (FullForgets c' r → Forgets x c' r)
      → answer (at_most (capacity s)) x (tally_of s e) ≡ settle (at_most (capacity s)) d (f (set_of s e.state))
      (tally_of s e)
      → SetsRegister c' s s' e d f r → RespondEnsures c' s s' e x r
  sets_register_as n q h =
      record {
        invariant = h.invariant;
        small = h.small;
        is = q ∙ h.is;
        refused = h.refused;
        forgets = n h.forgets;
      }

  pub responds_put : {w : ℕ} → SetsRegister c' s s' e d (return (constant indices (to_weight w))) r
      → RespondEnsures c' s s' e (call.Put d w) r
  unfolding answer return tally_of
  responds_put h = sets_register_as (λ z. z) refl h

  pub responds_gate : {g : Gate} → SetsRegister c' s s' e d (build (gate_tensor indices g)) r
      → RespondEnsures c' s s' e (call.Gate d g) r
  unfolding answer tally_of
  responds_gate h = sets_register_as (λ z. z) refl h

  pub responds_unit : {n : ℕ} → SetsRegister c' s s' e d (build (unit_tensor indices n)) r
      → RespondEnsures c' s s' e (call.Unit d n) r
  unfolding answer tally_of
  responds_unit h = sets_register_as (λ z. z) refl h

  module _ {a b : ℕ} {x y : Edge} (i : GetEnsures e.registers.all a (Some x))
      (j : GetEnsures e.registers.all b (Some y)) where
    pub responds_add : SetsRegister c' s s' e d (sum (tensor_of s e.state x) (tensor_of s e.state y)) r
        → RespondEnsures c' s s' e (call.Add d a b) r
    unfolding answer tally_of
    responds_add w = sets_register_as (λ z. z) (operand s e _ i ∙ operand s e _ j) w

    pub responds_cont : {m : ℕ}
        → SetsRegister c' s s' e d (cont (tensor_of s e.state x) (tensor_of s e.state y) (bits m)) r
        → RespondEnsures c' s s' e (call.Cont d a b m) r
    unfolding answer tally_of
    responds_cont w = sets_register_as (λ z. z) (operand s e _ i ∙ operand s e _ j) w

-- the calls that set it unless they are refused by 7

module _ {c' s s' : List ℕ} {e : Contents} {d a : ℕ} {x : Edge} {r : Reply}
    (i : GetEnsures e.registers.all a (Some x)) where
  sets_unless_as : {test : Bool} {f : Step indices} {y : Call} → (FullForgets c' r → Forgets y c' r)
      → answer (at_most (capacity s)) y (tally_of s e) ≡ cond test (refuse Depends (tally_of s e))
      (settle (at_most (capacity s)) d (f (set_of s e.state)) (tally_of s e))
      → SetsUnless c' s s' e d test f r → RespondEnsures c' s s' e y r
  sets_unless_as n q w =
      record {
        invariant = w.invariant;
        small = w.small;
        is = q ∙ w.is;
        refused = w.refused;
        forgets = n w.forgets;
      }

  pub responds_low : {k : ℕ}
      → SetsUnless c' s s' e d (depends (k - 1) (tensor_of s e.state x)) (low k (tensor_of s e.state x)) r
      → RespondEnsures c' s s' e (call.Low d a k) r
  unfolding answer tally_of
  responds_low w = sets_unless_as (λ z. z) (operand s e _ i) w

  pub responds_lows : {m : ℕ}
      → SetsUnless c' s s' e d (clash (bits m) (tensor_of s e.state x)) (lows (bits m) (tensor_of s e.state x)) r
      → RespondEnsures c' s s' e (call.Lows d a m) r
  unfolding answer tally_of
  responds_lows w = sets_unless_as (λ z. z) (operand s e _ i) w

-- the others

-- an operand is an edge of the store's nodes, and its weight is small

pub operand_valid : {m : ℕ} {rs : List Register} {i : ℕ} {x : Edge} → RegistersValid m rs
    → GetEnsures rs i (Some x) → Valid m x
operand_valid g r = read_valid _ g r refl

pub operand_small : {m : ℕ} {rs : List Register} {i : ℕ} {x : Edge} → RegistersValid m rs
    → GetEnsures rs i (Some x) → x.weight < modulus
operand_small g r = (operand_valid g r).small

small_comparison : (A B : Tensor indices) (r : Comparison) → ComparisonMeans A B r → SmallAnswer (Ok (Compared r))
small_comparison A B compare.Same n = tt
small_comparison A B (compare.Factor f) n = omega (arith, n.small)
small_comparison A B compare.Differ n = tt

-- a call that answers n and leaves everything as it was
answers_only : {c s : List ℕ} {e : Contents} {x : Call} {n : Result Answer Refusal} → EngineInvariant c s e
    → SmallAnswer n
    → answer (at_most (capacity s)) x (tally_of s e) ≡ (n, tally_of s e)
    → Forgets x c (record { answer = n; engine = e })
    → RespondEnsures c s s e x (record { answer = n; engine = e })
answers_only p small is forgets =
    record {
      invariant = p;
      small = small;
      is = is;
      refused = λ no. record { nodes = refl; registers = refl };
      forgets = forgets;
    }

module _ {c s : List ℕ} {e : Contents} {a : ℕ} {x : Edge} (p : EngineInvariant c s e)
    (i : GetEnsures e.registers.all a (Some x)) where
  pub responds_drop : {rs : Registers} → rs.all ≡ set e.registers.all a empty_register
      → RespondEnsures c s s e (call.Drop a)
      (record { answer = Ok (Done e.state.count); engine = record { state = e.state; registers = rs } })
  unfolding answer accept node_count tally_of holds
  responds_drop {rs} q = record {
    invariant = invariant_clear a p q;
    small = omega (arith, p.sound.stored.numbered);
    is = operand s e _ i
        ∙ rw (set_length s e.state, q, holds_set (set_of s e.state) e.registers.all a empty_register);
    refused = λ no. absurd (false≢true no);
    forgets = never_full (Ok (Done e.state.count)) refl;
  }

  pub responds_at : {v w : ℕ} → Represents w (value (tensor_of s e.state x) v)
      → RespondEnsures c s s e (call.At a v) (record { answer = Ok (Value w); engine = e })
  unfolding answer
  responds_at {v} {w} n =
      answers_only p (omega (arith, n.small))
      (operand s e _ i ∙ ap (λ n. (Ok (Value n), tally_of s e)) (sym (represents_number n)))
      (never_full (Ok (Value w)) refl)

  pub responds_on : {m : ℕ} → m ≡ support_mask (tensor_of s e.state x) → m < masks
      → RespondEnsures c s s e (call.On a) (record { answer = Ok (Mask m); engine = e })
  unfolding answer
  responds_on {m} is small =
      answers_only p (omega (arith, small))
      (operand s e _ i ∙ ap (λ n. (Ok (Mask n), tally_of s e)) (sym is)) (never_full (Ok (Mask m)) refl)

  pub responds_cmp : {b : ℕ} {y : Edge} {r : Comparison} → GetEnsures e.registers.all b (Some y)
      → CompareEnsures x y r
      → RespondEnsures c s s e (call.Cmp a b) (record { answer = Ok (Compared r); engine = e })
  unfolding answer
  responds_cmp {b} {y} {r} j w =
      let t : compared (tensor_of s e.state x) (tensor_of s e.state y) ≡ r =
      w.is s e.state p.sound (operand_valid p.registers i) (operand_valid p.registers j) in
      answers_only p
      (small_comparison _ _ r
      (subst (ComparisonMeans _ _) t (compared_means (tensor_of s e.state x) (tensor_of s e.state y))))
      (operand s e _ i ∙ operand s e _ j ∙ ap (λ z. (Ok (Compared z), tally_of s e)) t)
      (never_full (Ok (Compared r)) refl)

pub responds_collect : {c' s s' : List ℕ} {e : Contents} {st : State} {rs : Registers}
    → CollectEnsures c' s s' e.state st e.registers.all rs.all
    → RespondEnsures c' s s' e call.Collect
    (record { answer = Ok (Done st.count); engine = record { state = st; registers = rs } })
unfolding answer accept node_count tally_of
responds_collect {s' = s'} {st = st} w = record {
  invariant = invariant_collect w;
  small = omega (arith, w.sound.stored.numbered);
  is = rw (w.same, ← w.set, set_length s' st);
  refused = λ no. absurd (false≢true no);
  forgets = w.forgotten;
}
