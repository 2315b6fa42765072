-- Laws of Engine: the start, and how a step is settled.
use Rattle.std.specs.Prelude.{◌≡◌, refl, List, ℕ, ◌≤◌, ◌<◌, length, set, Result, Ok, Err, is_err, false, Some}
use Rattle.std.specs.Fn.{FnOnceReturnsAtMut}
use Rattle.std.proofs.Common.{◌∙◌, ap, sym, subst, arith, le-leb}
use Rattle.std.proofs.lemmas.Bool.{false≢true, lt-leb}
use Rattle.diagram.specs.Restore.{StartEnsures, RollbackEnsures}
use Rattle.diagram.specs.RestoreLaws.{full_rollback}
use Rattle.diagram.specs.Invariant.{Invariant}
use Rattle.diagram.specs.Registers.{Register, empty_registers, holds, holds_all, RegistersValid}
use Rattle.diagram.specs.RegistersLaws.{holds_set}
use Rattle.diagram.specs.InvariantLaws.{start_set, holds_after, refines_cached}
use Rattle.diagram.specs.InvariantLaws.{invariant_start, invariant_rollback, invariant_cached}
use Rattle.diagram.specs.Tensor.{indices, constant}
use Rattle.diagram.specs.Tally.{Step, return}
use Rattle.diagram.specs.Node.{capacity}
use Rattle.diagram.specs.Store.{set_of, tensor_of, RefinesEdge, nodes_of, RefinesFull, Refines}
use Rattle.diagram.specs.StoreLaws.{set_length, refines_fits, refines_stays}
use Rattle.diagram.specs.Operation.{RefinesCached}
use Rattle.diagram.specs.Diagram.{KeepsLoans, Does, DoesCached}
use Rattle.diagram.specs.AttemptLaws.{keeps_loans_then}
use Rattle.text.specs.Engine.{SetsBy, Sets, IsEngine, MaySet}
use Rattle.diagram.specs.Attempt.{Steps, UndoRequires, Attempts}
use Rattle.text.specs.declared.engine.Engine.{Engine}
use Rattle.diagram.specs.declared.diagram.Diagram.{Diagram}
use Rattle.diagram.specs.Weights.{to_weight, modulus}
use Rattle.diagram.specs.BuildLaws.{constant_valid, constant_tensor}
use Rattle.text.specs.Session.{empty_tally, at_most, node_count, accept, settle, refuse}
use Rattle.text.specs.Agrees.{Unchanged}
use Rattle.text.specs.Engine.{Reply, tally_of, EngineStartEnsures, SetsRegister}
use Rattle.text.specs.declared.engine.Contents.{Contents}
use Rattle.text.specs.Engine.{SettleEnsures}
use Rattle.text.specs.Engine.{EngineInvariant}
use Rattle.diagram.specs.declared.node.Edge.{Edge}
use Rattle.diagram.specs.declared.make.State.{State}
use Rattle.diagram.specs.declared.registers.Registers.{Registers}
use Rattle.text.specs.declared.answer.Answer.TheVariants.{Done}
use Rattle.text.specs.declared.call.Refusal.{Refusal}
use Rattle.text.specs.declared.call.Refusal.TheVariants.{Full}
use Rattle.text.specs.declared.answer.Answer.{Answer}
use Rattle.diagram.specs.declared.diagram.Full as steps

-- the start

pub engine_start_ensures : {c s s' : List ℕ} {e : Contents} → StartEnsures c s s' e.state
    → e.registers.all ≡ empty_registers
    → EngineStartEnsures c s s' e
unfolding tally_of empty_tally holds_all holds
engine_start_ensures {s' = s'} {e} f q =
    record { long = f.long; invariant = invariant_start f q; is = rw (start_set f, q) }

-- a step that was done: register d is its edge, the others hold what they held
settle_edge : {s s' : List ℕ} {e : Contents} {t : State} {rs : Registers} (d : ℕ) {f : Step indices} {x : Edge}
    → RegistersValid e.state.count e.registers.all
    → RefinesEdge s s' e.state t f x → rs.all ≡ set e.registers.all d (Some x)
    → settle (at_most (capacity s)) d (f (set_of s e.state)) (tally_of s e)
    ≡ (Ok (Done t.count), tally_of s' (record { state = t; registers = rs }))
unfolding settle accept node_count tally_of holds tensor_of
settle_edge {s} {s'} {e} {t} d {x = x} g w q =
    let fit : length (set_of s' t) ≤ capacity s = rw w.is at (refines_fits w) in
    rw (
      w.is,
      le-leb _ _ fit,
      set_length s' t,
      q,
      holds_set (set_of s' t) e.registers.all d (Some x),
      holds_after s s' e.state t g w.grown,
    )

-- a step that did not fit: the nodes are as before it, and the registers
settle_full : {s s₁ : List ℕ} (s' : List ℕ) {e : Contents} (n : Contents) (d : ℕ) {f : Step indices}
    → RefinesFull s s₁ e.state f → nodes_of s' n.state ≡ nodes_of s₁ e.state
    → n.registers.all ≡ e.registers.all
    → settle (at_most (capacity s)) d (f (set_of s e.state)) (tally_of s e) ≡ (Err Full, tally_of s' n)
unfolding settle refuse tally_of set_of
settle_full s' n d w q r = rw (lt-leb _ _ w.full, r, q ∙ w.kept)

-- an accepted call is not refused as full
pub never_full : {X : Type 0} (a : Result Answer Refusal) → is_err a ≡ false → a ≡ Err Full → X
never_full a p q = absurd (false≢true (sym p ∙ ap is_err q))

nodes_unchanged : {s s' : List ℕ} (st st' : State) {rs rs' : List Register} → nodes_of s' st' ≡ nodes_of s st
    → rs' ≡ rs
    → Unchanged s s' st.count st'.count rs rs'
unfolding nodes_of
nodes_unchanged st st' p q = record { nodes = p; registers = q }

pub settle_ensures_full : {c s c' s' : List ℕ} {e : Contents} {t st' : State} {rs' : Registers} {d : ℕ} {x : steps.Full}
    → RollbackEnsures c' s s' e.state st' → rs'.all ≡ e.registers.all
    → SettleEnsures c s c' s' e t d (Err x)
    (record { answer = Err Full; engine = record { state = st'; registers = rs' } })
settle_ensures_full {c} {s} {c'} {s'} {e} {t} {st'} {rs'} {d} {x} b q = record { on = on }
  where
    on : (c₀ s₀ : List ℕ) (f : Step indices) → EngineInvariant c₀ s₀ e
        → RefinesCached c s₀ s e.state t f (Err x)
        → SetsRegister c' s₀ s' e d f
        (record { answer = Err Full; engine = record { state = st'; registers = rs' } })
    on c₀ s₀ f p w = record {
      invariant = rw q (invariant_rollback p.registers b);
      small = tt;
      is = settle_full s' (record { state = st'; registers = rs' }) d w.step b.kept q;
      refused = λ no. nodes_unchanged e.state st' (b.kept ∙ w.step.kept) q;
      forgets = λ full. b.forgotten;
    }

pub settle_ensures_edge : {c s : List ℕ} {e : Contents} {d : ℕ} {x : Edge} {t : State} {rs : Registers}
    → rs.all ≡ set e.registers.all d (Some x)
    → SettleEnsures c s c s e t d (Ok x)
    (record { answer = Ok (Done t.count); engine = record { state = t; registers = rs } })
settle_ensures_edge {c} {s} {e} {d} {x} {t} {rs} b = record { on = on }
  where
    on : (c₀ s₀ : List ℕ) (f : Step indices) → EngineInvariant c₀ s₀ e
        → RefinesCached c s₀ s e.state t f (Ok x)
        → SetsRegister c s₀ s e d f
        (record { answer = Ok (Done t.count); engine = record { state = t; registers = rs } })
    on c₀ s₀ f p n =
        record {
          invariant = invariant_cached p d b n;
          small = omega (arith, n.step.sound.stored.numbered);
          is = settle_edge d p.registers n.step b;
          refused = λ no. absurd (false≢true no);
          forgets = never_full (Ok (Done t.count)) refl;
        }

-- what a step leaves can be taken back, where it did not fit
pub cached_settle_requires : {c c' s s' : List ℕ} {st t : State} {rs : List Register} {f : Step indices}
    (m : Result Edge steps.Full)
    → Invariant c s st rs
    → RefinesCached c' s s' st t f m → UndoRequires c' s' st m
cached_settle_requires (Ok e) p w = tt
cached_settle_requires (Err x) p w = full_rollback p.sound w

pub step_settle_requires : {c c' s : List ℕ} {st : State} {rs : List Register} (s' : List ℕ) (t : State)
    (f : Step indices) (m : Result Edge steps.Full)
    → Invariant c s st rs → c' ≡ c
    → Refines s s' st t f m → UndoRequires c' s' st m
step_settle_requires s' t f m p k w =
    rw k (cached_settle_requires m p (refines_cached s' p t f m w))

-- the step, and then the register
module _ {c s c' s' : List ℕ} {e : Contents} {d : ℕ} {r : Reply} (p : EngineInvariant c s e) where
  pub sets_register_cached : {c₁ s₁ : List ℕ} {t : State} {m : Result Edge steps.Full} (f : Step indices)
      → RefinesCached c₁ s s₁ e.state t f m
      → SettleEnsures c₁ s₁ c' s' e t d m r
      → SetsRegister c' s s' e d f r
  sets_register_cached f w h = h.on c s f p w

  pub sets_register_step : {c₁ s₁ : List ℕ} {t : State} {m : Result Edge steps.Full} (f : Step indices) → c₁ ≡ c
      → Refines s s₁ e.state t f m
      → SettleEnsures c₁ s₁ c' s' e t d m r → SetsRegister c' s s' e d f r
  sets_register_step {c₁} {s₁} {t} {m} f k w h = h.on c s f p (rw k (refines_cached s₁ p t f m w))

  -- a constant: nothing is put in
  pub sets_register_constant : {w : ℕ} → w < modulus
      → SettleEnsures c s c' s' e e.state d (Ok (record { weight = w; node = 0 })) r
      → SetsRegister c' s s' e d (return (constant indices (to_weight w))) r
  unfolding return
  sets_register_constant {w} small h =
      h.on c s _ p (record {
        step = refines_stays p.sound (constant_valid small)
            (ap (λ T. (T, set_of s e.state)) (sym (constant_tensor w p.sound)));
        cache = p.cache;
      })

-- an attempt, of which it is known what it gave and left
attempted_as : {F : Type 0} {g : Steps F} {step : F} {t u d' : Diagram} {m r : Result Edge steps.Full}
    → Attempts g step t d' m → u ≡ d' → m ≡ r → Attempts g step t u r
attempted_as {g = g} {step} {t} {d' = d'} {r = r} a same q =
    subst (λ u. Attempts g step t u r) (sym same) (subst (Attempts g step t d') q a)

-- an attempt of a step, and then the register: the diagram is where the attempt has left it
module _ {F : Type 0} {g : Steps F} {step : F} {e : Engine} {m : Result Edge steps.Full} {d' : Diagram}
    (a : Attempts g step e.diagram.now d' m) where
  pub attempt_loans : MaySet g step e → KeepsLoans e.diagram.now d'
  attempt_loans may = keeps_loans_then (may.ends m a.left a.met).0 a.loans

  module _ {e' : Engine} {d : ℕ} (same : e'.diagram.now ≡ d') where
    pub attempt_full : {x : steps.Full} → m ≡ Err x → e'.registers.all ≡ e.registers.all
        → SetsBy g step e e' d (Err Full)
    attempt_full {x} q r =
        let b : Attempts g step e.diagram.now e'.diagram.now (Err x) = attempted_as a same q in
        record { made = Err x; left = b.left; met = b.met; settles = settle_ensures_full b.ends r }

    pub attempt_edge : {x : Edge} {n : ℕ} → m ≡ Ok x → e'.registers.all ≡ set e.registers.all d (Some x)
        → n ≡ e'.diagram.now.state.count → SetsBy g step e e' d (Ok (Done n))
    attempt_edge {x} q r count =
        let b : Attempts g step e.diagram.now e'.diagram.now (Ok x) = attempted_as a same q in
        record {
          made = Ok x;
          left = e'.diagram.now;
          met = subst (FnOnceReturnsAtMut g step e.diagram.now (Ok x)) (sym b.ends) b.met;
          settles = rw count (settle_ensures_edge r);
        }

-- the step of a closure, and then the register
module _ {F : Type 0} {g : Steps F} {step : F} {e e' : Engine} {d : ℕ} {a : Result Answer Refusal} (p : IsEngine e)
    (k : SetsBy g step e e' d a) where
  pub sets_by_cached : {f : Step indices} → DoesCached e.diagram.now k.left f k.made → Sets e e' d f a
  sets_by_cached {f} w = sets_register_cached p f w k.settles

  pub sets_by_step : {f : Step indices} → k.left.cache.now ≡ e.diagram.now.cache.now
      → Does e.diagram.now k.left f k.made → Sets e e' d f a
  sets_by_step {f} same w = sets_register_step p f same w k.settles

  pub sets_by_constant : {w : ℕ} → w < modulus → k.left ≡ e.diagram.now → k.made ≡ Ok (record { weight = w; node = 0 })
      → Sets e e' d (return (constant indices (to_weight w))) a
  sets_by_constant small same made = sets_register_constant p small (rw (same, made) at k.settles)
