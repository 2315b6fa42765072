-- What the engine holds between two lines, read as a tally, and how a call that sets a register ends.
use Rattle.std.specs.Prelude.{List, ◌≡◌, ℕ, Result, Err, IsErr, length}
use Rattle.diagram.specs.Tensor.{indices}
use Rattle.diagram.specs.Store.{set_of}
use Rattle.diagram.specs.Registers.{holds_all, RegistersValid}
use Rattle.diagram.specs.Invariant.{Invariant}
use Rattle.diagram.specs.Cache.{AllEarlier}
use Rattle.diagram.specs.Tally.{Step}
use Rattle.diagram.specs.Node.{capacity}
use Rattle.diagram.specs.Diagram.{KeepsLoans}
use Rattle.diagram.specs.Attempt.{Steps, UndoRequires}
use Rattle.std.specs.Fn.{FnOnceTakesAtMut, FnOnceReturnsAtMut}
use Rattle.diagram.specs.declared.diagram.Diagram.{Diagram}
use Rattle.diagram.specs.Operation.{RefinesCached}
use Rattle.text.specs.Answer.{SmallAnswer}
use Rattle.text.specs.Session.{Tally, empty_tally, at_most, settle}
use Rattle.text.specs.Agrees.{Unchanged}
use Rattle.text.specs.declared.engine.Engine.{Engine}
use Rattle.text.specs.declared.engine.Contents.{Contents}
use Rattle.text.specs.declared.call.Refusal.{Refusal}
use Rattle.text.specs.declared.answer.Answer.{Answer}
use Rattle.text.specs.declared.call.Refusal.TheVariants.{Full}
use Rattle.diagram.specs.declared.make.State.{State}
use Rattle.diagram.specs.declared.node.Edge.{Edge}
use Rattle.diagram.specs.declared.diagram.Full as steps

-- what an engine holds beside the bytes of its store and its cache
abbrev pub contents : Engine → Contents
contents e = record { state = e.diagram.now.state; registers = e.registers }

-- a call's answer, and what it leaves
pub record Reply : Type 0 where
  pub answer : Result Answer Refusal
  pub engine : Contents

abbrev pub reply : Result Answer Refusal → Engine → Reply
reply a e = record { answer = a; engine = contents e }

-- The tensors of the store's nodes, in order, and what the registers hold of them.
unfoldable pub tally_of : List ℕ → Contents → Tally indices
tally_of s e = record { nodes = set_of s e.state; registers = holds_all (set_of s e.state) e.registers.all }

-- what holds between two calls
abbrev pub EngineInvariant : List ℕ → List ℕ → Contents → Type 0
EngineInvariant c s e = Invariant c s e.state e.registers.all

-- "A session starts with no nodes and empty registers."
pub record EngineStartEnsures (c' s s' : List ℕ) (e : Contents) : Type 0 where
  pub long : length s' ≡ length s
  pub invariant : EngineInvariant c' s' e
  pub is : tally_of s' e ≡ empty_tally

-- a refusal that has begun nothing: the engine is as it was, with its store and its cache
pub record RefuseEnsures (e e' : Engine) (why : Refusal) (a : Result Answer Refusal) : Type 0 where
  pub answer : a ≡ Err why
  pub engine : e' ≡ e

-- "a refused line changes no register and leaves no new node"
abbrev pub RefusedUnchanged : List ℕ → List ℕ → Contents → Reply → Type 0
RefusedUnchanged s s' e r =
    IsErr r.answer
    → Unchanged s s' e.state.count r.engine.state.count e.registers.all r.engine.registers.all

-- "A remembered result made before a collection, or by an earlier call that was refused, is never used.": no entry of
-- the cache is of the epoch after it. A call that has begun is refused as full; another refusal remembers nothing.
abbrev pub Forgotten : List ℕ → Reply → Type 0
Forgotten c' r = AllEarlier c' r.engine.state.epoch

abbrev pub FullForgets : List ℕ → Reply → Type 0
FullForgets c' r = r.answer ≡ Err Full → Forgotten c' r

-- The call answers as the tally's does that sets register d by the step f, and leaves what that leaves.
pub record SetsRegister (c' s s' : List ℕ) (e : Contents) (d : ℕ) (f : Step indices) (r : Reply) : Type 0 where
  pub invariant : EngineInvariant c' s' r.engine
  pub small : SmallAnswer r.answer
  pub is : settle (at_most (capacity s)) d (f (set_of s e.state)) (tally_of s e) ≡ (r.answer, tally_of s' r.engine)
  pub refused : RefusedUnchanged s s' e r
  pub forgets : FullForgets c' r

-- whatever step made m and left the state t, over the store s₀ before it
pub record SettleEnsures (c s c' s' : List ℕ) (e : Contents) (t : State) (d : ℕ) (m : Result Edge steps.Full)
    (r : Reply) : Type 0 where
  pub on : (c₀ s₀ : List ℕ) (f : Step indices) → EngineInvariant c₀ s₀ e → RefinesCached c s₀ s e.state t f m
      → SetsRegister c' s₀ s' e d f r

-- the same, of an engine e before the call and e' after it

-- the diagram is the one that the engine was started over, with its store and its cache
pub record KeepsEngine (e e' : Engine) : Type 0 where
  pub same_diagram : e'.diagram.ghost_name ≡ e.diagram.ghost_name
  pub loans : KeepsLoans e.diagram.now e'.diagram.now

abbrev pub Starts : Engine → Engine → Type 0
Starts e e' = EngineStartEnsures e'.diagram.now.cache.now e.diagram.now.store.now e'.diagram.now.store.now (contents e')

abbrev pub IsEngine : Engine → Type 0
IsEngine e = EngineInvariant e.diagram.now.cache.now e.diagram.now.store.now (contents e)

-- its registers hold edges of the store's nodes
abbrev pub HoldsEdges : Engine → Type 0
HoldsEdges e = RegistersValid e.diagram.now.state.count e.registers.all

abbrev pub Sets : Engine → Engine → ℕ → Step indices → Result Answer Refusal → Type 0
Sets e e' d f a =
    SetsRegister e'.diagram.now.cache.now e.diagram.now.store.now e'.diagram.now.store.now (contents e) d f
    (reply a e')

-- The closure may be called with the engine's diagram. It keeps store and cache, and where its step does not fit, the
-- diagram can be rolled back.
pub record MaySet {F : Type 0} (g : Steps F) (step : F) (e : Engine) : Type 0 where
  pub may : FnOnceTakesAtMut g step e.diagram.now
  pub ends : (m : Result Edge steps.Full) (d' : Diagram) → FnOnceReturnsAtMut g step e.diagram.now m d'
      → KeepsLoans e.diagram.now d' × UndoRequires d'.cache.now d'.store.now e.diagram.now.state m

-- The closure was called: it answered `made` and left the diagram `left`. Then register d was set to that step's edge,
-- or the call was refused.
pub record SetsBy {F : Type 0} (g : Steps F) (step : F) (e e' : Engine) (d : ℕ) (a : Result Answer Refusal)
    : Type 0 where
  pub made : Result Edge steps.Full
  pub left : Diagram
  pub met : FnOnceReturnsAtMut g step e.diagram.now made left
  pub settles : SettleEnsures left.cache.now left.store.now e'.diagram.now.cache.now e'.diagram.now.store.now
      (contents e) left.state d made (reply a e')
