-- What a call does and answers: as the tally's.
use Rattle.std.specs.Prelude.{List, ◌≡◌, ℕ, Result, Ok, Err, Some, MatchResult}
use Rattle.diagram.specs.Node.{capacity}
use Rattle.diagram.specs.Registers.{Register, GetEnsures, empty_register}
use Rattle.text.specs.Answer.{SmallAnswer}
use Rattle.text.specs.Session.{at_most, answer, answer_read}
use Rattle.text.specs.Engine.{contents, Reply, reply, Forgotten, FullForgets, tally_of, RefusedUnchanged}
use Rattle.text.specs.declared.engine.Contents.{Contents}
use Rattle.text.specs.Engine.{EngineInvariant}
use Rattle.text.specs.declared.call.Call.{Call}
use Rattle.text.specs.declared.call.Refusal.{Refusal}
use Rattle.text.specs.declared.call.Refusal.TheVariants.{Empty}
use Rattle.diagram.specs.declared.node.Edge.{Edge}
use Rattle.text.specs.declared.answer.Answer.{Answer}
use Rattle.text.specs.declared.engine.Engine.{Engine}
use Rattle.text.specs.declared.call.Call.TheVariants as call

-- the edge that register a holds; or "3 (a or b empty)"
abbrev pub OperandRead : List Register → ℕ → Result Edge Refusal → Type 0
OperandRead rs a r =
    MatchResult r (λ x. GetEnsures rs a (Some x)) (λ why. (why ≡ Empty) × GetEnsures rs a empty_register)

-- after a collection nothing remembered is used, and after another call where it was refused as full
abbrev pub Forgets : Call → List ℕ → Reply → Type 0
Forgets (call.Put d w) = FullForgets
Forgets (call.Gate d g) = FullForgets
Forgets (call.Unit d n) = FullForgets
Forgets (call.Add d a b) = FullForgets
Forgets (call.Cont d a b m) = FullForgets
Forgets (call.Low d a k) = FullForgets
Forgets (call.Drop a) = FullForgets
Forgets call.Collect = Forgotten
Forgets (call.At a v) = FullForgets
Forgets (call.Cmp a b) = FullForgets
Forgets (call.On a) = FullForgets
Forgets (call.Lows d a m) = FullForgets

-- the same of a line that was read; what its reader refused has begun nothing
abbrev pub ForgetsRead : Result Call Refusal → List ℕ → Reply → Type 0
ForgetsRead (Ok x) = Forgets x
ForgetsRead (Err why) = λ c' r. Unit {0}

-- The call answers as the tally's does, and leaves what the tally's leaves.
pub record RespondEnsures (c' s s' : List ℕ) (e : Contents) (x : Call) (r : Reply) : Type 0 where
  pub invariant : EngineInvariant c' s' r.engine
  pub small : SmallAnswer r.answer
  pub is : answer (at_most (capacity s)) x (tally_of s e) ≡ (r.answer, tally_of s' r.engine)
  pub refused : RefusedUnchanged s s' e r
  pub forgets : Forgets x c' r

-- The line that was read is answered as the tally's is.
pub record ReplyEnsures (c' s s' : List ℕ) (e : Contents) (x : Result Call Refusal) (r : Reply) : Type 0 where
  pub invariant : EngineInvariant c' s' r.engine
  pub small : SmallAnswer r.answer
  pub is : answer_read (at_most (capacity s)) x (tally_of s e) ≡ (r.answer, tally_of s' r.engine)
  pub refused : RefusedUnchanged s s' e r
  pub forgets : ForgetsRead x c' r

-- the same for a call that changes neither store nor cache, over every cache; and, where it does not read the store,
-- over every store
pub record ReadEnsures (s : List ℕ) (e : Contents) (x : Call) (r : Reply) : Type 0 where
  pub on : (c : List ℕ) → EngineInvariant c s e → RespondEnsures c s s e x r

pub record PureEnsures (e : Contents) (x : Call) (r : Reply) : Type 0 where
  pub on : (s : List ℕ) → ReadEnsures s e x r

-- the same, of an engine e that it leaves as it was
abbrev pub ReadResponds : Engine → Call → Result Answer Refusal → Type 0
ReadResponds e x a = ReadEnsures e.diagram.now.store.now (contents e) x (reply a e)

abbrev pub PureResponds : Engine → Call → Result Answer Refusal → Type 0
PureResponds e x a = PureEnsures (contents e) x (reply a e)

-- the same, of an engine e before the call and e' after it
abbrev pub Responds : Engine → Engine → Call → Result Answer Refusal → Type 0
Responds e e' x a =
    RespondEnsures e'.diagram.now.cache.now e.diagram.now.store.now e'.diagram.now.store.now (contents e) x
    (reply a e')

abbrev pub Replies : Engine → Engine → Result Call Refusal → Result Answer Refusal → Type 0
Replies e e' x a = ReplyEnsures e'.diagram.now.cache.now e.diagram.now.store.now e'.diagram.now.store.now (contents e) x
    (reply a e')
