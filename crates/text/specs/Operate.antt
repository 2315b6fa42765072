-- The calls that set a register, once their operands are read.
use Rattle.std.specs.Prelude.{◌≡◌, Bool, cond, List, ℕ, Result}
use Rattle.diagram.specs.Tensor.{indices}
use Rattle.diagram.specs.Tally.{Step}
use Rattle.diagram.specs.Node.{capacity}
use Rattle.diagram.specs.Store.{set_of}
use Rattle.text.specs.Answer.{SmallAnswer}
use Rattle.text.specs.Session.{at_most, refuse, settle}
use Rattle.text.specs.Engine.{contents, Reply, reply, tally_of, RefusedUnchanged, FullForgets}
use Rattle.text.specs.declared.engine.Contents.{Contents}
use Rattle.text.specs.Engine.{EngineInvariant}
use Rattle.text.specs.declared.call.Refusal.{Refusal}
use Rattle.text.specs.declared.call.Refusal.TheVariants.{Depends}
use Rattle.text.specs.declared.engine.Engine.{Engine}
use Rattle.text.specs.declared.answer.Answer.{Answer}

-- The call answers as the tally's `low` and `lows` do: 7 where the test says so, else register d is set by the step f.
pub record SetsUnless (c' s s' : List ℕ) (e : Contents) (d : ℕ) (test : Bool) (f : Step indices) (r : Reply)
    : Type 0 where
  pub invariant : EngineInvariant c' s' r.engine
  pub small : SmallAnswer r.answer
  pub is : cond test (refuse Depends (tally_of s e))
      (settle (at_most (capacity s)) d (f (set_of s e.state)) (tally_of s e))
      ≡ (r.answer, tally_of s' r.engine)
  pub refused : RefusedUnchanged s s' e r
  pub forgets : FullForgets c' r

-- the same, of an engine e before the call and e' after it
abbrev pub SetsOr : Engine → Engine → ℕ → Bool → Step indices → Result Answer Refusal → Type 0
SetsOr e e' d test f a =
    SetsUnless e'.diagram.now.cache.now e.diagram.now.store.now e'.diagram.now.store.now (contents e) d test f
    (reply a e')
