-- The calls of a verdict's session until one is refused, as the code runs them: one, or a gate's as one step.
use Rattle.std.specs.Prelude.{cond, List, ◌++◌, ◌≡◌, ℕ, Bool, false, Result, is_err, ⊤}
use Rattle.diagram.specs.Node.{capacity}
use Rattle.text.specs.Session.{Capacity, at_most}
use Rattle.text.specs.VerdictSession.{NumberedCall, perform, ruling_at_end, at_line}
use Rattle.text.specs.Ruling.{Ruling, no_at}
use Rattle.text.specs.Engine.{contents, tally_of, EngineInvariant}
use Rattle.text.specs.declared.engine.Contents.{Contents}
use Rattle.text.specs.Apply.{drop_collect}
use Rattle.text.specs.declared.call.Refusal.{Refusal}
use Rattle.text.specs.declared.check.Fault.TheVariants.{Full}
use Rattle.text.specs.declared.call.Call.{Call}
use Rattle.text.specs.declared.engine.Engine.{Engine}

-- whether a call was refused, and what the calls before it leave
pub record PerformState : Type 0 where
  pub refused : Bool
  pub engine : Contents

-- the final ruling from here: the calls before were refused at `line`, or others follow
unfoldable pub ruling_from : Capacity → ℕ → List NumberedCall → List ℕ → PerformState → Ruling
ruling_from c line more s r = cond r.refused (no_at Full line) (ruling_at_end c (perform c more (tally_of s r.engine)))

-- the calls xs were run, whatever their line and whatever follows
pub record PerformsCalls (s c' s' : List ℕ) (a : PerformState) (xs : List Call) (r : PerformState) : Type 0 where
  pub invariant : EngineInvariant c' s' r.engine
  pub is : (line : ℕ) (more : List NumberedCall)
      → ruling_from (at_most (capacity s)) line (at_line line xs ++ more) s a
      ≡ ruling_from (at_most (capacity s)) line more
      s' r

-- "`drop 2`, `collect`"
pub record DropCollectEnsures (s c' s' : List ℕ) (e r : Contents) : Type 0 where
  pub invariant : EngineInvariant c' s' r
  pub is : tally_of s' r ≡ drop_collect (tally_of s e)

-- the same, of an engine e before the calls and e' after them, none of the calls before them refused

abbrev pub Performs : Engine → Engine → List Call → Result ⊤ Refusal → Type 0
Performs e e' xs r = PerformsCalls e.diagram.now.store.now e'.diagram.now.cache.now e'.diagram.now.store.now
    (record { refused = false; engine = contents e }) xs (record { refused = is_err r; engine = contents e' })

abbrev pub DropsAndCollects : Engine → Engine → Type 0
DropsAndCollects e e' =
    DropCollectEnsures e.diagram.now.store.now e'.diagram.now.cache.now e'.diagram.now.store.now (contents e)
    (contents e')
