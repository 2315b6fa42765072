-- A step that is attempted: it is done, or the nodes are those before it.
use Rattle.std.specs.Prelude.{List, ℕ, ◌≡◌, Result, MatchResult}
use Rattle.std.specs.Fn.{Once, FnOnceTakesAtMut, FnOnceReturnsAtMut}
use denote.Ref.{MutBor}
use Rattle.diagram.specs.Restore.{RollbackRequires, RollbackEnsures}
use Rattle.diagram.specs.Diagram.{KeepsLoans}
use Rattle.diagram.specs.declared.make.State.{State}
use Rattle.diagram.specs.declared.node.Edge.{Edge}
use Rattle.diagram.specs.declared.diagram.Diagram.{Diagram}
use Rattle.diagram.specs.declared.diagram.Full.{Full}

-- the contract of a closure that makes a step of a diagram
abbrev pub Steps : Type 0 → Type 1
Steps F = Once F (MutBor Diagram × Unit {0}) (Result Edge Full × (MutBor Diagram × Unit {0}))

-- what a step that did not fit leaves can be rolled back
abbrev pub UndoRequires : List ℕ → List ℕ → State → Result Edge Full → Type 0
UndoRequires c s st m = MatchResult m (λ _. Unit {0}) (λ _. RollbackRequires c s st)

-- the closure may be called with the diagram, and where its step does not fit, the diagram can be rolled back
pub record MayAttempt {F : Type 0} (g : Steps F) (step : F) (d : Diagram) : Type 0 where
  pub may : FnOnceTakesAtMut g step d
  pub ends : (m : Result Edge Full) (t : Diagram) → FnOnceReturnsAtMut g step d m t
      → UndoRequires t.cache.now t.store.now d.state m

-- The closure was called: it gave this very result and left the diagram `left`. That is what there is now, if the step
-- was done; if it did not fit, it was rolled back. So loans that the step keeps are kept.
pub record Attempts {F : Type 0} (g : Steps F) (step : F) (d d' : Diagram) (m : Result Edge Full) : Type 0 where
  pub left : Diagram
  pub met : FnOnceReturnsAtMut g step d m left
  pub loans : KeepsLoans left d'
  pub ends : MatchResult m (λ _. d' ≡ left)
      (λ _. RollbackEnsures d'.cache.now left.store.now d'.store.now d.state d'.state)
