-- Laws of a step that is attempted: what it leaves can be rolled back, or is there now.
use Rattle.std.specs.Prelude.{◌≡◌, refl, List, ℕ, length, Result, Ok, Err, is_err, true, false}
use Rattle.std.specs.Fn.{FnOnceReturnsAtMut}
use Rattle.std.proofs.Common.{◌∙◌, sym, ap}
use Rattle.std.proofs.lemmas.Bool.{false≢true}
use Rattle.diagram.specs.Restore.{RollbackRequires}
use Rattle.diagram.specs.Attempt.{Steps, UndoRequires, Attempts}
use Rattle.diagram.specs.Diagram.{KeepsLoans, KeepsCache}
use Rattle.diagram.specs.declared.make.State.{State}
use Rattle.diagram.specs.declared.node.Edge.{Edge}
use Rattle.diagram.specs.declared.diagram.Diagram.{Diagram}
use Rattle.diagram.specs.declared.diagram.Full.{Full}

pub undo_full : {c s : List ℕ} {st : State} (m : Result Edge Full) → UndoRequires c s st m → is_err m ≡ true
    → RollbackRequires c s st
undo_full (Ok e) h q = absurd (false≢true q)
undo_full (Err x) h q = h

pub keeps_itself : (d : Diagram) → KeepsLoans d d
keeps_itself d = record { long = refl; cache_long = refl; same_store = refl; same_cache = refl }

-- a cache that is as it was is as long as it was
pub keeps_cache_loans : {d d' : Diagram} → KeepsCache d d' → KeepsLoans d d'
keeps_cache_loans k = record {
  long = k.long;
  cache_long = ap length k.same_words;
  same_store = k.same_store;
  same_cache = k.same_cache;
}

-- the same loans after one step and another
pub keeps_loans_then : {d d₁ d' : Diagram} → KeepsLoans d d₁ → KeepsLoans d₁ d' → KeepsLoans d d'
keeps_loans_then k l = record {
  long = l.long ∙ k.long;
  cache_long = l.cache_long ∙ k.cache_long;
  same_store = l.same_store ∙ k.same_store;
  same_cache = l.same_cache ∙ k.same_cache;
}

pub attempted : {F : Type 0} {g : Steps F} {step : F} {d t : Diagram} (m : Result Edge Full)
    → FnOnceReturnsAtMut g step d m t → is_err m ≡ false → Attempts g step d t m
attempted {t = t} (Ok e) h q = record { left = t; met = h; loans = keeps_itself t; ends = refl }
attempted (Err x) h q = absurd (false≢true (sym q))
