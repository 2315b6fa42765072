-- A step may be settled; emptied registers.
use Rattle.std.specs.Prelude.{◌≡◌, refl, List, ℕ, Result, Ok, Err, Some, set}
use Rattle.std.specs.Fn.{FnOnceReturnsAtMut}
use Rattle.std.proofs.Common.{subst}
use Rattle.diagram.specs.Attempt.{Steps, UndoRequires, Attempts}
use Rattle.diagram.specs.Tally.{Step}
use Rattle.diagram.specs.Tensor.{indices}
use Rattle.diagram.specs.Store.{Refines}
use Rattle.diagram.specs.Operation.{RefinesCached}
use Rattle.diagram.specs.Invariant.{Invariant}
use Rattle.diagram.specs.InvariantLaws.{invariant_clear, invariant_cached, invariant_refines}
use Rattle.diagram.specs.InvariantLaws.{cached_rollback, refines_rollback}
use Rattle.diagram.specs.Registers.{Register}
use Rattle.diagram.specs.declared.node.Edge.{Edge}
use Rattle.diagram.specs.declared.make.State.{State}
use Rattle.diagram.specs.declared.diagram.Full.{Full}
use Rattle.diagram.specs.Diagram.{Does, DoesCached, KeepsCache, KeepsLoans}
use Rattle.diagram.specs.AttemptLaws.{keeps_cache_loans, keeps_loans_then}
use Rattle.diagram.specs.declared.diagram.Diagram.{Diagram}
use Rattle.replay.specs.declared.calls.Replay.{Replay}
use Rattle.replay.specs.Replay.{IsReplay, cleared, MaySettleIn, MaySet, MaySetWithLoans}

-- a step that remembers its results, and one that leaves the cache alone

pub settles_cached : {c c' s s' : List ℕ} {st t : State} {rs : List Register} {f : Step indices} (m : Result Edge Full)
    → Invariant c s st rs → RefinesCached c' s s' st t f m → MaySettleIn c' s' t st rs m
settles_cached (Ok e) p d = λ i. invariant_cached p i refl d
settles_cached (Err x) p d = (cached_rollback p d, p.registers)

pub settles_step : {c c' s : List ℕ} (s' : List ℕ) {st : State} (t : State) {rs : List Register} (f : Step indices)
    (m : Result Edge Full) → Invariant c s st rs → c' ≡ c → Refines s s' st t f m → MaySettleIn c' s' t st rs m
settles_step s' t f (Ok e) p q d = λ i. rw q (invariant_refines p i refl d)
settles_step s' t f (Err x) p q d = (rw q (refines_rollback p d), p.registers)

-- emptied registers keep what holds between two calls
pub invariant_cleared : {c s : List ℕ} {st : State} {rs rs' : List Register}
    → Invariant c s st rs → rs' ≡ cleared rs → Invariant c s st rs'
invariant_cleared p q = invariant_clear 2 (invariant_clear 1 (invariant_clear 0 p refl) refl) q

-- the same of the diagram that a step is lent, and of what it leaves there

pub sets_cached : (f : Step indices) (m : Result Edge Full) {r : Replay} {d d' t : Diagram} → IsReplay r
    → d ≡ r.diagram → d' ≡ t → DoesCached d d' f m → MaySet r t m
sets_cached f m {r} p q e h = rw (← e) (settles_cached m p (rw q at h))

pub sets_step : (f : Step indices) (m : Result Edge Full) {r : Replay} {d d' t : Diagram} → IsReplay r
    → d ≡ r.diagram → d' ≡ t → KeepsCache d d' → Does d d' f m → MaySet r t m
sets_step f m {r} {d} {d'} p q e k h =
    rw (← e) (settles_step d'.store.now d'.state f m p (rw q at k.same_words) (rw q at h))

-- .. over the store and the cache that were lent

pub sets_cached_loans : (f : Step indices) (m : Result Edge Full) {r : Replay} {d d' t : Diagram} → IsReplay r
    → d ≡ r.diagram → d' ≡ t → KeepsLoans d d' → DoesCached d d' f m → MaySetWithLoans r t m
sets_cached_loans f m p q e k h = (rw (← e) (rw q at k), sets_cached f m p q e h)

pub sets_step_loans : (f : Step indices) (m : Result Edge Full) {r : Replay} {d d' t : Diagram} → IsReplay r
    → d ≡ r.diagram → d' ≡ t → KeepsCache d d' → Does d d' f m → MaySetWithLoans r t m
sets_step_loans f m p q e k h = (rw (← e) (keeps_cache_loans (rw q at k)), sets_step f m p q e k h)

-- what a step leaves, where it did not fit and where it was done

pub may_undo : (r : Replay) (t : Diagram) (m : Result Edge Full) → MaySet r t m
    → UndoRequires t.cache.now t.store.now r.diagram.state m
may_undo r t (Ok e) h = tt
may_undo r t (Err x) h = h.0

pub attempt_loans : {F : Type 0} {g : Steps F} {step : F} (r : Replay) {d' : Diagram} {m : Result Edge Full}
    → ((m : Result Edge Full) (t : Diagram) → FnOnceReturnsAtMut g step r.diagram m t → MaySetWithLoans r t m)
    → Attempts g step r.diagram d' m → KeepsLoans r.diagram d'
attempt_loans r gives a = keeps_loans_then (gives _ a.left a.met).0 a.loans

pub attempt_edge : {F : Type 0} {g : Steps F} {step : F} (r : Replay) {d' : Diagram} {rs' : List Register} (i : ℕ)
    {m : Result Edge Full} {e : Edge}
    → ((m : Result Edge Full) (t : Diagram) → FnOnceReturnsAtMut g step r.diagram m t → MaySet r t m)
    → Attempts g step r.diagram d' m → m ≡ Ok e → rs' ≡ set r.registers.all i (Some e)
    → Invariant d'.cache.now d'.store.now d'.state rs'
attempt_edge {g = g} {step} r {d'} i {e = e} gives a q p =
    let b : Attempts g step r.diagram d' (Ok e) = subst (Attempts g step r.diagram d') q a in
    rw (p, b.ends) (gives (Ok e) b.left b.met i)
