-- What holds between two calls of a replay, and what its calls ask.
use Rattle.std.specs.Prelude.{List, ℕ, Result, MatchResult, Some, set}
use Rattle.diagram.specs.Registers.{Register, empty_register, RegistersValid}
use Rattle.diagram.specs.Restore.{RollbackRequires}
use Rattle.diagram.specs.Invariant.{Invariant}
use Rattle.diagram.specs.Diagram.{IsSound, KeepsLoans}
use Rattle.diagram.specs.declared.node.Edge.{Edge}
use Rattle.diagram.specs.declared.make.State.{State}
use Rattle.diagram.specs.declared.diagram.Diagram.{Diagram}
use Rattle.diagram.specs.declared.diagram.Full.{Full}
use Rattle.replay.specs.declared.calls.Replay.{Replay}

-- what holds between two calls: a sound store, a cache that remembers only what is stable, and registers with edges of
-- the store
abbrev pub IsReplay : Replay → Type 0
IsReplay r = Invariant r.diagram.cache.now r.diagram.store.now r.diagram.state r.registers.all

-- what is asked where registers are only read: a sound store, and registers with edges of it
abbrev pub MayRead : Replay → Type 0
MayRead r = IsSound r.diagram × RegistersValid r.diagram.state.count r.registers.all

-- The step m, from the state st, has left the state t, the store s and the cache c, and rs are the registers. If it was
-- done, what holds between two calls holds with its edge in any register; if it did not fit, the nodes of st can be had
-- again, and the registers have edges of them.
abbrev pub MaySettleIn : List ℕ → List ℕ → State → State → List Register → Result Edge Full → Type 0
MaySettleIn c s t st rs m = MatchResult m (λ e. (i : ℕ) → Invariant c s t (set rs i (Some e)))
    (λ _. RollbackRequires c s st × RegistersValid st.count rs)

-- the same of a step from the replay r, which has left the diagram d
abbrev pub MaySet : Replay → Diagram → Result Edge Full → Type 0
MaySet r d m = MaySettleIn d.cache.now d.store.now d.state r.diagram.state r.registers.all m

-- .. and it has kept store and cache
abbrev pub MaySetWithLoans : Replay → Diagram → Result Edge Full → Type 0
MaySetWithLoans r d m = KeepsLoans r.diagram d × MaySet r d m

-- the diagram is over the slices that were lent
abbrev pub KeepsReplay : Replay → Replay → Type 0
KeepsReplay r r' = KeepsLoans r.diagram r'.diagram

-- registers 0, 1 and 2 emptied, with which the second part of the replay starts
abbrev pub cleared : List Register → List Register
cleared rs = set (set (set rs 0 empty_register) 1 empty_register) 2 empty_register
