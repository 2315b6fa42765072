-- Laws of the invariant: every call keeps it, and what a register read under it holds.
use Rattle.std.specs.Prelude.{Bool, false, ◌≡◌, List, [], ℕ, ◌-◌, ◌≤◌, ◌<◌, get_or, set, Some, Result, Ok, Err}
use Rattle.std.proofs.Common.{ap, sym, subst, ◌∙◌, arith}
use Rattle.std.proofs.Math.Option.{none}
use Rattle.diagram.specs.Tensor.{bits, indices, depends, masks}
use Rattle.diagram.specs.Tally.{Set, Step}
use Rattle.diagram.specs.Meaning.{tensors, append_tensors, Valid}
use Rattle.diagram.specs.TopFreeLaws.{depends_free}
use Rattle.diagram.specs.Top.{Free}
use Rattle.diagram.specs.Lower.{LowerRequires, LowsRequires}
use Rattle.diagram.specs.Lows.{clash}
use Rattle.diagram.specs.Sets.{PrefixOf}
use Rattle.diagram.specs.Store.{nodes_of, set_of, tensor_of, RefinesEdge, RefinesFull, Refines}
use Rattle.diagram.specs.StoreLaws.{set_length}
use Rattle.diagram.specs.StoreLaws.{refines_count, sets_prefix}
use Rattle.diagram.specs.Cache.{Remembers}
use Rattle.diagram.specs.CacheLaws.{remembers_nothing, remembers_more}
use Rattle.diagram.specs.Operation.{RefinesCached}
use Rattle.diagram.specs.Restore.{StartEnsures, RollbackRequires, RollbackEnsures}
use Rattle.diagram.specs.RestoreLaws.{rollback_of, full_rollback}
use Rattle.diagram.specs.Registers.{Register, empty_register, empty_registers, GetEnsures}
use Rattle.diagram.specs.Registers.{RegistersValid, holds, holds_all}
use Rattle.diagram.specs.RegistersLaws.{registers_none, registers_put, registers_clear, registers_more}
use Rattle.diagram.specs.RegistersLaws.{edge_valid, holds_at, holds_kept}
use Rattle.diagram.specs.Collect.{CollectRequires, CollectEnsures}
use Rattle.diagram.specs.Invariant.{Invariant}
use Rattle.diagram.specs.declared.node.Edge.{Edge}
use Rattle.diagram.specs.declared.make.State.{State}
use Rattle.diagram.specs.declared.diagram.Full.{Full}

pub invariant_start : {c s s' : List ℕ} {st : State} {rs : List Register} → StartEnsures c s s' st
    → rs ≡ empty_registers
    → Invariant c s' st rs
invariant_start {s' = s'} {st = st} f q =
    rw q (record {
      sound = f.sound;
      cache = remembers_nothing s' st f.forgotten;
      registers = registers_none st.count;
    })

-- "no nodes"
pub start_set : {c s s' : List ℕ} {st : State} → StartEnsures c s s' st → set_of s' st ≡ []
unfolding set_of tensors append_tensors
start_set f = rw f.none

pub invariant_clear : {c s : List ℕ} {st : State} {rs rs' : List Register} (i : ℕ) → Invariant c s st rs
    → rs' ≡ set rs i empty_register → Invariant c s st rs'
invariant_clear i p q =
    rw q (record { sound = p.sound; cache = p.cache; registers = registers_clear i p.registers })

-- a register is set to the answer of a step that was done
set_done : {c' s s' : List ℕ} {st t : State} {rs : List Register} {f : Step indices} {e : Edge} (i : ℕ)
    → RegistersValid st.count rs → RefinesEdge s s' st t f e
    → Remembers c' s' t → {rs' : List Register} → rs' ≡ set rs i (Some e) → Invariant c' s' t rs'
set_done {t = t} i g d m q =
    rw q (record {
      sound = d.sound;
      cache = m;
      registers = registers_put i (registers_more t.count (refines_count d) g) d.valid;
    })

module _ {c s s' : List ℕ} {st : State} {rs : List Register} (p : Invariant c s st rs) {f : Step indices} where
  module _ {t : State} {e : Edge} {rs' : List Register} (i : ℕ) (put : rs' ≡ set rs i (Some e)) where
    pub invariant_refines : RefinesEdge s s' st t f e → Invariant c s' t rs'
    invariant_refines d =
        set_done i p.registers d (remembers_more s s' st t d.grown d.epoch (refines_count d) p.cache) put

    pub invariant_cached : {c' : List ℕ} → RefinesCached c' s s' st t f (Ok e) → Invariant c' s' t rs'
    invariant_cached d = set_done i p.registers d.step d.cache put

  -- a step that does not fit
  pub refines_rollback : RefinesFull s s' st f → RollbackRequires c s' st
  refines_rollback w = rollback_of p.sound w.long w.kept p.cache.past

  pub cached_rollback : {c' : List ℕ} {t : State} {x : Full} → RefinesCached c' s s' st t f (Err x)
      → RollbackRequires c' s' st
  cached_rollback w = full_rollback p.sound w

pub invariant_rollback : {c' s s' : List ℕ} {st st' : State} {rs : List Register}
    → RegistersValid st.count rs → RollbackEnsures c' s s' st st' → Invariant c' s' st' rs
invariant_rollback {s' = s'} {st' = st'} {rs = rs} g r =
    record {
      sound = r.sound;
      cache = remembers_nothing s' st' r.forgotten;
      registers = subst (λ m. RegistersValid m rs) (sym r.count) g;
    }

-- a step that leaves the cache alone
pub refines_cached : {c s : List ℕ} (s' : List ℕ) {st : State} {rs : List Register} → Invariant c s st rs
    → (t : State) (f : Step indices) (r : Result Edge Full)
    → Refines s s' st t f r → RefinesCached c s s' st t f r
refines_cached {s = s} s' {st} p t f (Ok e) d =
    record { step = d; cache = remembers_more s s' st t d.grown d.epoch (refines_count d) p.cache }
refines_cached s' p t f (Err x) d = record { step = d; cache = p.cache.past }

-- a collection

pub invariant_collectable : {c s : List ℕ} {st : State} {rs : List Register} → Invariant c s st rs
    → CollectRequires c s st rs
invariant_collectable p = record { sound = p.sound; past = p.cache.past; registers = p.registers }

pub invariant_collect : {c' s s' : List ℕ} {st st' : State} {rs rs' : List Register}
    → CollectEnsures c' s s' st st' rs rs' → Invariant c' s' st' rs'
invariant_collect {s' = s'} {st' = st'} r =
    record { sound = r.sound; cache = remembers_nothing s' st' r.forgotten; registers = r.registers }

-- what is read from a register is an edge of the store's nodes
pub read_valid : {m : ℕ} {rs : List Register} {i : ℕ} {e : Edge} (r : Register) → RegistersValid m rs
    → GetEnsures rs i r → r ≡ Some e → Valid m e
read_valid {m} {rs} {i} r g h q = edge_valid m rs i g.valid (sym h.is ∙ q)

pub holds_read : {d : ℕ} (ts : Set d) {rs : List Register} {i : ℕ} {r : Register} → GetEnsures rs i r
    → get_or (holds_all ts rs) i none ≡ holds ts r
holds_read ts {rs} {i} h = holds_at ts rs i ∙ ap (holds ts) (sym h.is)

-- k may be renamed k - 1 in an edge that does not depend on j, which is k - 1
pub lower_allowed : {s : List ℕ} {st : State} {e : Edge} {j k : ℕ} {r : Bool} → r ≡ depends j (tensor_of s st e)
    → r ≡ false → j ≡ k - 1 → 1 ≤ k → k ≤ 23
    → LowerRequires s st e k
lower_allowed {s} {st} {e} {j} d q m first last =
    let free : Free j (tensor_of s st e) = depends_free j _ (sym d ∙ q) in
    record { first = first; last = last; free = rw m at free }

-- a set of indices without 0 may go down in an edge where there is no clash
pub lows_allowed : {s : List ℕ} {st : State} {e : Edge} {m : ℕ} {r : Bool} → r ≡ clash (bits m) (tensor_of s st e)
    → r ≡ false → bits m 0 ≡ false → m < masks → LowsRequires s st e m
lows_allowed d q z small = record { small = small; zero = z; no_clash = sym d ∙ q }

-- the registers hold what they held, where nodes were put in
pub holds_after : (s s' : List ℕ) (st t : State) {rs : List Register} → RegistersValid st.count rs
    → PrefixOf (nodes_of s st) (nodes_of s' t)
    → holds_all (set_of s' t) rs ≡ holds_all (set_of s st) rs
holds_after s s' st t {rs} g w = holds_kept rs (omega (arith, set_length s st)) g.valid (sets_prefix s s' st t w)
