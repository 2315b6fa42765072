-- A collection (document 01, `collect`): what it asks and what it leaves.
use Rattle.std.specs.Prelude.{◌≡◌, ◌≢◌, List, ℕ, ◌≤◌}
use Rattle.diagram.specs.Tally.{collect, filled_tensors}
use Rattle.diagram.specs.Node.{node_at, listed}
use Rattle.diagram.specs.Store.{set_of, Sound}
use Rattle.diagram.specs.Cache.{NoneLater, AllEarlier}
use Rattle.diagram.specs.Compact.{new_number, survivors, MarksClosed, renumber_registers}
use Rattle.diagram.specs.Mark.{AllMarked}
use Rattle.diagram.specs.Registers.{Register, holds_all, weights_of, edges_of, RegistersValid}
use Rattle.diagram.specs.declared.make.State.{State}

-- "a collection closes the gaps and preserves order, so freed places are used again": the nodes that the registers rs
-- lead to have moved down, k of them; rs' are the registers with their new numbers
pub record SweepEnsures (count : ℕ) (rs : List Register) (s s' : List ℕ) (k : ℕ) (rs' : List Register) : Type 0 where
  pub marks : ℕ → ℕ
  pub all : AllMarked marks (edges_of rs)
  pub closed : MarksClosed marks (node_at s) count
  pub least : (b : ℕ → ℕ) → AllMarked b (edges_of rs) → MarksClosed b (node_at s) count → (n : ℕ) → 1 ≤ n → n ≤ count
      → marks n ≢ 0 → b n ≢ 0
  pub counted : k ≡ new_number marks count
  pub moved : listed (node_at s') k ≡ survivors marks (node_at s) count
  pub registers : rs' ≡ renumber_registers (new_number marks) rs

-- what a collection needs: a sound store, registers of it, and a cache with no entry of a later epoch
pub record CollectRequires (c s : List ℕ) (st : State) (rs : List Register) : Type 0 where
  pub sound : Sound s st
  pub past : NoneLater c st.epoch
  pub registers : RegistersValid st.count rs

-- What it leaves. "collect: the set keeps exactly the normal multiples of the nonconstant tensors got from filled
-- registers by fixing indices 0 to j-1, for j from 0 to 23." The registers hold the tensors that they held, with the
-- weights that they had. "A remembered result made before a collection .. is never used": nothing is remembered
-- afterwards, no entry is of the epoch.
pub record CollectEnsures (c' s s' : List ℕ) (st st' : State) (rs rs' : List Register) : Type 0 where
  pub sound : Sound s' st'
  pub forgotten : AllEarlier c' st'.epoch
  pub registers : RegistersValid st'.count rs'
  pub weights : weights_of rs' ≡ weights_of rs
  pub same : holds_all (set_of s' st') rs' ≡ holds_all (set_of s st) rs
  pub set : set_of s' st' ≡ collect (filled_tensors (holds_all (set_of s st) rs)) (set_of s st)
