-- Starting with no nodes, and coming back from a refused call or a sweep.
use Rattle.std.specs.Prelude.{◌≡◌, List, [], ℕ, ◌≤◌, ◌<◌, length}
use Rattle.diagram.specs.Node.{HoldsNodes}
use Rattle.diagram.specs.Insert as insert
use Rattle.diagram.specs.Canonical.{Canonical}
use Rattle.diagram.specs.Store.{nodes_of, Sound}
use Rattle.diagram.specs.Cache.{NoneLater, AllEarlier}
use Rattle.diagram.specs.Tensor.{indices}
use Rattle.diagram.specs.declared.make.State.{State}

-- "A session starts with no nodes", and nothing is remembered: no entry is of the epoch
pub record StartEnsures (c s s' : List ℕ) (st : State) : Type 0 where
  pub long : length s' ≡ length s
  pub sound : Sound s' st
  pub forgotten : AllEarlier c st.epoch
  pub none : nodes_of s' st ≡ []

-- what a refused call or a sweep leaves: the nodes of the state, perhaps more nodes, and a table to be made anew
pub record RollbackRequires (c s : List ℕ) (st : State) : Type 0 where
  pub room : HoldsNodes s st.count
  pub numbered : st.count < 65536
  pub ready : 16 ≤ length s → insert.TableFits s st.count st.buckets
  pub nodes : Canonical indices (nodes_of s st)
  pub past : NoneLater c st.epoch

-- the nodes of st as they were, sound, and nothing is remembered ("by an earlier call that was refused, is never used")
pub record RollbackEnsures (c' s s' : List ℕ) (st st' : State) : Type 0 where
  pub long : length s' ≡ length s
  pub count : st'.count ≡ st.count
  pub sound : Sound s' st'
  pub forgotten : AllEarlier c' st'.epoch
  pub kept : nodes_of s' st' ≡ nodes_of s st

-- the table is made anew, or the store has no room for one
pub data RebuiltOrNoRoom (s s' : List ℕ) (m k : ℕ) : Type 0 where
  built : insert.RebuildEnsures s s' m k → RebuiltOrNoRoom s s' m k
  no_room : length s < 16 → s' ≡ s → RebuiltOrNoRoom s s' m k
