-- Making a node: the number that it has, or one more node, or no room.
use Rattle.std.specs.Prelude.{◌≡◌, List, [], ◌∷◌, ◌++◌, ℕ, ◌+◌, ◌≤◌, ◌<◌, length}
use Rattle.diagram.specs.Node.{capacity, HoldsNodes, node_at, listed}
use Rattle.diagram.specs.Table.{TableSound, Absent}
use Rattle.diagram.specs.declared.node.Node.{Node}
use Rattle.diagram.specs.declared.make.State.{State}

-- the store has room for as many nodes as the state says, and holds their unique table where it holds a record at all
pub record StateSound (s : List ℕ) (st : State) : Type 0 where
  pub room : HoldsNodes s st.count
  pub numbered : st.count < 65536
  pub table : 16 ≤ length s → TableSound s st.count st.buckets

-- of nodes f 1 .. f m to nodes f' 1 .. f' n: they are the same; or x, which was not among them, is one more, at r
pub data FoundOrAdded (f : ℕ → Node) (m : ℕ) (x : Node) (f' : ℕ → Node) (n r : ℕ) : Type 0 where
  old : n ≡ m → listed f' n ≡ listed f m → FoundOrAdded f m x f' n r
  new : n ≡ m + 1 → r ≡ m + 1 → Absent f m x → listed f' n ≡ listed f m ++ (x ∷ []) → FoundOrAdded f m x f' n r

-- x is node r
pub record MakeAt (s s' : List ℕ) (st st' : State) (x : Node) (r : ℕ) : Type 0 where
  pub long : length s' ≡ length s
  pub stored : StateSound s' st'
  pub epoch : st'.epoch ≡ st.epoch
  pub first : 1 ≤ r
  pub within : r ≤ st'.count
  pub here : node_at s' r ≡ x
  pub entered : FoundOrAdded (node_at s) st.count x (node_at s') st'.count r

-- x is none of the nodes, and the capacity is reached
pub record MakeFull (s s' : List ℕ) (st : State) (x : Node) : Type 0 where
  pub same : s' ≡ s
  pub absent : Absent (node_at s) st.count x
  pub full : capacity s ≤ st.count
