-- What linking a node into its chain, appending a node and making the table anew do to the unique table.
use Rattle.std.specs.Prelude.{◌≡◌, List, [], ◌∷◌, ◌++◌, ℕ, ◌+◌, ◌*◌, ◌≤◌, ◌<◌, ◌-◌, length}
use Rattle.diagram.specs.Fields.{put_field}
use Rattle.diagram.specs.Node.{node_at, head_at, nodes_up_to, HoldsNodes}
use Rattle.diagram.specs.Table.{hash_of, TableSound}
use Rattle.diagram.specs.declared.node.Node.{Node}

-- k buckets fit, and n is a number that a head can hold
pub record TableFits (s : List ℕ) (n k : ℕ) : Type 0 where
  pub some : 1 ≤ k
  pub place : 16 * k ≤ length s
  pub numbered : n < 65536

-- node n at the front of its chain
unfoldable pub link_node : ℕ → ℕ → List ℕ → List ℕ
link_node k n s = put_field (put_field s 5 (n - 1) (head_at s (hash_of k (node_at s) n))) 4 (hash_of k (node_at s) n) n

-- the store s' is s with x after its m nodes
pub record AppendEnsures (s s' : List ℕ) (m k : ℕ) (x : Node) : Type 0 where
  pub long : length s' ≡ length s
  pub indexed : TableSound s' (m + 1) k
  pub added : nodes_up_to s' (m + 1) ≡ nodes_up_to s m ++ (x ∷ [])
  pub here : node_at s' (m + 1) ≡ x

-- the store s' is s with the first i heads 0
pub record ClearEnsures (s s' : List ℕ) (i : ℕ) : Type 0 where
  pub long : length s' ≡ length s
  pub kept : node_at s' ≡ node_at s
  pub none : (b : ℕ) → b < i → head_at s' b ≡ 0

-- the store s' is s with a right table for its nodes 1 .. m
pub record RebuildEnsures (s s' : List ℕ) (m k : ℕ) : Type 0 where
  pub long : length s' ≡ length s
  pub indexed : TableSound s' m k
  pub kept : node_at s' ≡ node_at s

-- The table of nodes 1 .. m of 1 .. n is made, with k buckets, in the store s' that was s.
pub record RebuildLoop (s s' : List ℕ) (m n k : ℕ) : Type 0 where
  pub rebuilt : RebuildEnsures s s' m k
  pub within : m ≤ n
  pub room : HoldsNodes s n
  pub numbered : n < 65536
