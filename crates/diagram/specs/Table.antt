-- The unique table: a hash table in the records. The head of bucket b is in record b, the next node of n's chain in n's
-- own record. A new node comes to the front of its chain, so numbers fall along a chain, and both fields are given by
-- `last`: the last node of a bucket up to a number.
use Rattle.std.specs.Prelude.{◌≡◌, cond, ◌≢◌, List, ℕ, ◌+◌, ◌*◌, ◌≤◌}
use Rattle.std.specs.Prelude.{◌<◌, ◌-◌, zero, suc, length, eqb, Option, Some, None}
use Rattle.std.specs.Int.Bits.{bit_and}
use Rattle.diagram.specs.Node.{HoldsNodes, node_at, head_at, next_at}
use Rattle.diagram.specs.declared.node.Node.{Node}

-- `last h b m` is the largest n of 1 .. m with h n ≡ b, and 0 where there is none
unfoldable pub last : (ℕ → ℕ) → ℕ → ℕ → ℕ
last h b zero = 0
last h b (suc m) = cond (eqb (h (suc m)) b) (suc m) (last h b m)

-- r is the largest n of 1 .. m with h n ≡ b, or 0: what `last` answers
pub record IsLast (h : ℕ → ℕ) (b m r : ℕ) : Type 0 where
  pub within : r ≤ m
  pub hit : 1 ≤ r → h r ≡ b
  pub gap : (n : ℕ) → r < n → n ≤ m → h n ≢ b

-- a number that differs in its lower bits for most nodes
unfoldable pub mix : Node → ℕ
mix x = x.index * 40503 + x.low.weight * 977 + x.low.node + x.high.weight * 2741 + x.high.node * 5

-- the bucket of a node, of k buckets
unfoldable pub hash : ℕ → Node → ℕ
hash k x = bit_and (mix x) (k - 1)

-- the bucket of the n-th of the nodes f. Shut, so that `rw` finds `node_at s` in `hash_of k (node_at s)`
unfoldable pub hash_of : ℕ → (ℕ → Node) → ℕ → ℕ
hash_of k f n = hash k (f n)

-- the table of the nodes 1 .. count, with k buckets, is right: a head is the last node of its bucket, a next the last
-- one before its node
pub record TableSound (s : List ℕ) (count k : ℕ) : Type 0 where
  pub room : HoldsNodes s count
  pub numbered : count < 65536
  pub some : 1 ≤ k
  pub place : 16 * k ≤ length s
  pub heads : (b : ℕ) → b < k → head_at s b ≡ last (hash_of k (node_at s)) b count
  pub nexts : (n : ℕ) → 1 ≤ n → n ≤ count → next_at s n ≡ last (hash_of k (node_at s)) (hash_of k (node_at s) n) (n - 1)

-- none of the nodes 1 .. m is x
pub record Absent (f : ℕ → Node) (m : ℕ) (x : Node) : Type 0 where
  pub not : (n : ℕ) → 1 ≤ n → n ≤ m → f n ≢ x

-- n is the number of the node x among 1 .. count
pub record FoundAt (f : ℕ → Node) (count : ℕ) (x : Node) (n : ℕ) : Type 0 where
  pub first : 1 ≤ n
  pub within : n ≤ count
  pub there : f n ≡ x

-- r is the number of the node x among 1 .. count, where there is one
pub record FindEnsures (f : ℕ → Node) (count : ℕ) (x : Node) (r : Option ℕ) : Type 0 where
  pub found : (n : ℕ) → r ≡ Some n → FoundAt f count x n
  pub absent : r ≡ None → Absent f count x

-- A walk along x's chain has come to r: no node above r is x.
pub record FindLoop (s : List ℕ) (count k : ℕ) (x : Node) (r : ℕ) : Type 0 where
  pub within : r ≤ count
  pub chain : 1 ≤ r → hash_of k (node_at s) r ≡ hash k x
  pub above : (n : ℕ) → r < n → n ≤ count → node_at s n ≢ x
