-- A node's record ("the places of its fields being the builder's"): node n has record n - 1. In normal form its low
-- weight is 0 or 1.
--   field 0   index + 256 · low weight + 512 · (high weight / 65536)
--   field 1   low node             field 2   high weight % 65536          field 3   high node
--   field 4   the unique table's head of bucket n - 1                     field 5   the next node of n's chain
--   field 6   mask % 65536         field 7   mask / 65536
use Rattle.std.specs.Prelude.{List, [], ◌∷◌, ◌++◌, ℕ, ◌+◌, ◌*◌, ◌/◌, ◌%◌, ◌≤◌, ◌<◌, ◌-◌, min, zero}
use Rattle.std.specs.Prelude.{suc, length, Bool, eqb, ◌&&◌}
use Rattle.diagram.specs.Fields.{field, put_field}
use Rattle.diagram.specs.declared.node.Node.{Node}
use Rattle.diagram.specs.declared.node.Edge.{Edge}

-- the parts of a node are within their widths
pub record NodeFits (x : Node) : Type 0 where
  pub index_fits : x.index < 256
  pub low_weight_fits : x.low.weight < 2
  pub low_node_fits : x.low.node < 65536
  pub high_weight_fits : x.high.weight < 131072
  pub high_node_fits : x.high.node < 65536
  pub mask_fits : x.mask < 4294967296

-- "Capacity is the lent store's bytes divided by 16, rounded down, at most 65,535; it may be 0."
abbrev pub capacity : List ℕ → ℕ
capacity s = min 65535 (length s / 16)

-- the store has the records of nodes 1 .. n
abbrev pub HoldsNodes : List ℕ → ℕ → Type 0
HoldsNodes s n = 16 * n ≤ length s

-- node n's record lies within the store
pub record RecordWithin (s : List ℕ) (n : ℕ) : Type 0 where
  pub first : 1 ≤ n
  pub last : HoldsNodes s n

-- the node of its six fields
unfoldable pub decode : ℕ → ℕ → ℕ → ℕ → ℕ → ℕ → Node
decode a b c d e f =
    record {
      index = a % 256;
      low = record { weight = a / 256 % 2; node = b };
      high = record
          { weight = c + 65536 * (a / 512 % 2); node = d };
      mask = e + 65536 * f;
    }

-- node n
unfoldable pub node_at : List ℕ → ℕ → Node
node_at s n =
    decode (field s 0 (n - 1)) (field s 1 (n - 1)) (field s 2 (n - 1)) (field s 3 (n - 1)) (field s 6 (n - 1))
    (field s 7 (n - 1))

-- field 0 of a node
abbrev pub packed_field : Node → ℕ
packed_field x = x.index + 256 * x.low.weight + 512 * (x.high.weight / 65536)

-- the store with x for its node n
unfoldable pub put_node : List ℕ → ℕ → Node → List ℕ
put_node s n x =
    put_field
    (put_field (put_field (put_field (put_field (put_field s 0 (n - 1) (packed_field x)) 1 (n - 1) x.low.node) 2
    (n - 1) (x.high.weight % 65536)) 3 (n - 1) x.high.node) 6 (n - 1) (x.mask % 65536)) 7 (n - 1)
    (x.mask / 65536)

-- the unique table's fields

abbrev pub head_at : List ℕ → ℕ → ℕ
head_at s b = field s 4 b

abbrev pub next_at : List ℕ → ℕ → ℕ
next_at s n = field s 5 (n - 1)

-- the nodes 1 .. m as a list
unfoldable pub listed : (ℕ → Node) → ℕ → List Node
listed f zero = []
listed f (suc m) = listed f m ++ (f (suc m) ∷ [])

abbrev pub nodes_up_to : List ℕ → ℕ → List Node
nodes_up_to s m = listed (node_at s) m

-- what the derived `==` of edges and of nodes answers

abbrev pub same_edge : Edge → Edge → Bool
same_edge a b = eqb a.weight b.weight && eqb a.node b.node

abbrev pub same_node : Node → Node → Bool
same_node x y = eqb x.index y.index && (same_edge x.low y.low && (same_edge x.high y.high && eqb x.mask y.mask))
