-- Moving the marked nodes down. Field 5, which the table does not use meanwhile, holds a node's mark, and once the node
-- has moved its new number.
use Rattle.std.specs.Prelude.{◌≡◌, cond, ◌≢◌, List, [], ◌∷◌, ◌++◌, ℕ, zero, suc, ◌+◌, ◌*◌, ◌≤◌, ◌<◌, ◌-◌, length, eqb}
use Rattle.std.specs.Prelude.{Some, None}
use Rattle.diagram.specs.Fields.{field, put_field}
use Rattle.diagram.specs.Node.{node_at, put_node, listed}
use Rattle.diagram.specs.Meaning.{tensor_at, tensors}
use Rattle.diagram.specs.Canonical.{Canonical}
use Rattle.diagram.specs.Registers.{Register}
use Rattle.diagram.specs.declared.node.Node.{Node}
use Rattle.diagram.specs.declared.node.Edge.{Edge}

-- how many of 1 .. m are marked; for a marked m its new number
unfoldable pub new_number : (ℕ → ℕ) → ℕ → ℕ
new_number a zero = 0
new_number a (suc m) = cond (eqb (a (suc m)) 0) (new_number a m) (suc (new_number a m))

-- a node with its children renumbered
abbrev pub renumber_node : (ℕ → ℕ) → Node → Node
renumber_node g x =
    record {
      index = x.index;
      low = record { weight = x.low.weight; node = g x.low.node };
      high = record
          { weight = x.high.weight; node = g x.high.node };
      mask = x.mask;
    }

-- the marked nodes of 1 .. m, renumbered
unfoldable pub survivors : (ℕ → ℕ) → (ℕ → Node) → ℕ → List Node
survivors a f zero = []
survivors a f (suc m) =
    cond (eqb (a (suc m)) 0) (survivors a f m) (survivors a f m ++ (renumber_node (new_number a) (f (suc m)) ∷ []))

-- the children of marked nodes are marked, and stand before them
pub record MarksClosed (a : ℕ → ℕ) (f : ℕ → Node) (count : ℕ) : Type 0 where
  pub low : (n : ℕ) → 1 ≤ n → n ≤ count → a n ≢ 0 → (f n).low.node ≢ 0 → ((f n).low.node < n) × (a (f n).low.node ≢ 0)
  pub high : (n : ℕ) → 1 ≤ n → n ≤ count → a n ≢ 0 → (f n).high.node ≢ 0
      → ((f n).high.node < n) × (a (f n).high.node ≢ 0)

-- the new number of c, as the store has it
unfoldable pub forward : List ℕ → ℕ → ℕ
forward s c = cond (eqb c 0) 0 (field s 5 (c - 1))

-- node n becomes node k
unfoldable pub shift_node : ℕ → ℕ → List ℕ → List ℕ
shift_node n k s = put_field (put_node s k (renumber_node (forward s) (node_at s n))) 5 (n - 1) k

-- the nodes 1 .. m have been looked at; a were the marks and f the nodes
pub record CompactLoop (a : ℕ → ℕ) (f : ℕ → Node) (count : ℕ) (s : List ℕ) (m k : ℕ) : Type 0 where
  pub within : m ≤ count
  pub counted : k ≡ new_number a m
  pub moved : listed (node_at s) k ≡ survivors a f m
  pub numbers : (n : ℕ) → 1 ≤ n → n ≤ m → a n ≢ 0 → field s 5 (n - 1) ≡ new_number a n
  pub marks : (n : ℕ) → m < n → n ≤ count → field s 5 (n - 1) ≡ a n
  pub ahead : (n : ℕ) → m < n → n ≤ count → node_at s n ≡ f n

-- the children of node n are within the store
pub record ChildrenWithin (s : List ℕ) (n : ℕ) : Type 0 where
  pub low_within : 16 * (node_at s n).low.node ≤ length s
  pub high_within : 16 * (node_at s n).high.node ≤ length s

-- one node further, whatever the marks and nodes were
pub record CompactStepEnsures (count : ℕ) (s s' : List ℕ) (m k r : ℕ) : Type 0 where
  pub on : (a : ℕ → ℕ) (f : ℕ → Node) → MarksClosed a f count → CompactLoop a f count s m k
      → CompactLoop a f count s' (m + 1) r

pub record CompactEnsures (s s' : List ℕ) (count r : ℕ) : Type 0 where
  pub counted : r ≡ new_number (λ n. field s 5 (n - 1)) count
  pub moved : listed (node_at s') r ≡ survivors (λ n. field s 5 (n - 1)) (node_at s) count
  pub numbers : (n : ℕ) → 1 ≤ n → n ≤ count → field s 5 (n - 1) ≢ 0
      → field s' 5 (n - 1) ≡ new_number (λ n. field s 5 (n - 1)) n

-- a register, where it is filled with its node renumbered
unfoldable pub renumber_register : (ℕ → ℕ) → Register → Register
renumber_register g None = None
renumber_register g (Some e) = Some (record { weight = e.weight; node = g e.node })

unfoldable pub renumber_registers : (ℕ → ℕ) → List Register → List Register
renumber_registers g [] = []
renumber_registers g (r ∷ rs) = renumber_register g r ∷ renumber_registers g rs

-- the first i of them
unfoldable pub renumber_first : (ℕ → ℕ) → ℕ → List Register → List Register
renumber_first g zero rs = rs
renumber_first g (suc i) [] = []
renumber_first g (suc i) (r ∷ rs) = renumber_register g r ∷ renumber_first g i rs

-- an edge to the node's new number
abbrev pub renumber_edge : (ℕ → ℕ) → Edge → Edge
renumber_edge a e = record { weight = e.weight; node = new_number a e.node }

-- node n stays: it is node 0, or marked
abbrev pub Survives : (ℕ → ℕ) → ℕ → Type 0
Survives a n = n ≢ 0 → a n ≢ 0

-- each new number is some node's
pub record HasOldNumber (a : ℕ → ℕ) (m k : ℕ) : Type 0 where
  pub number : ℕ
  pub below : number ≤ m
  pub stays : Survives a number
  pub is : new_number a number ≡ k

-- the list ys is the survivors of nodes 1 .. m, canonical again, and a survivor's tensor is at its new number
pub record SurvivorsKept (d : ℕ) (f : ℕ → Node) (count : ℕ) (a : ℕ → ℕ) (ys : List Node) (m : ℕ) : Type 0 where
  pub long : length ys ≡ new_number a m
  pub kept : (n : ℕ) → n ≤ m → Survives a n
      → tensor_at (tensors d ys) (new_number a n) ≡ tensor_at (tensors d (listed f count)) n
  pub nodes : Canonical d ys
