-- Marking: no mark but those of the filled registers' nodes, then all that these lead to, in one pass downwards. The
-- marks are field 5.
use Rattle.std.specs.Prelude.{◌≡◌, ◌≢◌, List, [], ◌∷◌, ◌++◌, ℕ, ◌≤◌, ◌<◌, ◌-◌, length, take}
use Rattle.diagram.specs.Fields.{field}
use Rattle.diagram.specs.Node.{node_at}
use Rattle.diagram.specs.Compact.{MarksClosed}
use Rattle.diagram.specs.Registers.{Register, edges_of}
use Rattle.diagram.specs.declared.node.Node.{Node}
use Rattle.diagram.specs.declared.node.Edge.{Edge}

-- n is marked
abbrev pub Marked : List ℕ → ℕ → Type 0
Marked s n = field s 5 (n - 1) ≢ 0

-- s' is s with node c marked
pub record MarkEnsures (s s' : List ℕ) (c : ℕ) : Type 0 where
  pub long : length s' ≡ length s
  pub kept : node_at s' ≡ node_at s
  pub mono : (n : ℕ) → Marked s n → Marked s' n
  pub hit : c ≢ 0 → Marked s' c
  pub only : (n : ℕ) → 1 ≤ n → n ≢ c → Marked s' n → Marked s n

-- every child stands before its parent
pub record ChildrenBefore (f : ℕ → Node) (count : ℕ) : Type 0 where
  pub low : (n : ℕ) → 1 ≤ n → n ≤ count → (f n).low.node < n
  pub high : (n : ℕ) → 1 ≤ n → n ≤ count → (f n).high.node < n

-- the nodes above n have their children marked; r are the marks at first, f the nodes. No more is marked than
-- must be.
pub record SpreadLoop (r : ℕ → ℕ) (f : ℕ → Node) (count : ℕ) (s : List ℕ) (n : ℕ) : Type 0 where
  pub kept : node_at s ≡ f
  pub roots : (j : ℕ) → 1 ≤ j → j ≤ count → r j ≢ 0 → Marked s j
  pub low : (j : ℕ) → n < j → j ≤ count → Marked s j → (f j).low.node ≢ 0 → Marked s (f j).low.node
  pub high : (j : ℕ) → n < j → j ≤ count → Marked s j → (f j).high.node ≢ 0 → Marked s (f j).high.node
  pub least : (b : ℕ → ℕ) → ((j : ℕ) → 1 ≤ j → j ≤ count → r j ≢ 0 → b j ≢ 0) → MarksClosed b f count
      → (j : ℕ) → 1 ≤ j → j ≤ count → Marked s j → b j ≢ 0

-- s' is s with what its marked nodes lead to marked, and no more
pub record SpreadEnsures (s s' : List ℕ) (count : ℕ) : Type 0 where
  pub kept : node_at s' ≡ node_at s
  pub roots : (j : ℕ) → 1 ≤ j → j ≤ count → Marked s j → Marked s' j
  pub closed : MarksClosed (λ n. field s' 5 (n - 1)) (node_at s) count
  pub least : (b : ℕ → ℕ) → ((j : ℕ) → 1 ≤ j → j ≤ count → Marked s j → b j ≢ 0) → MarksClosed b (node_at s) count
      → (j : ℕ) → 1 ≤ j → j ≤ count → Marked s' j → b j ≢ 0

-- node n is looked at, whatever the marks and nodes were
pub record MarkChildrenEnsures (count : ℕ) (s s' : List ℕ) (n : ℕ) : Type 0 where
  pub on : (r : ℕ → ℕ) (f : ℕ → Node) → ChildrenBefore f count → SpreadLoop r f count s n
      → SpreadLoop r f count s' (n - 1)

-- the nodes of the edges are marked
abbrev pub AllMarked : (ℕ → ℕ) → List Edge → Type 0
AllMarked a [] = Unit {0}
AllMarked a (e ∷ es) = (e.node ≢ 0 → a e.node ≢ 0) × AllMarked a es

abbrev pub marks_of : List ℕ → ℕ → ℕ
marks_of s n = field s 5 (n - 1)

-- nodes 1 .. m are not marked; the nodes are those of s₀
pub record NoneMarked (s₀ s : List ℕ) (m : ℕ) : Type 0 where
  pub kept : node_at s ≡ node_at s₀
  pub none : (n : ℕ) → 1 ≤ n → n ≤ m → marks_of s n ≡ 0

-- of nodes 1 .. count those of the edges are marked and no others
pub record ExactlyMarked (count : ℕ) (es : List Edge) (s₀ s : List ℕ) : Type 0 where
  pub kept : node_at s ≡ node_at s₀
  pub all : AllMarked (marks_of s) es
  pub only : (b : ℕ → ℕ) → AllMarked b es → (n : ℕ) → 1 ≤ n → n ≤ count → Marked s n → b n ≢ 0

-- a register's node is marked, whatever was before
pub record RootEnsures (x : Register) (s s' : List ℕ) : Type 0 where
  pub on : (count : ℕ) (es : List Edge) (s₀ : List ℕ) → ExactlyMarked count es s₀ s
      → ExactlyMarked count (es ++ edges_of (x ∷ [])) s₀ s'

-- the first i registers' nodes are marked, where none was
pub record RootsLoop (count : ℕ) (rs : List Register) (s s' : List ℕ) (i : ℕ) : Type 0 where
  pub on : (s₀ : List ℕ) → ExactlyMarked count [] s₀ s → ExactlyMarked count (edges_of (take i rs)) s₀ s'

pub record RootsEnsures (count : ℕ) (rs : List Register) (s s' : List ℕ) : Type 0 where
  pub on : (s₀ : List ℕ) → ExactlyMarked count [] s₀ s → ExactlyMarked count (edges_of rs) s₀ s'

-- what the registers' nodes lead to is marked, and no more
pub record ReachEnsures (count : ℕ) (es : List Edge) (s s' : List ℕ) : Type 0 where
  pub kept : node_at s' ≡ node_at s
  pub all : AllMarked (marks_of s') es
  pub closed : MarksClosed (marks_of s') (node_at s) count
  pub least : (b : ℕ → ℕ) → AllMarked b es → MarksClosed b (node_at s) count → (n : ℕ) → 1 ≤ n → n ≤ count → Marked s' n
      → b n ≢ 0
