-- Demand 3, sentence by sentence: what a session leaves agrees with the tally's run, at its end and after each of its
-- lines.
use Rattle.std.proofs.Math.Option.{Option, none, some}
use Rattle.std.specs.Prelude.{Bool, true, false, ◌≡◌, ◌↔◌, List, [], ℕ, ◌^◌, ◌<◌, ◌-◌, ◌*◌, ◌≤◌, suc, get_or, length}
use Rattle.std.specs.Prelude.{take, IsErr}
use Rattle.diagram.specs.Tensor.{indices, Tensor, value, top, fix, Normal, scale, index_count}
use Rattle.diagram.specs.Tally.{Set}
use Rattle.diagram.specs.Node.{node_at, listed}
use Rattle.diagram.specs.Meaning.{tensors, tensor_at, edge_in, Valid}
use Rattle.diagram.specs.Support.{support_mask}
use Rattle.diagram.specs.Registers.{Register, empty_register, occupied, edge_of}
use Rattle.diagram.specs.Weights.{Weight, to_weight}
use Rattle.text.specs.Text.{Bytes}
use Rattle.text.specs.Limits.{register_count}
use Rattle.text.specs.Line.{read_line}
use Rattle.text.specs.Print.{written}
use Rattle.text.specs.Session.{node_count, Tally, TallyRun, Capacity, answer_read, run}
use Rattle.text.specs.declared.progress.SessionResult.{SessionResult}

-- the tensors of the nodes from 1 up, read off the store's bytes; node 0 is the constant 1 (tensor_at)
unfoldable pub node_tensors : Bytes → ℕ → Set indices
node_tensors s count = tensors indices (listed (node_at s) count)

-- register i of a session's result
abbrev pub register_in : List Register → ℕ → Register
register_in rs i = get_or rs i empty_register

abbrev pub register_at : SessionResult → ℕ → Register
register_at r i = register_in r.registers.all i

-- what the tally holds in register i
abbrev pub tally_register : Tally indices → ℕ → Option (Tensor indices)
tally_register t i = get_or t.registers i none

abbrev pub is_filled : Option (Tensor indices) → Bool
is_filled none = false
is_filled (some T) = true

-- "agree at every assignment"
abbrev pub AgreeEverywhere : Tensor indices → Tensor indices → Type 0
AgreeEverywhere A B = (v : ℕ) → v < 2 ^ indices → value A v ≡ value B v

-- Node n of the store s, where ts are the tensors of its nodes from 1 up: "A node has an index, and a weight and a node
-- number for low and for high." Its record also has the mask.
pub record IsNode (s : Bytes) (ts : Set indices) (n : ℕ) : Type 0 where
  -- its index is one of "the indices 0 to 23", and the top of its tensor: "the lowest index on which it depends"
  pub index : (node_at s n).index < index_count
  pub top : top (tensor_at ts n) ≡ some (node_at s n).index
  -- low and high each: the weight is below 65537, the node's number is smaller than n, and "Zero is weight 0 at node
  -- 0."
  pub low : Valid (n - 1) (node_at s n).low
  pub high : Valid (n - 1) (node_at s n).high
  -- "At 0 and 1 of its index a node's tensor is the low and high weight times the tensor of that edge's node;
  pub at_0 : fix (node_at s n).index false (tensor_at ts n) ≡ edge_in ts (node_at s n).low
  pub at_1 : fix (node_at s n).index true (tensor_at ts n) ≡ edge_in ts (node_at s n).high
  --  it is normal."
  pub normal : Normal (tensor_at ts n)
  -- "Each node's record now carries the mask of the indices on which its tensor depends"
  pub mask : (node_at s n).mask ≡ support_mask (tensor_at ts n)

-- s is the store and o' the output as the session leaves them, o the output as it was lent
pub record Agrees (s o o' : Bytes) (r : SessionResult) (t : TallyRun indices) : Type 0 where
  -- "The same registers are filled as in document 01's tally of the same lines."
  pub filled : (i : ℕ) → i < register_count → occupied (register_at r i) ≡ is_filled (tally_register t.tally i)
  -- "A register holds a weight and a node number. Zero is weight 0 at node 0.": the weight is below 65537, the node at
  -- most the count
  pub registers : (i : ℕ) → i < register_count → occupied (register_at r i) ≡ true
      → Valid r.count (edge_of (register_at r i))
  -- the words of an empty register are 0
  pub empty : (i : ℕ) → i < register_count → occupied (register_at r i) ≡ false → register_at r i ≡ empty_register
  -- "sixteen registers"
  pub sixteen : length r.registers.all ≡ register_count
  -- "Two filled registers have the same weight and node exactly when the tensors that the tally holds there agree at
  -- every assignment."
  pub same : (i j : ℕ) → i < register_count → j < register_count → (A B : Tensor indices)
      → tally_register t.tally i ≡ some A → tally_register t.tally j ≡ some B
      → (((edge_of (register_at r i)).weight ≡ (edge_of (register_at r j)).weight)
      × ((edge_of (register_at r i)).node ≡ (edge_of (register_at r j)).node)) ↔ AgreeEverywhere A B
  -- "No node's tensor is a multiple of another node's."
  pub multiples : (m n : ℕ) (f : Weight) → m ≤ r.count → n ≤ r.count
      → tensor_at (node_tensors s r.count) m ≡ scale f (tensor_at (node_tensors s r.count) n) → m ≡ n
  -- "Nodes": each from 1 to the count is in normal form, and "Node n fills the store's bytes 16(n-1) to 16n-1"
  pub nodes : (n : ℕ) → 1 ≤ n → n ≤ r.count → IsNode s (node_tensors s r.count) n
  pub room : 16 * r.count ≤ length s
  -- "The tensors of the nodes from 1 up are exactly those in the tally's set." Here even in the order put in.
  pub set : node_tensors s r.count ≡ t.tally.nodes
  -- "Each filled register's weight times its node's tensor is the tensor that the tally holds there."
  pub tensors : (i : ℕ) → i < register_count → occupied (register_at r i) ≡ true
      → tally_register t.tally i
      ≡ some (scale (to_weight (edge_of (register_at r i)).weight)
      (tensor_at (node_tensors s r.count) (edge_of (register_at r i)).node))
  -- "The count of lines answered, the node count and every byte printed so far equal those of the tally .. and so does
  -- the code at the end."
  pub lines : r.lines ≡ t.answered
  pub count : r.count ≡ node_count t.tally
  pub bytes : r.bytes ≡ length t.output
  pub code : r.code ≡ t.code
  -- "Output bytes after those written are untouched."
  pub printed : o' ≡ written o 0 t.output

-- "a refused line changes no register and leaves no new node": the nodes of the store, m of them, and the registers'
-- words are as before it
pub record Unchanged (s s' : Bytes) (m m' : ℕ) (rs rs' : List Register) : Type 0 where
  pub nodes : listed (node_at s') m' ≡ listed (node_at s) m
  pub registers : rs' ≡ rs

-- One line more of a run: s and r are the store and the result before it, s' and r' after it. The tally before it is t,
-- the line `line`.
pub record OneLine (c : Capacity) (line : Bytes) (t : Tally indices) (s s' : Bytes) (r r' : SessionResult) : Type 0
  where
    pub lines : r'.lines ≡ suc r.lines
    pub long : length s' ≡ length s
    pub refused : IsErr (answer_read c (read_line line) t).0
        → Unchanged s s' r.count r'.count r.registers.all r'.registers.all

-- "all of this holds at the start and after each line answered": a run of the lines ls, from the store s₀ and the
-- result r₀ that stand for the tally's t, as the stores, outputs and results that it passes. Each agrees with the
-- tally's run of exactly the lines answered so far.
pub data Passes (c : Capacity) (o : Bytes) (ls : List Bytes) (t : TallyRun indices) (s₀ : Bytes)
    (r₀ : SessionResult) : Bytes
    → Bytes → SessionResult → Type 0 where
  start : r₀.lines ≡ 0 → Agrees s₀ o o r₀ t → Passes c o ls t s₀ r₀ s₀ o r₀
  line : {s o' : Bytes} {r : SessionResult} {s' o'' : Bytes} {r' : SessionResult} → Passes c o ls t s₀ r₀ s o' r
      → OneLine c (get_or ls r.lines []) (run c (length o) (take r.lines ls) t).tally s s' r r'
      → Agrees s' o o'' r' (run c (length o) (take r'.lines ls) t) → Passes c o ls t s₀ r₀ s' o'' r'

-- the result before "the run stops with 9", which changes the code alone
abbrev pub before_stop : SessionResult → SessionResult
before_stop r = record { code = 0; lines = r.lines; bytes = r.bytes; count = r.count; registers = r.registers }

-- demand 3 of a whole session: at its end, and on the way to that end
pub record AgreesThroughout (c : Capacity) (ls : List Bytes) (t : TallyRun indices) (s o o' : Bytes)
    (r : SessionResult) : Type 0 where
  pub ends : Agrees s o o' r (run c (length o) ls t)
  -- the store and the result at the start
  pub from : Bytes
  pub first : SessionResult
  pub passes : Passes c o ls t from first s o' (before_stop r)

-- what a run passes after j lines, and by the line after those (the laws: after_each_line, each_line)
pub record Point (c : Capacity) (o : Bytes) (ls : List Bytes) (t : TallyRun indices) (j : ℕ) : Type 0 where
  pub store : Bytes
  pub output : Bytes
  pub result : SessionResult
  pub lines : result.lines ≡ j
  pub agrees : Agrees store o output result (run c (length o) (take j ls) t)

pub record Between (c : Capacity) (o : Bytes) (ls : List Bytes) (t : TallyRun indices) (j : ℕ) : Type 0 where
  pub before : Point c o ls t j
  pub after : Point c o ls t (suc j)
  pub one : OneLine c (get_or ls j []) (run c (length o) (take j ls) t).tally before.store after.store
      before.result after.result
