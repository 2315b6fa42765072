-- The registers (document 01, "Nodes"): "A register holds a weight and a node number." What they hold, as tensors.
use Rattle.std.specs.Prelude.{◌≡◌, Bool, List, [], ◌∷◌, ℕ, length, get_or, replicate, Some, None, is_some, unwrap_or}
use Rattle.std.specs.Prelude.{Option as Optional}
use Rattle.std.proofs.Math.Option.{Option, none, some}
use Rattle.diagram.specs.Tensor.{Tensor}
use Rattle.diagram.specs.Tally.{Set}
use Rattle.diagram.specs.Meaning.{edge_in, Valid, nought}
use Rattle.diagram.specs.declared.node.Edge.{Edge}

-- "sixteen registers, each empty or a tensor, all empty at first"
abbrev pub Register : Type 0
Register = Optional Edge

abbrev pub empty_register : Register
empty_register = None

-- a register is filled
abbrev pub occupied : Register → Bool
occupied r = is_some r

-- "a weight and a node number": the words of an empty one are 0
abbrev pub edge_of : Register → Edge
edge_of r = unwrap_or r nought

-- register i was read as r
pub record GetEnsures (rs : List Register) (i : ℕ) (r : Register) : Type 0 where
  pub is : r ≡ get_or rs i empty_register

abbrev pub empty_registers : List Register
empty_registers = replicate 16 empty_register

-- "Each filled register's weight times its node's tensor is the tensor that the tally holds there", where ts are the
-- nodes' tensors
unfoldable pub holds : {d : ℕ} → Set d → Register → Option (Tensor d)
holds ts None = none
holds ts (Some e) = some (edge_in ts e)

unfoldable pub holds_all : {d : ℕ} → Set d → List Register → List (Option (Tensor d))
holds_all ts [] = []
holds_all ts (r ∷ rs) = holds ts r ∷ holds_all ts rs

-- the registers' weights, in order; an empty one's is 0
unfoldable pub weights_of : List Register → List ℕ
weights_of [] = []
weights_of (r ∷ rs) = (edge_of r).weight ∷ weights_of rs

-- the edges of the filled registers
unfoldable pub edges_of : List Register → List Edge
edges_of [] = []
edges_of (None ∷ rs) = edges_of rs
edges_of (Some e ∷ rs) = e ∷ edges_of rs

-- each edge is one to nodes 0 .. m
abbrev pub AllValid : ℕ → List Edge → Type 0
AllValid m [] = Unit {0}
AllValid m (e ∷ es) = Valid m e × AllValid m es

-- the edges' tensors
unfoldable pub tensors_of : {d : ℕ} → Set d → List Edge → List (Tensor d)
tensors_of ts [] = []
tensors_of ts (e ∷ es) = edge_in ts e ∷ tensors_of ts es

-- sixteen registers, the filled ones with edges to nodes 0 .. m
pub record RegistersValid (m : ℕ) (rs : List Register) : Type 0 where
  pub sixteen : length rs ≡ 16
  pub valid : AllValid m (edges_of rs)
