-- The operation cache (document 01, "Results may be remembered."): what its words claim, and that every claim of the
-- epoch is stable.
use Rattle.std.specs.Prelude.{◌≡◌, ◌⊎◌, List, ℕ, ◌+◌, ◌*◌, ◌≤◌, ◌<◌, length, get_or, set, Option, Some, None}
use Rattle.field.specs.Weight.{modulus, to_weight}
use Rattle.diagram.specs.Tensor.{Tensor, scale, bits, indices, masks}
use Rattle.diagram.specs.Tally.{Step, sum, cont}
use Rattle.diagram.specs.Lows.{lows}
use Rattle.diagram.specs.TallyStep.{Writes}
use Rattle.diagram.specs.Meaning.{tensor_at, Valid}
use Rattle.diagram.specs.Store.{set_of, tensor_of}
use Rattle.diagram.specs.declared.node.Edge.{Edge}
use Rattle.diagram.specs.declared.make.State.{State}
use Rattle.diagram.specs.declared.cache.Key.{Key}
use Rattle.diagram.specs.declared.cache.Op.{Op}
use Rattle.diagram.specs.declared.cache.Op.TheVariants.{Sum, Contract, Lows}

-- the words of an entry

abbrev pub code_of : Op → ℕ
code_of Sum = 0
code_of Contract = 1
code_of Lows = 2

abbrev pub pack : Key → ℕ
pack k = code_of k.op * 4294967296 + k.left * 65536 + k.right

-- a key and a result that the words of an entry have room for
pub record KeyFits (k : Key) : Type 0 where
  pub left : k.left < 65536
  pub right : k.right < 65536
  pub arg : k.arg < masks

pub record EdgeFits (e : Edge) : Type 0 where
  pub weight : e.weight < modulus
  pub node : e.node < 65536

-- the words c have an entry of the epoch that claims the result e for the key
pub record HasEntry (c : List ℕ) (epoch : ℕ) (k : Key) (e : Edge) : Type 0 where
  pub slot : ℕ
  pub inside : 4 * slot + 4 ≤ length c
  pub left : k.left < 65536
  pub right : k.right < 65536
  pub node : e.node < 65536
  pub key : get_or c (4 * slot) 0 ≡ pack k
  pub arg : get_or c (4 * slot + 1) 0 ≡ k.arg
  pub when : get_or c (4 * slot + 2) 0 ≡ epoch
  pub result : get_or c (4 * slot + 3) 0 ≡ e.weight * 65536 + e.node

-- a lookup that answers has found such an entry; one that does not says nothing
abbrev pub LookupEnsures : List ℕ → ℕ → Key → Option Edge → Type 0
LookupEnsures c epoch k (Some e) = HasEntry c epoch k e
LookupEnsures c epoch k None = Unit {0}

pub record SameEntry (epoch : ℕ) (k : Key) (e : Edge) (epoch' : ℕ) (k' : Key) (e' : Edge) : Type 0 where
  pub when : epoch' ≡ epoch
  pub key : k' ≡ k
  pub result : e' ≡ e

-- what c' claims, c did, or it is that the key has the result e
pub record RememberEnsures (c c' : List ℕ) (epoch : ℕ) (k : Key) (e : Edge) : Type 0 where
  pub entries : (epoch' : ℕ) (k' : Key) (e' : Edge) → HasEntry c' epoch' k' e'
      → HasEntry c epoch' k' e' ⊎ SameEntry epoch k e epoch' k' e'
  pub epochs : (i : ℕ) → (get_or c' (4 * i + 2) 0 ≡ get_or c (4 * i + 2) 0) ⊎ (get_or c' (4 * i + 2) 0 ≡ epoch)

-- no entry is of a later epoch
pub record NoneLater (c : List ℕ) (epoch : ℕ) : Type 0 where
  pub is : (i : ℕ) → get_or c (4 * i + 2) 0 ≤ epoch

-- everything is forgotten
pub record AllZero (c : List ℕ) : Type 0 where
  pub is : (i : ℕ) → get_or c i 0 ≡ 0

-- no entry is of this epoch or of a later one
pub record AllEarlier (c : List ℕ) (epoch : ℕ) : Type 0 where
  pub is : (i : ℕ) → get_or c (4 * i + 2) 0 < epoch

-- the tally's step whose answer an entry holds, for the tensors A and B of its nodes
unfoldable pub op_step : Op → Tensor indices → Tensor indices → ℕ → Step indices
op_step Sum A B r = sum A (scale (to_weight r) B)
op_step Contract A B r = cont A B (bits r)
op_step Lows A B r = lows (bits r) A

unfoldable pub key_step : List ℕ → State → Key → Step indices
key_step s st k = op_step k.op (tensor_at (set_of s st) k.left) (tensor_at (set_of s st) k.right) k.arg

-- The entry is stable: done again at the present set, the step answers e and leaves the set as it is.
pub record StableEntry (s : List ℕ) (st : State) (k : Key) (e : Edge) : Type 0 where
  pub left : k.left ≤ st.count
  pub right : k.right ≤ st.count
  pub valid : Valid st.count e
  pub known : (T : Tensor indices) × Writes T (key_step s st k)
  pub is : key_step s st k (set_of s st) ≡ (tensor_of s st e, set_of s st)

-- "A remembered result made before a collection, or by an earlier call that was refused, is never used. What the memory
-- for this holds is free." Every entry of the present epoch is stable, and none is of a later epoch; a collection and a
-- call refused as full step the epoch.
pub record Remembers (c s : List ℕ) (st : State) : Type 0 where
  pub past : NoneLater c st.epoch
  pub entries : (k : Key) (e : Edge) → HasEntry c st.epoch k e → StableEntry s st k e

-- c with the entry i of these words
unfoldable pub with_entry : List ℕ → ℕ → ℕ → ℕ → ℕ → ℕ → List ℕ
with_entry c i k r t v = set (set (set (set c (4 * i) k) (4 * i + 1) r) (4 * i + 2) t) (4 * i + 3) v
