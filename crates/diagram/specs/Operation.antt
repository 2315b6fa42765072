-- What sum, contraction and lowering ask and promise, and what is known between their low and their high part.
use Rattle.std.specs.Prelude.{◌≡◌, List, Bool, true, ℕ, min, suc, ◌-◌, ◌≤◌, ◌<◌, Result, MatchResult}
use Rattle.diagram.specs.Tensor.{indices, Tensor, fix, index_count}
use Rattle.diagram.specs.Tally.{Step, Set, Binary, ◌>>=◌}
use Rattle.diagram.specs.Meaning.{Valid}
use Rattle.diagram.specs.Store.{level_of, tensor_of, Sound, Refines}
use Rattle.diagram.specs.Cache.{NoneLater, Remembers}
use Rattle.diagram.specs.Top.{FreeBelow}
use Rattle.diagram.specs.Sets.{PrefixOf}
use Rattle.diagram.specs.declared.node.Edge.{Edge}
use Rattle.diagram.specs.declared.make.State.{State}
use Rattle.diagram.specs.declared.diagram.Full.{Full}

-- what an operation asks: a sound store, two edges of it, and a cache that remembers only what is stable
pub record OperationRequires (c s : List ℕ) (st : State) (a b : Edge) : Type 0 where
  pub sound : Sound s st
  pub left : Valid st.count a
  pub right : Valid st.count b
  pub cache : Remembers c s st

-- The cache after a step: it remembers only what is stable; after one that did not fit, nothing is of a later epoch.
abbrev pub CacheAfter : List ℕ → List ℕ → State → State → Result Edge Full → Type 0
CacheAfter c' s' st st' r = MatchResult r (λ _. Remembers c' s' st') (λ _. NoneLater c' st.epoch)

-- what an operation that does the step f promises of its result
pub record RefinesCached (c' s s' : List ℕ) (st st' : State) (f : Step indices) (r : Result Edge Full)
    : Type 0 where
  pub step : Refines s s' st st' f r
  pub cache : CacheAfter c' s' st st' r

-- "k is the lower top"
abbrev pub lowest_of : List ℕ → State → Edge → Edge → ℕ
lowest_of s st a b = min (level_of s st a) (level_of s st b)

-- the high part, where L is the answer of the low part: both rec k A B final is the low part and then this
unfoldable pub high_step : Binary indices → Binary indices → ℕ → Tensor indices → Tensor indices → Tensor indices
    → Step indices
high_step rec final k A B L = rec (fix k true A) (fix k true B) >>= final L

-- What is known between the parts: k is the lower top of a and b, and l, the answer of the low part, does not depend on
-- the indices up to j, where the answers are joined. That is k, or the index before it where k goes down.
pub record HighRequires (c s : List ℕ) (st : State) (a b : Edge) (k j : ℕ) (l : Edge) : Type 0 where
  pub ready : OperationRequires c s st a b
  pub inside : k < index_count
  pub lowest : k ≡ lowest_of s st a b
  pub low : Valid st.count l
  pub not_above : j ≤ k
  pub from_low : FreeBelow (suc j) (tensor_of s st l)

-- how far the recursion is from its end: "24 minus the top index falls"
unfoldable pub edges_measure : List ℕ → State → Edge → Edge → ℕ
edges_measure s st a b = index_count - lowest_of s st a b

-- What the parts put in, and that their answers do not depend on the indices up to j, where they are joined.
pub record PartsGrow (A B : Tensor indices) (k j : ℕ) (rec final : Binary indices) : Type 0 where
  pub not_above : j ≤ k
  pub rec_grows : (x : Bool) (z : Set indices) → PrefixOf z (rec (fix k x A) (fix k x B) z).1
  pub final_grows : (X Y : Tensor indices) (z : Set indices) → PrefixOf z (final X Y z).1
  pub rec_from : (x : Bool) (z : Set indices) → FreeBelow (suc j) (rec (fix k x A) (fix k x B) z).0
