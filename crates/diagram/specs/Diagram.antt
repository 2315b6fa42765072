-- What is said of a diagram: its store's nodes, and what an operation leaves.
use Rattle.std.specs.Prelude.{◌≡◌, ℕ, Bool, MatchResult, Result, length}
use Rattle.diagram.specs.Tensor.{indices, Tensor}
use Rattle.diagram.specs.Tally.{Step}
use Rattle.diagram.specs.Meaning.{Valid}
use Rattle.diagram.specs.Make.{StateSound, MakeAt, MakeFull}
use Rattle.diagram.specs.Store.{Sound, tensor_of, level_of, Refines}
use Rattle.diagram.specs.Edge.{CofactorRequires, IsCofactor}
use Rattle.diagram.specs.Join.{JoinRequires, NodeMaskEnsures}
use Rattle.diagram.specs.Operation.{OperationRequires, HighRequires, lowest_of, RefinesCached}
use Rattle.diagram.specs.Unit.{OntoRequires}
use Rattle.diagram.specs.Lower.{LowerRequires, LowsRequires, LowsReduced}
use Rattle.diagram.specs.declared.node.Node.{Node}
use Rattle.diagram.specs.declared.node.Edge.{Edge}
use Rattle.diagram.specs.declared.diagram.Diagram.{Diagram}
use Rattle.diagram.specs.declared.diagram.Full.{Full}

-- the store is sound
abbrev pub IsSound : Diagram → Type 0
IsSound d = Sound d.store.now d.state

-- the unique table alone is
abbrev pub TableOf : Diagram → Type 0
TableOf d = StateSound d.store.now d.state

-- an edge to one of its nodes
abbrev pub IsEdge : Diagram → Edge → Type 0
IsEdge d e = Valid d.state.count e

-- the tensor of an edge: the weight times its node's tensor
abbrev pub tensor : Diagram → Edge → Tensor indices
tensor d e = tensor_of d.store.now d.state e

-- the index of an edge's node; 24 for a constant
abbrev pub level : Diagram → Edge → ℕ
level d e = level_of d.store.now d.state e

-- an index that is not above the edge's level, and the edge with it fixed
abbrev pub Fixable : Diagram → Edge → ℕ → Type 0
Fixable d a k = CofactorRequires d.store.now d.state a k

abbrev pub Fixed : Diagram → Edge → ℕ → Bool → Edge → Type 0
Fixed d a k high r = IsCofactor d.store.now d.state a k high r

-- l and h can be joined at k; the mask of the node that joins them
abbrev pub Joinable : Diagram → ℕ → Edge → Edge → Type 0
Joinable d k l h = JoinRequires d.store.now d.state k l h

abbrev pub MaskOfJoin : Diagram → ℕ → Edge → Edge → ℕ → Type 0
MaskOfJoin d k l h r = NodeMaskEnsures d.store.now d.state k l h r

-- the store and the cache are the ones that were lent, and as long as before
pub record KeepsLoans (d d' : Diagram) : Type 0 where
  pub long : length d'.store.now ≡ length d.store.now
  pub cache_long : length d'.cache.now ≡ length d.cache.now
  pub same_store : d'.store.ghost_name ≡ d.store.ghost_name
  pub same_cache : d'.cache.ghost_name ≡ d.cache.ghost_name

-- .. and the cache is as it was
pub record KeepsCache (d d' : Diagram) : Type 0 where
  pub long : length d'.store.now ≡ length d.store.now
  pub same_store : d'.store.ghost_name ≡ d.store.ghost_name
  pub same_cache : d'.cache.ghost_name ≡ d.cache.ghost_name
  pub same_words : d'.cache.now ≡ d.cache.now

-- the node x has a number, or there is no room for it
abbrev pub Makes : Diagram → Diagram → Node → Result ℕ Full → Type 0
Makes d d' x r = MatchResult r (λ n. MakeAt d.store.now d'.store.now d.state d'.state x n)
    (λ _. MakeFull d.store.now d'.store.now d.state x)

-- the step f was done, and the edge has its answer; or it would exceed the capacity
abbrev pub Does : Diagram → Diagram → Step indices → Result Edge Full → Type 0
Does d d' f r = Refines d.store.now d'.store.now d.state d'.state f r

-- both lead to nodes of a sound store, and the cache remembers only what is stable
abbrev pub Ready : Diagram → Edge → Edge → Type 0
Ready d a b = OperationRequires d.cache.now d.store.now d.state a b

-- .. and l is the answer of the low part
abbrev pub HighReady : Diagram → Edge → Edge → ℕ → ℕ → Edge → Type 0
HighReady d a b k j l = HighRequires d.cache.now d.store.now d.state a b k j l

-- "k is the lower top"
abbrev pub lowest : Diagram → Edge → Edge → ℕ
lowest d a b = lowest_of d.store.now d.state a b

-- what an operation leaves that remembers results
abbrev pub DoesCached : Diagram → Diagram → Step indices → Result Edge Full → Type 0
DoesCached d d' f r = RefinesCached d'.cache.now d.store.now d'.store.now d.state d'.state f r

-- qubit q can be put before e
abbrev pub OntoReady : Diagram → ℕ → Edge → Type 0
OntoReady d q e = OntoRequires d.store.now d.state q e

-- what lowering asks: of one index, of a set, of a set and an edge of weight 1 to a node
abbrev pub MayLower : Diagram → Edge → ℕ → Type 0
MayLower d a k = LowerRequires d.store.now d.state a k

abbrev pub MayLowerSet : Diagram → Edge → ℕ → Type 0
MayLowerSet d a m = LowsRequires d.store.now d.state a m

abbrev pub Lowers : Diagram → Edge → ℕ → Type 0
Lowers d a m = LowsReduced d.store.now d.state a m
