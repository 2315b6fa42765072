-- What making a leaf, a pair and a pass of pairs promises.
use Rattle.std.specs.Prelude.{◌≡◌, ℕ, ◌≤◌, Result, MatchResult, length}
use Rattle.diagram.specs.Tally.{join}
use Rattle.diagram.specs.Store.{nodes_of}
use Rattle.diagram.specs.Cache.{Remembers}
use Rattle.diagram.specs.Sets.{PrefixOf}
use Rattle.diagram.specs.Diagram.{IsSound, tensor, Does}
use Rattle.diagram.specs.declared.node.Edge.{Edge}
use Rattle.diagram.specs.declared.diagram.Diagram.{Diagram}
use Rattle.diagram.specs.declared.diagram.Full.{Full}

-- what holds between two pairs: the store is sound, and the cache goes with it
pub record FillInvariant (d : Diagram) : Type 0 where
  pub sound : IsSound d
  pub cache : Remembers d.cache.now d.store.now d.state

-- the edge of a constant
abbrev pub constant_edge : ℕ → Edge
constant_edge w = record { weight = w; node = 0 }

-- a leaf joins the constants 1 and w at index 23
abbrev pub LeafEnsures : Diagram → Diagram → ℕ → Result Edge Full → Type 0
LeafEnsures d d' w r = Does d d' (join 23 (tensor d (constant_edge 1)) (tensor d (constant_edge w))) r

-- nodes have come to those that were there
pub record NodesGrown (d d' : Diagram) : Type 0 where
  pub long : length d'.store.now ≡ length d.store.now
  pub sound : IsSound d'
  pub epoch : d'.state.epoch ≡ d.state.epoch
  pub count : d.state.count ≤ d'.state.count
  pub grown : PrefixOf (nodes_of d.store.now d.state) (nodes_of d'.store.now d'.state)

-- the nodes are as they were, whatever stands after them
pub record NodesSame (d d' : Diagram) : Type 0 where
  pub long : length d'.store.now ≡ length d.store.now
  pub kept : nodes_of d'.store.now d.state ≡ nodes_of d.store.now d.state

-- a pair is made, or does not fit
abbrev pub PairEnsures : Diagram → Diagram → Result Edge Full → Type 0
PairEnsures d d' r = MatchResult r (λ _. NodesGrown d d') (λ _. NodesSame d d')
