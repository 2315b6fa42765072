-- Laws of sound stores, and of steps on a store one after another: what stays, and the promise of the whole from those
-- of its parts.
use Rattle.std.specs.Prelude.{◌≡◌, refl, true, false, Bool, List, ◌++◌, ℕ, zero, suc, ◌-◌, ◌≤◌, length, take}
use Rattle.std.specs.Prelude.{Result, Ok, Err}
use Rattle.std.proofs.Math.Path.{ap, sym}
use Rattle.std.proofs.Common.{◌∙◌, ap₂, arith, length-append}
use Rattle.std.proofs.Math.Option.{some}
use Rattle.std.proofs.Math.Seq.{take-append_seam}
use Rattle.field.specs.Weight.{Weight, 0w}
use Rattle.diagram.specs.Tensor.{indices, constant, scale, top, fix, Normal, Tensor, same, joined}
use Rattle.diagram.specs.TensorLaws.{is_zero_constant}
use Rattle.diagram.specs.Tally.{Step, Set, join, join_cases}
use Rattle.diagram.specs.Sets.{PrefixOf}
use Rattle.diagram.specs.SetsLaws.{prefix_refl, prefix_trans, put_grows}
use Rattle.diagram.specs.Node.{capacity, node_at}
use Rattle.diagram.specs.NodeLaws.{edge_eq, listed_length, listed_at, listed_prefix}
use Rattle.diagram.specs.Meaning.{tensor_at, edge_in, node_tensor, no_node, node_in, Valid, nought}
use Rattle.diagram.specs.MeaningLaws.{tensors_length, edge_kept, tensors_prefix}
use Rattle.diagram.specs.Canonical.{NormalNode}
use Rattle.diagram.specs.CanonicalLaws.{normal_node_low, normal_node_high}
use Rattle.diagram.specs.CanonicalLaws as laws
use Rattle.diagram.specs.Store.{nodes_of, tensor_of, Sound, RefinesEdge, Refines, RefinesFull, set_of}
use Rattle.diagram.specs.declared.node.Node.{Node}
use Rattle.diagram.specs.declared.node.Edge as edges
use Rattle.diagram.specs.declared.make.State.{State}
use Rattle.diagram.specs.declared.diagram.Full.{Full}

-- lengths, and the node at a number

pub nodes_length : (s : List ℕ) (st : State) → length (nodes_of s st) ≡ st.count
unfolding nodes_of
nodes_length s st = listed_length (node_at s) st.count

pub set_length : (s : List ℕ) (st : State) → length (set_of s st) ≡ st.count
unfolding set_of
set_length s st = tensors_length indices (nodes_of s st) ∙ nodes_length s st

pub node_at_lem : (d : ℕ) (s : List ℕ) (st : State) (n : ℕ) → 1 ≤ n → n ≤ st.count
    → node_in d (nodes_of s st) n ≡ node_at s n
unfolding nodes_of node_in
node_at_lem d s st zero p q = absurd (omega arith)
node_at_lem d s st (suc n) p q = listed_at (node_at s) st.count n (no_node d) q

-- a step is done only where its set is within the capacity: `Full` is exact
pub refines_fits : {s s' : List ℕ} {st st' : State} {f : Step indices} {e : edges.Edge} → RefinesEdge s s' st st' f e
    → length (f (set_of s st)).1 ≤ capacity s
refines_fits {s} {s'} {st} {st'} d =
    rw (d.is, set_length s' st') (omega (arith, d.long, d.sound.stored.room, d.sound.stored.numbered))

-- what a sound store says of its nodes and edges

module _ {s : List ℕ} {st : State} (h : Sound s st) where
  within : {n : ℕ} → n ≤ st.count → n ≤ length (nodes_of s st)
  within p = rw (nodes_length s st) p

  valid : {e : edges.Edge} → Valid st.count e → Valid (length (nodes_of s st)) e
  valid v = rw (nodes_length s st) v

  -- every node's tensor is normal, and its top is the node's index
  pub node_top : (n : ℕ) → 1 ≤ n → n ≤ st.count → top (tensor_at (set_of s st) n) ≡ some (node_at s n).index
  unfolding set_of
  node_top n p q =
      laws.canonical_node_top indices (nodes_of s st) h.nodes n p (within q)
      ∙ ap (λ (x : Node). some x.index) (node_at_lem indices s st n p q)

  pub node_normal : (n : ℕ) → 1 ≤ n → n ≤ st.count → Normal (tensor_at (set_of s st) n)
  unfolding set_of
  node_normal n p q = laws.canonical_node_normal indices (nodes_of s st) h.nodes n p (within q)

  -- a node is in normal form, its children are nodes with smaller numbers
  pub node_form : (n : ℕ) → 1 ≤ n → n ≤ st.count → NormalNode (set_of s st) (n - 1) (node_at s n)
  unfolding set_of
  node_form n p q = rw (node_at_lem indices s st n p q) at (h.nodes.each n p (within q))

  node_meaning : (n : ℕ) → 1 ≤ n → n ≤ st.count → tensor_at (set_of s st) n ≡ node_tensor (set_of s st) (node_at s n)
  unfolding set_of
  node_meaning n p q = rw (node_at_lem indices s st n p q) at (h.nodes.meaning n p (within q))

  -- "At 0 and 1 of its index a node's tensor is the low and high weight times the tensor of that edge's node"
  pub node_low : (n : ℕ) → 1 ≤ n → n ≤ st.count
      → fix (node_at s n).index false (tensor_at (set_of s st) n) ≡ edge_in (set_of s st) (node_at s n).low
  node_low n p q = ap (fix (node_at s n).index false) (node_meaning n p q) ∙ normal_node_low (node_form n p q)

  pub node_high : (n : ℕ) → 1 ≤ n → n ≤ st.count
      → fix (node_at s n).index true (tensor_at (set_of s st) n) ≡ edge_in (set_of s st) (node_at s n).high
  node_high n p q = ap (fix (node_at s n).index true) (node_meaning n p q) ∙ normal_node_high (node_form n p q)

  -- "No node's tensor is a multiple of another node's."
  pub node_multiple : (n m : ℕ) (f : Weight) → n ≤ st.count → m ≤ st.count
      → tensor_at (set_of s st) n ≡ scale f (tensor_at (set_of s st) m) → n ≡ m
  unfolding set_of
  node_multiple n m f p q e = laws.canonical_node_multiple indices (nodes_of s st) h.nodes n m f (within p) (within q)
      e

  -- an edge's tensor determines its weight and its node
  pub edge_unique : {a b : edges.Edge} → Valid st.count a → Valid st.count b → tensor_of s st a ≡ tensor_of s st b
      → a ≡ b
  unfolding tensor_of set_of
  edge_unique v w e = laws.canonical_edge_unique indices (nodes_of s st) h.nodes (valid v) (valid w) e

  -- "Zero is weight 0 at node 0."
  pub edge_zero : (a : edges.Edge) → Valid st.count a → tensor_of s st a ≡ constant indices 0w
      → a ≡ nought
  unfolding tensor_of set_of
  edge_zero a v e =
      let z = laws.edge_zero_weight indices (nodes_of s st) h.nodes a (valid v) (rw e (is_zero_constant indices)) in
      edge_eq z (v.zero z)

  pub zero_edge : (a : edges.Edge) → a.weight ≡ 0 → tensor_of s st a ≡ constant indices 0w
  unfolding tensor_of set_of
  zero_edge a z = laws.zero_weight indices (nodes_of s st) h.nodes a z

pub prefix_length : {X : Type 0} {xs ys : List X} → PrefixOf xs ys → length xs ≤ length ys
prefix_length {xs = xs} g = omega (arith, ap length g.is, length-append xs g.more)

same_front : {X : Type 0} (xs ys us vs : List X) → length xs ≡ length ys → xs ++ us ≡ ys ++ vs → xs ≡ ys
same_front xs ys us vs l e = sym (take-append_seam xs us) ∙ ap₂ (λ n zs. take n zs) l e ∙ take-append_seam ys vs

pub join_grows : {d : ℕ} (k : ℕ) (L H : Tensor d) (s : Set d) → PrefixOf s (join k L H s).1
unfolding join join_cases
join_grows k L H s = go (same L H)
  where
    go : (b : Bool) → PrefixOf s (join_cases b (joined k L H) s).1
    go true = prefix_refl s
    go false = put_grows _ s

-- the old nodes keep their tensors
module _ (s s' : List ℕ) (st st' : State) (g : PrefixOf (nodes_of s st) (nodes_of s' st')) where
  pub sets_prefix : PrefixOf (set_of s st) (set_of s' st')
  unfolding set_of
  sets_prefix = tensors_prefix indices g

  pub tensor_kept : {e : edges.Edge} → Valid st.count e → tensor_of s' st' e ≡ tensor_of s st e
  unfolding tensor_of
  tensor_kept v = edge_kept (omega (arith, set_length s st)) v sets_prefix

-- the nodes of st are where they were, if they were after a first step and those of the first step are after a second
pub kept_after : (s s₁ s₂ : List ℕ) (st t : State) → st.count ≤ t.count → PrefixOf (nodes_of s st) (nodes_of s₁ t)
    → nodes_of s₂ t ≡ nodes_of s₁ t
    → nodes_of s₂ st ≡ nodes_of s st
kept_after s s₁ s₂ st t p g e =
    let h : PrefixOf (nodes_of s₂ st) (nodes_of s₂ t) = unfold nodes_of in listed_prefix _ st.count t.count p in
    same_front _ _ h.more g.more (nodes_length s₂ st ∙ sym (nodes_length s st)) (sym h.is ∙ e ∙ g.is)

-- the same step under another name
pub refines_as : (s s' : List ℕ) (st st' : State) (f g : Step indices) (r : Result edges.Edge Full)
    → f (set_of s st) ≡ g (set_of s st)
    → Refines s s' st st' g r → Refines s s' st st' f r
refines_as s s' st st' f g (Ok e) q d =
    record { long = d.long; sound = d.sound; epoch = d.epoch; grown = d.grown; valid = d.valid; is = q ∙ d.is }
refines_as s s' st st' f g (Err x) q d = record { long = d.long; kept = d.kept; full = rw q d.full }

-- nothing is put in
pub refines_stays : {s : List ℕ} {st : State} {f : Step indices} {e : edges.Edge} → Sound s st → Valid st.count e
    → f (set_of s st) ≡ (tensor_of s st e, set_of s st) → RefinesEdge s s st st f e
refines_stays h v q = record { long = refl; sound = h; epoch = refl; grown = prefix_refl _; valid = v; is = q }

pub refines_count : {s s' : List ℕ} {st st' : State} {f : Step indices} {e : edges.Edge} → RefinesEdge s s' st st' f e
    → st.count ≤ st'.count
refines_count {s} {s'} {st} {st'} d = omega (arith, prefix_length d.grown, nodes_length s st, nodes_length s' st')

-- F is f, which was done, and then G
pub refines_then : {s s₁ : List ℕ} {st t : State} {f : Step indices} {e : edges.Edge} → RefinesEdge s s₁ st t f e
    → (F G : Step indices) → F (set_of s st) ≡ G (set_of s₁ t)
    → (s₂ : List ℕ) (u : State) (r : Result edges.Edge Full) → Refines s₁ s₂ t u G r → Refines s s₂ st u F r
refines_then d F G q s₂ u (Ok e) h = record {
  long = h.long ∙ d.long;
  sound = h.sound;
  epoch = h.epoch ∙ d.epoch;
  grown = prefix_trans d.grown h.grown;
  valid = h.valid;
  is = q ∙ h.is;
}
refines_then {s} {s₁} {st} {t} d F G q s₂ u (Err x) h = record {
  long = h.long ∙ d.long;
  kept = kept_after s s₁ s₂ st t (refines_count d) d.grown h.kept;
  full = let e : capacity s₁ ≡ capacity s = rw d.long refl in rw q (omega (arith, h.full, e));
}

-- F is f, which was given up, and then more
pub refines_full_more : {s s₁ : List ℕ} {st : State} {f : Step indices} → RefinesFull s s₁ st f → (F : Step indices)
    → PrefixOf (f (set_of s st)).1 (F (set_of s st)).1 → RefinesFull s s₁ st F
refines_full_more o F g = record { long = o.long; kept = o.kept; full = omega (arith, o.full, prefix_length g) }
