-- Laws of what nodes mean: more nodes leave the tensors of those before as they are.
use Rattle.std.specs.Prelude.{◌≡◌, ◌≢◌, true, false, ℕ, zero, suc, ◌+◌, ◌≤◌, ◌<◌, length, get_or}
use Rattle.std.proofs.Math.Path.{refl}
use Rattle.std.proofs.Common.{ap, sym, ◌∙◌, length-append}
use mathlib.Core.List.{List, [], ◌∷◌, ◌++◌}
use native.Mathlib.Omega.{arith}
use Rattle.std.proofs.Math.ListN.{get_or-append}
use Rattle.std.proofs.lemmas.List.{get_or_at}
use Rattle.field.specs.Weight.{to_weight, 1w}
use Rattle.diagram.specs.Tensor.{Tensor, same, constant, scale}
use Rattle.diagram.specs.TensorLaws.{same_eq}
use Rattle.diagram.specs.Tally.{Set, member}
use Rattle.diagram.specs.Sets.{PrefixOf}
use Rattle.diagram.specs.SetsLaws.{prefix_refl, prefix_trans, member_at}
use Rattle.diagram.specs.TestLaws.{cases}
use Rattle.diagram.specs.Meaning.{Valid, no_node, append_tensors, node_tensor, tensor_at, level, edge_in, node_in}
use Rattle.diagram.specs.Meaning.{tensors}
use Rattle.diagram.specs.declared.node.Node.{Node}
use Rattle.diagram.specs.declared.node.Edge.{Edge}

-- edges

pub valid_more : {m : ℕ} {e : Edge} (n : ℕ) → m ≤ n → Valid m e → Valid n e
valid_more n p v = record { small = v.small; within = omega (arith, v.within); zero = v.zero }

pub level_constant : (d : ℕ) (xs : List Node) (e : Edge) → e.node ≡ 0 → level d xs e ≡ d
unfolding level node_in no_node
level_constant d xs e z = rw z

pub level_same : (d : ℕ) (xs : List Node) (e f : Edge) → e.node ≡ f.node → level d xs e ≡ level d xs f
unfolding level
level_same d xs e f p = rw p

-- one tensor, one node more

pub at_zero : {d : ℕ} (ts : Set d) → tensor_at ts 0 ≡ constant d 1w
unfolding tensor_at
at_zero ts = refl

pub at_new : {d : ℕ} (ts : Set d) (T : Tensor d) (n : ℕ) → suc (length ts) ≡ n → tensor_at (ts ++ (T ∷ [])) n ≡ T
unfolding tensor_at
at_new {d} ts T n e = get_or_at (constant d 1w ∷ ts) T [] (constant d 1w) n e

pub node_new : (d : ℕ) (xs : List Node) (x : Node) (n : ℕ) → suc (length xs) ≡ n → node_in d (xs ++ (x ∷ [])) n ≡ x
unfolding node_in
node_new d xs x n e = get_or_at (no_node d ∷ xs) x [] (no_node d) n e

-- the old nodes, and their tensors, stay

pub at_kept : {d : ℕ} {ts us : Set d} (n : ℕ) → n ≤ length ts → PrefixOf ts us → tensor_at us n ≡ tensor_at ts n
unfolding tensor_at
at_kept {d} {ts} n p g = rw g.is (get_or-append (constant d 1w ∷ ts) g.more (constant d 1w) n (omega arith))

pub edge_kept : {d m : ℕ} {ts us : Set d} {e : Edge} → m ≤ length ts → Valid m e → PrefixOf ts us
    → edge_in us e ≡ edge_in ts e
unfolding edge_in
edge_kept {e = e} p v g = ap (scale (to_weight e.weight)) (at_kept e.node (omega (arith, v.within)) g)

pub node_kept : (d : ℕ) (xs ys : List Node) (n : ℕ) → n ≤ length xs → node_in d (xs ++ ys) n ≡ node_in d xs n
unfolding node_in
node_kept d xs ys n p = get_or-append (no_node d ∷ xs) ys (no_node d) n (omega arith)

pub level_kept : (d : ℕ) {xs ys : List Node} {e : Edge} → PrefixOf xs ys → Valid (length xs) e
    → level d ys e ≡ level d xs e
unfolding level
level_kept d {xs} {e = e} g v =
    ap (λ (y : Node). y.index) (ap (λ zs. node_in d zs e.node) g.is
    ∙ node_kept d xs g.more e.node v.within)

-- the tensors of a list that grows

tensors_append : {d : ℕ} (ts : Set d) (xs ys : List Node)
    → append_tensors ts (xs ++ ys) ≡ append_tensors (append_tensors ts xs) ys
unfolding append_tensors
tensors_append ts [] ys = refl
tensors_append ts (x ∷ xs) ys = tensors_append (ts ++ (node_tensor ts x ∷ [])) xs ys

grow_grows : {d : ℕ} (ts : Set d) (xs : List Node) → PrefixOf ts (append_tensors ts xs)
unfolding append_tensors
grow_grows ts [] = prefix_refl ts
grow_grows ts (x ∷ xs) =
    prefix_trans (record { more = node_tensor ts x ∷ []; is = refl }) (grow_grows (ts ++ (node_tensor ts x ∷ [])) xs)

grow_length : {d : ℕ} (ts : Set d) (xs : List Node) → length (append_tensors ts xs) ≡ length ts + length xs
unfolding append_tensors
grow_length ts [] = omega arith
grow_length ts (x ∷ xs) =
    grow_length (ts ++ (node_tensor ts x ∷ [])) xs ∙ rw (length-append ts (node_tensor ts x ∷ [])) (omega arith)

module _ (d : ℕ) where
  pub tensors_none : tensors d [] ≡ []
  unfolding tensors append_tensors
  tensors_none = refl

  pub tensors_more : (xs : List Node) (x : Node)
      → tensors d (xs ++ (x ∷ [])) ≡ tensors d xs ++ (node_tensor (tensors d xs) x ∷ [])
  unfolding tensors append_tensors
  tensors_more xs x = tensors_append [] xs (x ∷ [])

  pub tensors_prefix : {xs ys : List Node} → PrefixOf xs ys → PrefixOf (tensors d xs) (tensors d ys)
  unfolding tensors
  tensors_prefix {xs} g = rw (g.is, tensors_append [] xs g.more) (grow_grows (append_tensors [] xs) g.more)

  pub tensors_length : (xs : List Node) → length (tensors d xs) ≡ length xs
  unfolding tensors
  tensors_length xs = grow_length [] xs ∙ omega arith

-- a tensor is in the set where it is a node's

member_not : {d : ℕ} (T : Tensor d) (ts : Set d) (D : Tensor d) → ((i : ℕ) → i < length ts → get_or ts i D ≢ T)
    → member T ts ≡ false
unfolding member
member_not T [] D n = refl
member_not T (x ∷ ts) D n =
    rw (cases (same T x) (λ e. absurd (n 0 (omega arith) (sym (same_eq T x e)))) (λ e. e))
    (member_not T ts D (λ i p. n (suc i) (omega arith)))

pub member_node : {d : ℕ} (T : Tensor d) (ts : Set d) (n : ℕ) → 1 ≤ n → n ≤ length ts → tensor_at ts n ≡ T
    → member T ts ≡ true
unfolding tensor_at
member_node {d} T ts zero p q e = absurd (omega arith)
member_node {d} T ts (suc n) p q e = member_at T ts n (constant d 1w) q e

pub member_none : {d : ℕ} (T : Tensor d) (ts : Set d) → ((n : ℕ) → n ≤ length ts → tensor_at ts n ≢ T)
    → member T ts ≡ false
unfolding tensor_at
member_none {d} T ts n = member_not T ts (constant d 1w) (λ i p. n (suc i) p)
