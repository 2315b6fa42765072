-- A node is marked exactly when its tensor is one that a collection keeps: marks from the registers' nodes, spread to
-- children and no further, are "the nonconstant tensors got from filled registers by fixing indices 0 to j-1, for j
-- from 0 to 23".
use Rattle.std.proofs.Math.Path.{◌≡◌, refl, sym}
use Rattle.std.proofs.Common.{ap, ◌∙◌, take-suc, take_all}
use Rattle.std.specs.Prelude.{◌≢◌, Bool, cond, ◌||◌, ℕ, zero, suc, ◌-◌, ◌≤◌, ◌<◌, length, take}
use Rattle.std.proofs.Math.Bool.{true, false}
use Rattle.std.proofs.lemmas.Bool.{false≢true}
use mathlib.Core.List.{List, [], ◌∷◌, ◌++◌, append-nil}
use Rattle.std.proofs.Math.Option.{some}
use native.Mathlib.Omega.{arith}
use Rattle.std.proofs.Math.Decide.{ℕ_discrete}
use Rattle.std.proofs.Math.ListN.{get_or}
use Rattle.field.specs.Weight.{to_weight, 0w, 1w}
use Rattle.field.specs.RingLaws.{nonzero_weight}
use Rattle.std.proofs.Math.Nat.{pos_of_ne-zero}
use Rattle.std.proofs.Math.Option.{some-injective}
use Rattle.diagram.specs.Tensor.{Tensor, same, top, fix, normal, scale, constant}
use Rattle.diagram.specs.TensorLaws.{same_eq, same_refl}
use Rattle.diagram.specs.TopLaws.{top_constant}
use Rattle.diagram.specs.TensorScaleLaws.{normal_same}
use Rattle.diagram.specs.Tally.{Set, member, keep_only, keeps}
use Rattle.diagram.specs.Reach.{Reachable, itself, part}
use Rattle.diagram.specs.TallyCollectLaws.{reachable_scale, reachable_unscale, reachable_trans, keeps_reachable}
use Rattle.diagram.specs.TallyCollectLaws.{reachable_keeps}
use Rattle.diagram.specs.NodeLaws.{listed_length}
use Rattle.diagram.specs.Node.{listed}
use Rattle.diagram.specs.Meaning.{tensor_at, edge_in, node_tensor, tensors, Valid}
use Rattle.diagram.specs.MeaningLaws.{at_zero, tensors_more, tensors_length, tensors_none}
use Rattle.diagram.specs.Canonical.{NormalNode, Canonical}
use Rattle.diagram.specs.CanonicalLaws.{normal_node_top, normal_node_low, normal_node_high, node_first}
use Rattle.diagram.specs.CanonicalLaws.{zero_weight}
use Rattle.diagram.specs.Compact.{new_number, survivors, MarksClosed, renumber_node}
use Rattle.diagram.specs.CompactLaws.{survivors_none, survivors_dead, survivors_live}
use Rattle.diagram.specs.CompactSurvivorLaws.{survivor, node_there}
use Rattle.diagram.specs.Registers.{tensors_of, AllValid}
use Rattle.diagram.specs.Mark.{AllMarked}
use Rattle.diagram.specs.TestLaws.{no_some}
use Rattle.diagram.specs.declared.node.Node.{Node}
use Rattle.diagram.specs.declared.node.Edge.{Edge}

keep_only_append : {d : ℕ} (l : List (Tensor d)) (s t : Set d) → keep_only l (s ++ t) ≡ keep_only l s ++ keep_only l t
unfolding keep_only
keep_only_append l [] t = refl
keep_only_append l (x ∷ s) t = go (member x l) (keep_only_append l s t)
  where
    go : (b : Bool) → keep_only l (s ++ t) ≡ keep_only l s ++ keep_only l t
        → cond b (x ∷ keep_only l (s ++ t)) (keep_only l (s ++ t)) ≡ cond b (x ∷ keep_only l s) (keep_only l s)
        ++ keep_only
        l t
    go true e = ap (λ r. x ∷ r) e
    go false e = e

keep_only_one : {d : ℕ} (l : List (Tensor d)) (x : Tensor d) → member x l ≡ true → keep_only l (x ∷ []) ≡ x ∷ []
unfolding keep_only
keep_only_one l x e = rw e

keep_only_none : {d : ℕ} (l : List (Tensor d)) (x : Tensor d) → member x l ≡ false → keep_only l (x ∷ []) ≡ []
unfolding keep_only
keep_only_none l x e = rw e

member_first : {d : ℕ} (x : Tensor d) (s : List (Tensor d)) → member x (x ∷ s) ≡ true
unfolding member
member_first x s = rw (same_refl x)

member_next : {d : ℕ} (x y : Tensor d) (s : List (Tensor d)) → member x s ≡ true → member x (y ∷ s) ≡ true
unfolding member
member_next x y s e = go (same x y)
  where
    go : (b : Bool) → (b || member x s) ≡ true
    go true = refl
    go false = e

edge_scaled : {d : ℕ} (ts : Set d) (e : Edge) (x : Tensor d) → Reachable x (edge_in ts e)
    → Reachable x (scale (to_weight e.weight) (tensor_at ts e.node))
unfolding edge_in
edge_scaled ts e x r = r

at_suc : {d : ℕ} (ts : Set d) (n : ℕ) → get_or ts n (constant d 1w) ≡ tensor_at ts (suc n)
unfolding tensor_at
at_suc ts n = refl

module _ (d : ℕ) (f : ℕ → Node) (count : ℕ) (a : ℕ → ℕ) (canonical : Canonical d (listed f count))
    (closed : MarksClosed a f count) where
  abbrev ts : Set d
  ts = tensors d (listed f count)

  long : length ts ≡ count
  long = tensors_length d (listed f count) ∙ listed_length f count

  -- a list that has exactly the tensors of the marked nodes keeps exactly the survivors' tensors
  module _ (l : List (Tensor d)) (marked : (n : ℕ) → 1 ≤ n → n ≤ count → a n ≢ 0 → member (tensor_at ts n) l ≡ true)
      (other : (n : ℕ) → 1 ≤ n → n ≤ count → a n ≡ 0 → member (tensor_at ts n) l ≡ false) where
    filtered : (m : ℕ) → m ≤ count → keep_only l (take m ts) ≡ tensors d (survivors a f m)
    filtered zero p = rw (survivors_none a f) (unfold keep_only in sym (tensors_none d))
    filtered (suc m) p =
        rw (take-suc ts m (constant d 1w) (rw long p))
        (keep_only_append l (take m ts) (get_or ts m (constant d 1w) ∷ [])
        ∙ go (ℕ_discrete (a (suc m)) 0) (filtered m (omega arith)))
      where
        place : get_or ts m (constant d 1w) ≡ tensor_at ts (suc m)
        place = at_suc ts m

        go : Dec (a (suc m) ≡ 0) → keep_only l (take m ts) ≡ tensors d (survivors a f m)
            → keep_only l (take m ts)
            ++ keep_only l (get_or ts m (constant d 1w) ∷ []) ≡ tensors d (survivors a f (suc m))
        go (yes z) e =
            rw (
              survivors_dead a f m z,
              place,
              keep_only_none l (tensor_at ts (suc m))
                  (other (suc m) (omega arith) p z),
            )
            (append-nil (keep_only l (take m ts)) ∙ e)
        go (no n) e =
            let one = keep_only_one l (tensor_at ts (suc m)) (marked (suc m) (omega arith) p n) in
            let more = tensors_more d (survivors a f m) (renumber_node (new_number a) (f (suc m))) in
            rw (survivors_live a f m n, place, one, more, survivor d f count a canonical closed m p n)
            (ap (λ s. s ++ (tensor_at ts (suc m) ∷ [])) e)

    pub filtered_all : keep_only l ts ≡ tensors d (survivors a f count)
    filtered_all = rw (take_all count ts (omega (arith, long))) at (filtered count (omega arith))

  count_is : length (listed f count) ≡ count
  count_is = listed_length f count

  inside : (n : ℕ) → n ≤ count → n ≤ length (listed f count)
  inside n p = rw count_is p

  -- node r: its top is its index, its cofactors are its edges' tensors
  module _ (r : ℕ) (p : 1 ≤ r) (q : r ≤ count) where
    in_form : NormalNode ts (r - 1) (f r)
    in_form = rw (node_there d f count a canonical closed r p q) at (canonical.each r p (inside r q))

    is_node : tensor_at ts r ≡ node_tensor ts (f r)
    is_node = rw (node_there d f count a canonical closed r p q) at (canonical.meaning r p (inside r q))

    has_top : top (tensor_at ts r) ≡ some (f r).index
    has_top = rw is_node (normal_node_top in_form)

    low_part : fix (f r).index false (tensor_at ts r) ≡ edge_in ts (f r).low
    low_part = rw is_node (normal_node_low in_form)

    high_part : fix (f r).index true (tensor_at ts r) ≡ edge_in ts (f r).high
    high_part = rw is_node (normal_node_high in_form)

  is_normal : (n : ℕ) → n ≤ count → normal (tensor_at ts n) ≡ tensor_at ts n
  is_normal n p = normal_same (tensor_at ts n) (node_first d (listed f count) canonical n (inside n p))

  constant_reaches : (x : Tensor d) (w : _) → Reachable x (constant d w) → ⊥
  constant_reaches x w (itself k e q) = no_some (sym e ∙ top_constant d w)
  constant_reaches x w (part k e b r) = no_some (sym e ∙ top_constant d w)

  -- what an edge reaches, its node reaches
  edge_reaches : (m : ℕ) (e : Edge) (x : Tensor d) → Valid m e → Reachable x (edge_in ts e)
      → (e.node ≢ 0) × Reachable x (tensor_at ts e.node)
  edge_reaches m e x v r = go (ℕ_discrete e.weight 0)
    where
      go : Dec (e.weight ≡ 0) → (e.node ≢ 0) × Reachable x (tensor_at ts e.node)
      go (yes z) = absurd (constant_reaches x 0w (rw (zero_weight d (listed f count) canonical e z) at r))
      go (no n) =
          let down : Reachable x (tensor_at ts e.node) =
          reachable_unscale (to_weight e.weight) x (tensor_at ts e.node) (nonzero_weight e.weight v.small n)
          (edge_scaled ts e x r) in
          ((λ z. constant_reaches x 1w (rw (ap (tensor_at ts) z ∙ at_zero ts) at down)), down)

  reaches_edge : (m : ℕ) (e : Edge) (x : Tensor d) → Valid m e → e.node ≢ 0 → Reachable x (tensor_at ts e.node)
      → Reachable x (edge_in ts e)
  unfolding edge_in
  reaches_edge m e x v n r =
      reachable_scale (to_weight e.weight) x (tensor_at ts e.node)
      (nonzero_weight e.weight v.small (λ z. n (v.zero z))) r

  -- all that a marked node reaches is marked: by its number, since children have smaller ones
  module _ (n : ℕ) (i : n ≤ count) where
    abbrev Marks-all : ℕ → Type 0
    Marks-all r = 1 ≤ r → r ≤ count → a r ≢ 0 → Reachable (tensor_at ts n) (tensor_at ts r) → a n ≢ 0

    reach_step : (r : ℕ) → ((c : ℕ) → c < r → Marks-all c) → Marks-all r
    reach_step r ih p q live (itself k e x) =
        let same : n ≡ r = canonical.unique n r (inside n i) (inside r q) (x ∙ is_normal r q) in
        λ z. live (ap a (sym same) ∙ z)
    reach_step r ih p q live (part k e b h) = go b (rw (some-injective _ _ (sym e ∙ has_top r p q)) at h)
      where
        child : (e : Edge) → Valid (r - 1) e → (e.node ≢ 0 → (e.node < r) × (a e.node ≢ 0))
            → Reachable (tensor_at ts n) (edge_in ts e) → a n ≢ 0
        child e v c h =
            let down = edge_reaches (r - 1) e (tensor_at ts n) v h in
            let near = c down.0 in
            ih e.node near.0 (let z = down.0 in pos_of_ne-zero z)
            (let l : e.node < r = near.0 in omega arith) near.1 down.1

        go : (b : Bool) → Reachable (tensor_at ts n) (fix (f r).index b (tensor_at ts r)) → a n ≢ 0
        go false h = child (f r).low (in_form r p q).low (closed.low r p q live) (rw (low_part r p q) at h)
        go true h = child (f r).high (in_form r p q).high (closed.high r p q live) (rw (high_part r p q) at h)

    reach_below : (bound r : ℕ) → r < bound → Marks-all r
    reach_below zero r l = absurd (omega arith)
    reach_below (suc bound) r l = reach_step r (λ c s. reach_below bound c (omega arith))

    pub reach_marked : (r : ℕ) → 1 ≤ r → r ≤ count → a r ≢ 0 → Reachable (tensor_at ts n) (tensor_at ts r) → a n ≢ 0
    reach_marked r = reach_below (suc r) r (omega arith)

  -- a child is reached from its node, and a node from itself
  reach_self : (n : ℕ) → 1 ≤ n → n ≤ count → Reachable (tensor_at ts n) (tensor_at ts n)
  reach_self n p q = itself (f n).index (has_top n p q) (sym (is_normal n q))

  reach_child : (n : ℕ) → 1 ≤ n → n ≤ count → (b : Bool) (e : Edge) → Valid (n - 1) e
      → fix (f n).index b (tensor_at ts n) ≡ edge_in ts e → e.node ≢ 0
      → Reachable (tensor_at ts e.node) (tensor_at ts n)
  reach_child n p q b e v s z =
      part (f n).index (has_top n p q) b
      (rw s (reaches_edge (n - 1) e _ v z (reach_self e.node (pos_of_ne-zero z)
      (let w : e.node ≤ n - 1 = v.within in omega arith))))

  reach_low : (n : ℕ) → 1 ≤ n → n ≤ count → (f n).low.node ≢ 0
      → Reachable (tensor_at ts (f n).low.node) (tensor_at ts n)
  reach_low n p q = reach_child n p q false (f n).low (in_form n p q).low (low_part n p q)

  reach_high : (n : ℕ) → 1 ≤ n → n ≤ count → (f n).high.node ≢ 0
      → Reachable (tensor_at ts (f n).high.node) (tensor_at ts n)
  reach_high n p q = reach_child n p q true (f n).high (in_form n p q).high (high_part n p q)

  register_marked : (n : ℕ) → n ≤ count → (es : List Edge) → AllValid count es → AllMarked a es
      → (T : Tensor d) → member T (tensors_of ts es) ≡ true → Reachable (tensor_at ts n) T → a n ≢ 0
  unfolding member tensors_of
  register_marked n p [] v m T i r = absurd (false≢true i)
  register_marked n p (e ∷ es) v m T i r = go (same T (edge_in ts e)) refl i (register_marked n p es v.1 m.1 T)
    where
      go : (b : Bool) → same T (edge_in ts e) ≡ b → (b || member T (tensors_of ts es)) ≡ true
          → (member T (tensors_of ts es) ≡ true → Reachable (tensor_at ts n) T → a n ≢ 0) → a n ≢ 0
      go true s i ih =
          let down = edge_reaches count e (tensor_at ts n) v.0 (rw (same_eq T (edge_in ts e) s) at r) in
          reach_marked n p e.node (pos_of_ne-zero down.0) v.0.within (m.0 down.0) down.1
      go false s i ih = ih i r

  -- the edges of the filled registers
  module _ (es : List Edge) (valid : AllValid count es) where
    abbrev filled : List (Tensor d)
    filled = tensors_of ts es

    abbrev kept : ℕ → Bool
    kept n = member (tensor_at ts n) (keeps d filled)

    -- what the registers reach is marked, where their nodes are
    pub kept_marked : AllMarked a es → (n : ℕ) → n ≤ count → kept n ≡ true → a n ≢ 0
    kept_marked marked n p e =
        let found = keeps_reachable filled (tensor_at ts n) e in
        register_marked n p es valid marked found.0 found.1 found.2

    -- the marks of what the registers reach
    pub kept_mark : ℕ → ℕ
    kept_mark n = cond (kept n) 1 0

    pub mark_kept : (n : ℕ) → kept_mark n ≢ 0 → kept n ≡ true
    unfolding kept_mark
    mark_kept n m = go (kept n) refl
      where
        go : (b : Bool) → kept n ≡ b → kept n ≡ true
        go true e = e
        go false e = absurd (m (rw e))

    kept_mark_lem : (n : ℕ) → kept n ≡ true → kept_mark n ≢ 0
    unfolding kept_mark
    kept_mark_lem n e z = let one : ◌≡◌ {A = ℕ} 1 0 = rw e at z in omega arith

    -- a child of what is reached is reached
    kept_child : (n c : ℕ) → kept_mark n ≢ 0 → Reachable (tensor_at ts c) (tensor_at ts n) → kept_mark c ≢ 0
    kept_child n c m r =
        let found = keeps_reachable filled (tensor_at ts n) (mark_kept n m) in
        kept_mark_lem c (reachable_keeps filled (tensor_at ts c) found.0 found.1
        (reachable_trans (tensor_at ts n) (tensor_at ts c) found.0 found.2 r))

    pub kept_closed : MarksClosed kept_mark f count
    kept_closed = record {
      low = λ n p q m z. (
        let w : (f n).low.node ≤ n - 1 = (in_form n p q).low.within in omega arith,
        kept_child n (f n).low.node m (reach_low n p q z),
      );
      high = λ n p q m z. (
        let w : (f n).high.node ≤ n - 1 = (in_form n p q).high.within in omega arith,
        kept_child n (f n).high.node m (reach_high n p q z),
      );
    }

    kept_root : (e : Edge) → member (edge_in ts e) filled ≡ true → Valid count e → e.node ≢ 0 → kept_mark e.node ≢ 0
    kept_root e i v n =
        kept_mark_lem e.node
        (reachable_keeps filled (tensor_at ts e.node) (edge_in ts e) i
        (reaches_edge count e (tensor_at ts e.node) v n (reach_self e.node (pos_of_ne-zero n) v.within)))

    -- the registers' own nodes are reached
    pub kept_roots : AllMarked kept_mark es
    unfolding tensors_of
    kept_roots = go es valid (λ e i. i)
      where
        go : (fs : List Edge) → AllValid count fs
            → ((T : Tensor d) → member T (tensors_of ts fs) ≡ true → member T filled ≡ true) → AllMarked kept_mark fs
        go [] v h = tt
        go (e ∷ fs) v h =
            let T = edge_in ts e in (
              (λ n. kept_root e (h T (member_first T (tensors_of ts fs))) v.0 n),
              go fs v.1 (λ U i. h U (member_next U T (tensors_of ts fs) i)),
            )
