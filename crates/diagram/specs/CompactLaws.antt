-- Laws of moving the marked nodes down: new numbers, survivors, one node further.
use Rattle.std.specs.Prelude.{◌≡◌, refl, ◌≢◌, List, [], ◌∷◌, ◌++◌, length}
use Rattle.std.proofs.Math.Path.{ap}
use Rattle.std.proofs.Common.{ap₂, sym, subst, ◌∙◌, add-one, arith, eq-eqb, ne_eqb}
use Prim.Native.Nat.{ℕ, zero, suc, ◌+◌, ◌*◌, ◌≤◌, ◌<◌, ◌-◌}
use Rattle.std.proofs.Math.Decide.{ℕ_discrete}
use Rattle.diagram.specs.Fields.{field, put_field}
use Rattle.diagram.specs.FieldsLaws.{put_field_same, put_field_other}
use Rattle.diagram.specs.Node.{NodeFits, node_at, put_node}
use Rattle.diagram.specs.NodeLaws.{there, put_node_lem, put_node_length, put_node_beside, put_node_other, put_node_same}
use Rattle.diagram.specs.NodeLaws.{listed_none, listed_more, listed_ext}
use Rattle.diagram.specs.Compact.{ChildrenWithin, new_number, renumber_node, CompactLoop, survivors, shift_node}
use Rattle.diagram.specs.Compact.{forward, MarksClosed}
use Rattle.diagram.specs.declared.node.Node.{Node}

pub new_number_none : (a : ℕ → ℕ) → new_number a 0 ≡ 0
unfolding new_number
new_number_none a = refl

pub new_number_dead : (a : ℕ → ℕ) (m : ℕ) → a (suc m) ≡ 0 → new_number a (suc m) ≡ new_number a m
unfolding new_number
new_number_dead a m e = rw (eq-eqb _ _ e) refl

pub new_number_live : (a : ℕ → ℕ) (m : ℕ) → a (suc m) ≢ 0 → new_number a (suc m) ≡ suc (new_number a m)
unfolding new_number
new_number_live a m e = rw (ne_eqb _ _ e) refl

pub new_number_le : (a : ℕ → ℕ) (m : ℕ) → new_number a m ≤ m
new_number_le a zero = rw (new_number_none a) (omega arith)
new_number_le a (suc m) = go (ℕ_discrete (a (suc m)) 0) (new_number_le a m)
  where
    go : Dec (a (suc m) ≡ 0) → new_number a m ≤ m → new_number a (suc m) ≤ suc m
    go (yes e) h = rw (new_number_dead a m e) (omega arith)
    go (no d) h = rw (new_number_live a m d) (omega arith)

pub survivors_none : (a : ℕ → ℕ) (f : ℕ → Node) → survivors a f 0 ≡ []
unfolding survivors
survivors_none a f = refl

pub survivors_dead : (a : ℕ → ℕ) (f : ℕ → Node) (m : ℕ) → a (suc m) ≡ 0 → survivors a f (suc m) ≡ survivors a f m
unfolding survivors
survivors_dead a f m e = rw (eq-eqb _ _ e) refl

pub survivors_live : (a : ℕ → ℕ) (f : ℕ → Node) (m : ℕ) → a (suc m) ≢ 0
    → survivors a f (suc m) ≡ survivors a f m ++ (renumber_node (new_number a) (f (suc m)) ∷ [])
unfolding survivors
survivors_live a f m e = rw (ne_eqb _ _ e) refl

pub forward_zero : (s : List ℕ) → forward s 0 ≡ 0
unfolding forward
forward_zero s = refl

pub forward_node : (s : List ℕ) (c : ℕ) → c ≢ 0 → forward s c ≡ field s 5 (c - 1)
unfolding forward
forward_node s c d = rw (ne_eqb c 0 d) refl

pub compact_start : (s : List ℕ) (count : ℕ) → CompactLoop (λ n. field s 5 (n - 1)) (node_at s) count s 0 0
compact_start s count =
    record {
      within = omega arith;
      counted = sym (new_number_none _);
      moved = listed_none _ ∙ sym (survivors_none _ _);
      numbers = λ n p q. absurd (omega arith);
      marks = λ n p q. refl;
      ahead = λ n p q. refl;
    }

module _ (a : ℕ → ℕ) (f : ℕ → Node) (count : ℕ) (s : List ℕ) (m k : ℕ) (c : CompactLoop a f count s m k)
    (l : m < count) where
  mark : field s 5 m ≡ a (suc m)
  mark = ap (field s 5) (let e : m ≡ suc m - 1 = omega arith in e) ∙ c.marks (suc m) (omega arith) (omega arith)

  pub compact_dead : field s 5 m ≡ 0 → CompactLoop a f count s (m + 1) k
  compact_dead z =
      let d : a (suc m) ≡ 0 = sym mark ∙ z in
      rw (add-one m) record {
        within = omega arith;
        counted = c.counted ∙ sym (new_number_dead a m d);
        moved = c.moved ∙ sym (survivors_dead a f m d);
        numbers = λ n p q live. elim (ℕ_discrete n (suc m)) [
          | yes e ↦ absurd (live (ap a e ∙ d))
          | no o ↦ c.numbers n p (omega arith) live
        ];
        marks = λ n p q. c.marks n (omega arith) q;
        ahead = λ n p q. c.ahead n (omega arith) q;
      }

  module _ (closed : MarksClosed a f count) (live : field s 5 m ≢ 0) (room : 16 * count ≤ length s) where
    alive : a (suc m) ≢ 0
    alive e = live (mark ∙ e)

    here : node_at s (suc m) ≡ f (suc m)
    here = c.ahead (suc m) (omega arith) (omega arith)

    child : (d : ℕ) → (d ≢ 0 → (d < suc m) × (a d ≢ 0)) → forward s d ≡ new_number a d
    child d h =
        elim (ℕ_discrete d 0) [
          | yes e ↦ rw e (forward_zero s ∙ sym (new_number_none a))
          | no o ↦ forward_node s d o ∙ c.numbers d (omega arith) (let b : d < suc m = (h o).0 in omega arith) (h o).1
        ]

    image : renumber_node (forward s) (node_at s (suc m)) ≡ renumber_node (new_number a) (f (suc m))
    image =
        rw here
        (ap₂ (λ (u v : ℕ). record {
          index = (f (suc m)).index;
          low = record
              { weight = (f (suc m)).low.weight; node = u };
          high = record { weight = (f (suc m)).high.weight; node = v };
          mask = (f (suc m)).mask;
        })
        (child _ (closed.low (suc m) (omega arith) (omega arith) alive))
        (child _ (closed.high (suc m) (omega arith) (omega arith) alive)))

    low_enough : k ≤ m
    low_enough = omega (arith, c.counted, new_number_le a m)

    abbrev x : Node
    x = renumber_node (forward s) (node_at s (suc m))

    abbrev s' : List ℕ
    s' = shift_node (suc m) (suc k) s

    node_other : (n : ℕ) → 1 ≤ n → n ≢ suc k → node_at s' n ≡ node_at s n
    unfolding shift_node
    node_other n p d = ap (λ (g : ℕ → Node). g n) (put_node_lem _ 5 _ _ (omega arith) (omega arith))
        ∙ put_node_other s (suc k) x n (omega arith) p d

    node_new : NodeFits x → node_at s' (suc k) ≡ x
    unfolding shift_node
    node_new h =
        ap (λ (g : ℕ → Node). g (suc k)) (put_node_lem _ 5 _ _ (omega arith) (omega arith))
        ∙ put_node_same s (suc k) x (record { first = omega arith; last = omega (arith, low_enough) }) h

    mark_other : (n : ℕ) → 1 ≤ n → n ≢ suc m → field s' 5 (n - 1) ≡ field s 5 (n - 1)
    unfolding shift_node
    mark_other n p d =
        put_field_other _ 5 _ _ 5 _ (omega arith) (omega arith) (omega arith)
        ∙ there (put_node_beside s (suc k) x 5 (omega arith) (omega arith)) (n - 1)

    mark_new : field s' 5 (suc m - 1) ≡ suc k
    unfolding shift_node
    mark_new = put_field_same _ 5 _ _ (omega (arith, put_node_length s (suc k) x))

    pub compact_live : NodeFits (renumber_node (forward s) (node_at s (m + 1)))
        → CompactLoop a f count (shift_node (m + 1) (k + 1) s) (m + 1) (k + 1)
    compact_live h₀ =
        let h : NodeFits x = rw (add-one m) at h₀ in
        rw (add-one m, add-one k) record {
          within = omega arith;
          counted = ap suc c.counted ∙ sym (new_number_live a m alive);
          moved =
              listed_more _ k
              ∙ ap₂ (λ (u : List Node) (v : Node). u ++ (v ∷ []))
              (listed_ext (node_at s) _ k (λ n p q. node_other n p (omega arith)) ∙ c.moved) (node_new h ∙ image)
              ∙ sym (survivors_live a f m alive);
          numbers = λ n p q g. elim (ℕ_discrete n (suc m)) [
            | yes e ↦ rw e (mark_new ∙ ap suc c.counted ∙ sym (new_number_live a m alive))
            | no o ↦ mark_other n p o ∙ c.numbers n p (omega arith) g
          ];
          marks = λ n p q. mark_other n (omega arith) (omega arith) ∙ c.marks n (omega arith) q;
          ahead = λ n p q. node_other n (omega arith) (omega (arith, low_enough)) ∙ c.ahead n (omega arith) q;
        }

pub shift_by : (s : List ℕ) (n k : ℕ) {x : Node} {u v : ℕ} {s₁ s₂ : List ℕ}
    → x ≡ node_at s n → NodeFits x → u ≡ forward s x.low.node → u < 65536 → v ≡ forward s x.high.node → v < 65536
    → s₁ ≡ put_node s k (record {
      index = x.index;
      low = record { weight = x.low.weight; node = u };
      high = record
          { weight = x.high.weight; node = v };
      mask = x.mask;
    })
    → s₂ ≡ put_field s₁ 5 (n - 1) k
    → (s₂ ≡ shift_node n k s) × NodeFits (renumber_node (forward s) (node_at s n))
unfolding shift_node
shift_by s n k {x} {u} {v} p h q hu r hv t₁ t₂ =
    let made : ℕ → ℕ → Node =
    λ a b. record {
      index = x.index;
      low = record { weight = x.low.weight; node = a };
      high = record
          { weight = x.high.weight; node = b };
      mask = x.mask;
    } in
    let e : made u v ≡ renumber_node (forward s) (node_at s n) = rw (← p) (ap₂ made q r) in
    (t₂ ∙ ap (λ (l : List ℕ). put_field l 5 (n - 1) k) (t₁ ∙ ap (put_node s k) e), subst NodeFits e (omega arith))

-- the children of a marked node that has not moved
pub ahead_children : (a : ℕ → ℕ) (f : ℕ → Node) (count : ℕ) (s : List ℕ) (m k : ℕ) → 16 * count ≤ length s
    → MarksClosed a f count → CompactLoop a f count s m k
    → m < count → field s 5 m ≢ 0 → ChildrenWithin s (m + 1)
ahead_children a f count s m k room closed c l live =
    let there : node_at s (suc m) ≡ f (suc m) = here a f count s m k c l closed live room in
    let marked : a (suc m) ≢ 0 = alive a f count s m k c l closed live room in
    let small : (d : ℕ) → (d ≢ 0 → (d < suc m) × (a d ≢ 0)) → 16 * d ≤ length s =
    λ d h. elim (ℕ_discrete d 0) [ yes e ↦ omega arith | no o ↦ (let b : d < suc m = (h o).0 in omega arith) ] in
    rw (add-one m) record {
      low_within = rw there (small _ (closed.low (suc m) (omega arith) (omega arith) marked));
      high_within = rw there (small _ (closed.high (suc m) (omega arith) (omega arith) marked));
    }

pub compact_below : {a : ℕ → ℕ} {f : ℕ → Node} {count : ℕ} {s : List ℕ} {m k : ℕ} → CompactLoop a f count s m k → k ≤ m
compact_below {a} {f} {count} {s} {m} {k} c = omega (arith, c.counted, new_number_le a m)
