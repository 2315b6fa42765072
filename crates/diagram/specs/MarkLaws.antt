-- Laws of marking: from the registers, then downwards, since children stand before their parents.
use Rattle.std.specs.Prelude.{◌≡◌, refl, ◌≢◌, List, [], ◌∷◌, ◌++◌, ℕ, ◌*◌, ◌≤◌, ◌-◌, ◌+◌, ◌<◌, length}
use Rattle.std.specs.Prelude.{get_or, take, Some, None}
use Rattle.std.proofs.Common.{ap, sym, subst, ◌∙◌, append-nil, arith, add-one, take-suc, take_all}
use Rattle.std.proofs.Math.Decide.{ℕ_discrete}
use Rattle.diagram.specs.Fields.{field, put_field, Cleared}
use Rattle.diagram.specs.FieldsLaws.{put_field_length, put_field_same, put_field_other}
use Rattle.diagram.specs.Node.{node_at}
use Rattle.diagram.specs.NodeLaws.{put_node_lem, cleared_nodes}
use Rattle.diagram.specs.Compact.{ChildrenWithin}
use Rattle.diagram.specs.Mark.{ChildrenBefore, SpreadEnsures, Marked, SpreadLoop, MarkEnsures}
use Rattle.diagram.specs.Mark.{MarkChildrenEnsures}
use Rattle.diagram.specs.Mark.{AllMarked, ExactlyMarked, RootsEnsures, NoneMarked, RootEnsures, RootsLoop}
use Rattle.diagram.specs.Mark.{marks_of, ReachEnsures}
use Rattle.diagram.specs.Registers.{Register, edges_of, empty_register, AllValid}
use Rattle.diagram.specs.RegistersLaws.{edges_append}
use Rattle.diagram.specs.declared.node.Node.{Node}
use Rattle.diagram.specs.declared.node.Edge.{Edge}

pub mark_ensures : (c : ℕ) (s : List ℕ) → 16 * c ≤ length s → c ≢ 0 → MarkEnsures s (put_field s 5 (c - 1) 1) c
mark_ensures c s h o = record {
  long = put_field_length s 5 (c - 1) 1;
  kept = put_node_lem s 5 (c - 1) 1 (omega arith) (omega arith);
  mono = λ n m e. elim (ℕ_discrete (n - 1) (c - 1)) [
    | yes i ↦ (let z : ◌≡◌ {A = ℕ} 1 0 = sym (put_field_same s 5 (c - 1) 1 (omega arith)) ∙ ap (field _ 5) (sym i)
        ∙ e in omega arith)
    | no j ↦ m (sym (put_field_other s 5 (c - 1) 1 5 (n - 1) (omega arith) (omega arith) j) ∙ e)
  ];
  hit = λ _ e. (let z : ◌≡◌ {A = ℕ} 1 0 = sym (put_field_same s 5 (c - 1) 1 (omega arith)) ∙ e in omega arith);
  only = λ n p d m e. m (put_field_other s 5 (c - 1) 1 5 (n - 1) (omega arith) (omega arith) (omega arith) ∙ e);
}

pub spread_start : (s : List ℕ) (count : ℕ) → SpreadLoop (λ n. field s 5 (n - 1)) (node_at s) count s count
spread_start s count = record {
  kept = refl;
  roots = λ j p q m. m;
  low = λ j p q. absurd (omega arith);
  high = λ j p q. absurd (omega arith);
  least = λ b h k j p q m. h j p q m;
}

module _ (r : ℕ → ℕ) (f : ℕ → Node) (count : ℕ) (s : List ℕ) (n : ℕ) (down : ChildrenBefore f count)
    (k : SpreadLoop r f count s n) (p₀ : 1 ≤ n) (q₀ : n ≤ count) where
  pub spread_dead : field s 5 (n - 1) ≡ 0 → SpreadLoop r f count s (n - 1)
  spread_dead z = record {
    kept = k.kept;
    roots = k.roots;
    low = λ j p q m. elim (ℕ_discrete j n) [
      | yes e ↦ absurd (m (ap (λ (i : ℕ). field s 5 (i - 1)) e ∙ z))
      | no d ↦ k.low j (omega arith) q m
    ];
    high = λ j p q m. elim (ℕ_discrete j n) [
      | yes e ↦ absurd (m (ap (λ (i : ℕ). field s 5 (i - 1)) e ∙ z))
      | no d ↦ k.high j (omega arith) q m
    ];
    least = k.least;
  }

  module _ (s₁ s₂ : List ℕ) (live : Marked s n) (m₁ : MarkEnsures s s₁ (f n).low.node)
      (m₂ : MarkEnsures s₁ s₂ (f n).high.node) where
    up : (j : ℕ) → Marked s j → Marked s₂ j
    up j m = m₂.mono j (m₁.mono j m)

    back : (j : ℕ) → n ≤ j → Marked s₂ j → Marked s j
    back j h m = m₁.only j (omega arith) (omega (arith, down.low n p₀ q₀))
        (m₂.only j (omega arith) (omega (arith, down.high n p₀ q₀)) m)

    pub spread_live : SpreadLoop r f count s₂ (n - 1)
    spread_live = record {
      kept = m₂.kept ∙ m₁.kept ∙ k.kept;
      roots = λ j p q m. up j (k.roots j p q m);
      low = λ j p q m c. elim (ℕ_discrete j n) [
        | yes e ↦ subst (λ (i : ℕ). Marked s₂ (f i).low.node) (sym e)
            (m₂.mono _ (m₁.hit (λ z. c (ap (λ (i : ℕ). (f i).low.node) e ∙ z))))
        | no d ↦ up _ (k.low j (omega arith) q (back j (omega arith) m) c)
      ];
      high = λ j p q m c. elim (ℕ_discrete j n) [
        | yes e ↦ subst (λ (i : ℕ). Marked s₂ (f i).high.node) (sym e)
            (m₂.hit (λ z. c (ap (λ (i : ℕ). (f i).high.node) e ∙ z)))
        | no d ↦ up _ (k.high j (omega arith) q (back j (omega arith) m) c)
      ];
      least = λ b h cl j p q m.
          (let own : b n ≢ 0 = k.least b h cl n p₀ q₀ live in
          elim (ℕ_discrete j (f n).high.node) [
            | yes e ↦ subst (λ (i : ℕ). b i ≢ 0) (sym e) (cl.high n p₀ q₀ own (omega arith)).1
            | no d ↦ elim (ℕ_discrete j (f n).low.node) [
              | yes e ↦ subst (λ (i : ℕ). b i ≢ 0) (sym e) (cl.low n p₀ q₀ own (omega arith)).1
              | no o ↦ k.least b h cl j p q (m₁.only j p o (m₂.only j p d m))
            ]
          ]);
    }

pub spread_end : (s s' : List ℕ) (count : ℕ) → ChildrenBefore (node_at s) count
    → SpreadLoop (λ n. field s 5 (n - 1)) (node_at s) count s' 0 → SpreadEnsures s s' count
spread_end s s' count down k = record {
  kept = k.kept;
  roots = k.roots;
  closed = record {
    low = λ n p q m c. (down.low n p q, k.low n p q m c);
    high = λ n p q m c. (down.high n p q, k.high n p q m c);
  };
  least = k.least;
}

pub children_of_unmarked : {count : ℕ} {s : List ℕ} {n : ℕ} {x : ℕ} → x ≡ field s 5 (n - 1) → 1 ≤ n → n ≤ count → x ≡ 0
    → MarkChildrenEnsures count s s n
children_of_unmarked e p q z = record { on = λ r f down k. spread_dead r f _ _ _ down k p q (sym e ∙ z) }

pub children_of_marked : {count : ℕ} {s s₁ s₂ : List ℕ} {n : ℕ} {m : ℕ} {x : Node} → m ≡ field s 5 (n - 1) → 1 ≤ n → n
    ≤ count
    → m ≢ 0 → x ≡ node_at s n
    → MarkEnsures s s₁ x.low.node → MarkEnsures s₁ s₂ x.high.node → MarkChildrenEnsures count s s₂ n
children_of_marked {count} {s} {s₁} {s₂} {n} e p q d h m₁ m₂ =
    record {
      on = λ r f down k.
          (let is : _ ≡ f n = h ∙ ap (λ (g : ℕ → Node). g n) k.kept in
          spread_live r f _ _ _ down k p q _ _ (λ z. d (e ∙ z))
          (subst (λ (y : Node). MarkEnsures s s₁ y.low.node) is m₁)
          (subst (λ (y : Node). MarkEnsures s₁ s₂ y.high.node) is m₂));
    }

pub children_within : {f : ℕ → Node} {count : ℕ} {s : List ℕ} {n : ℕ} → ChildrenBefore f count → node_at s ≡ f → 1 ≤ n
    → n ≤ count → 16 * count ≤ length s → ChildrenWithin s n
children_within {f} {count} {s} {n} down e p q h =
    record { low_within = rw e (omega (arith, down.low n p q)); high_within = rw e (omega (arith, down.high n p q)) }

pub cleared_marks : {s₀ s : List ℕ} {m : ℕ} → Cleared s₀ s 5 m → NoneMarked s₀ s m
cleared_marks c =
    record { kept = cleared_nodes 5 (omega arith) (omega arith) c; none = λ n p q. c.none (n - 1) (omega arith) }

pub exactly_none : {count : ℕ} {s₀ s : List ℕ} → NoneMarked s₀ s count → ExactlyMarked count [] s₀ s
exactly_none u = record { kept = u.kept; all = tt; only = λ b h n p q m. absurd (m (u.none n p q)) }

all_append : (a : ℕ → ℕ) (es fs : List Edge) → AllMarked a es → AllMarked a fs → AllMarked a (es ++ fs)
all_append a [] fs p q = q
all_append a (e ∷ es) fs p q = (p.0, all_append a es fs p.1 q)

all_front : (a : ℕ → ℕ) (es fs : List Edge) → AllMarked a (es ++ fs) → AllMarked a es
all_front a [] fs p = tt
all_front a (e ∷ es) fs p = (p.0, all_front a es fs p.1)

all_back : (a : ℕ → ℕ) (es fs : List Edge) → AllMarked a (es ++ fs) → AllMarked a fs
all_back a [] fs p = p
all_back a (e ∷ es) fs p = all_back a es fs p.1

pub all_mono : (a b : ℕ → ℕ) (es : List Edge) → ((n : ℕ) → a n ≢ 0 → b n ≢ 0) → AllMarked a es → AllMarked b es
all_mono a b [] h p = tt
all_mono a b (e ∷ es) h p = ((λ n. h e.node (p.0 n)), all_mono a b es h p.1)

exactly_edge : {count : ℕ} {es : List Edge} {s₀ s s' : List ℕ} (e : Edge) → ExactlyMarked count es s₀ s
    → MarkEnsures s s' e.node → ExactlyMarked count (es ++ (e ∷ [])) s₀ s'
exactly_edge {count} {es} {s₀} {s} {s'} e r m = record {
  kept = m.kept ∙ r.kept;
  all = all_append (marks_of s') es (e ∷ []) (all_mono (marks_of s) (marks_of s') es m.mono r.all) (m.hit, tt);
  only = λ b h n p q live. elim (ℕ_discrete n e.node) [
    | yes i ↦ subst (λ x. b x ≢ 0) (sym i) ((all_back b es (e ∷ []) h).0 (λ z. omega arith))
    | no d ↦ r.only b (all_front b es (e ∷ []) h) n p q (m.only n p d live)
  ];
}

pub root_empty : {r : Register} {s : List ℕ} → r ≡ None → RootEnsures r s s
unfolding edges_of
root_empty q = rw q (record { on = λ count es s₀ r. rw (append-nil es) r })

pub root_filled : {r : Register} {e : Edge} {s s' : List ℕ} → r ≡ Some e → MarkEnsures s s' e.node
    → RootEnsures r s s'
unfolding edges_of
root_filled {e = e} q m = rw q (record { on = λ count es s₀ r. exactly_edge e r m })

-- one register more
pub exactly_more : {count : ℕ} {s₀ s s' : List ℕ} (rs : List Register) (i : ℕ) (x : Register) → i < length rs
    → x ≡ get_or rs i empty_register → RootEnsures x s s'
    → ExactlyMarked count (edges_of (take i rs)) s₀ s → ExactlyMarked count (edges_of (take (i + 1) rs)) s₀ s'
exactly_more {count} {s₀} rs i x h e r k =
    rw (add-one i, take-suc rs i empty_register h, ← e, edges_append (take i rs) (x ∷ []))
    (r.on count (edges_of (take i rs)) s₀ k)

pub roots_start : (count : ℕ) (rs : List Register) (s : List ℕ) → RootsLoop count rs s s 0
unfolding edges_of
roots_start count rs s = record { on = λ s₀ r. r }

pub roots_on : {count : ℕ} {rs : List Register} {s s₁ s₂ : List ℕ} {i : ℕ} (x : Register) → i < length rs
    → x ≡ get_or rs i empty_register → RootEnsures x s₁ s₂
    → RootsLoop count rs s s₁ i → RootsLoop count rs s s₂ (i + 1)
roots_on {rs = rs} {i = i} x h e r k = record { on = λ s₀ n. exactly_more rs i x h e r (k.on s₀ n) }

pub roots_end : {count : ℕ} {rs : List Register} {s s' : List ℕ} {i : ℕ} → length rs ≤ i → RootsLoop count rs s s' i
    → RootsEnsures count rs s s'
roots_end {count} {rs} {s} {s'} {i} h k =
    record { on = λ s₀ n. subst (λ l. ExactlyMarked count (edges_of l) s₀ s') (take_all i rs h) (k.on s₀ n) }

all_within : (a b : ℕ → ℕ) (count : ℕ) (es : List Edge) → AllValid count es
    → ((n : ℕ) → 1 ≤ n → n ≤ count → a n ≢ 0 → b n ≢ 0) → AllMarked a es → AllMarked b es
all_within a b count [] v h p = tt
all_within a b count (e ∷ es) v h p =
    ((λ n. h e.node (omega (arith, n)) v.0.within (p.0 n)), all_within a b count es v.1 h p.1)

pub reach_ensures : {count : ℕ} {es : List Edge} {s₀ s s' : List ℕ} → AllValid count es → ExactlyMarked count es s₀ s
    → SpreadEnsures s s' count → ReachEnsures count es s₀ s'
reach_ensures {count} {es} {s₀} {s} {s'} v r p = record {
  kept = p.kept ∙ r.kept;
  all = all_within (marks_of s) (marks_of s') count es v p.roots r.all;
  closed = rw r.kept at p.closed;
  least = λ b h c n i j m. p.least b (r.only b h) (rw r.kept c) n i j m;
}
