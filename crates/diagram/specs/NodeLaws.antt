-- Laws of nodes' records: reading back, what a write leaves alone, nodes as a list, equality decided field by field.
use Rattle.std.specs.Prelude.{◌≡◌, refl, ◌≢◌, get_or}
use Rattle.std.proofs.Common.{ap, ◌∙◌, subst, ap₂, sym, arith, add-one, length-append}
use Rattle.std.proofs.Math.Path.{fun_ext}
use mathlib.Core.List.{List, [], ◌∷◌, ◌++◌}
use Prim.Native.Nat.{ℕ, ◌/◌, ◌%◌, ◌≤◌, ◌<◌, ◌-◌, zero, suc, ◌+◌}
use Rattle.std.proofs.Math.Decide.{ℕ_discrete}
use Rattle.std.proofs.Math.ListN.{length, get_or-append}
use Rattle.std.proofs.Math.Seq.{get_or-append_seam}
use Rattle.std.specs.Bool.{Decides}
use Rattle.std.proofs.lemmas.Bool.Decides.{Decides-and, Decides-eqb}
use Rattle.diagram.specs.Fields.{field, put_field, Cleared}
use Rattle.diagram.specs.FieldsLaws.{put_field_length, put_field_same, put_field_other, put_field_beside}
use Rattle.diagram.specs.Node.{NodeFits, RecordWithin, put_node, decode, packed_field, node_at, same_edge, same_node}
use Rattle.diagram.specs.Node.{listed}
use Rattle.diagram.specs.Sets.{PrefixOf}
use Rattle.diagram.specs.SetsLaws.{prefix_refl, prefix_trans}
use Rattle.diagram.specs.declared.node.Node.{Node}
use Rattle.diagram.specs.declared.node.Edge.{Edge}

-- a node read and written, field by field

pub read_by : (s : List ℕ) (n : ℕ) {a b c d e f : ℕ}
    → a ≡ field s 0 (n - 1) → b ≡ field s 1 (n - 1) → c ≡ field s 2 (n - 1) → d ≡ field s 3 (n - 1)
    → e ≡ field s 6 (n - 1) → f ≡ field s 7 (n - 1) → decode a b c d e f ≡ node_at s n
unfolding node_at
read_by s n p q r t u v = cc

pub written_by : (s : List ℕ) (n : ℕ) (x : Node) {s₁ s₂ s₃ s₄ s₅ s₆ : List ℕ}
    → s₁ ≡ put_field s 0 (n - 1) (packed_field x) → s₂ ≡ put_field s₁ 1 (n - 1) x.low.node
    → s₃ ≡ put_field s₂ 2 (n - 1) (x.high.weight % 65536)
    → s₄ ≡ put_field s₃ 3 (n - 1) x.high.node → s₅ ≡ put_field s₄ 6 (n - 1) (x.mask % 65536)
    → s₆ ≡ put_field s₅ 7 (n - 1) (x.mask / 65536) → s₆ ≡ put_node s n x
unfolding put_node
written_by s n x p q r t u v = cc

-- when two edges, and two nodes, are the same

pub edge_eq : {a b : Edge} → a.weight ≡ b.weight → a.node ≡ b.node → a ≡ b
edge_eq p q = λ i. record { weight = p i; node = q i }

pub node_eq : {x y : Node} → x.index ≡ y.index → x.low ≡ y.low → x.high ≡ y.high → x.mask ≡ y.mask → x ≡ y
node_eq p q r t = λ i. record { index = p i; low = q i; high = r i; mask = t i }

-- what the derived `==` of edges and of nodes answers

pub edge_told : (a b : Edge) → Decides (same_edge a b) (a ≡ b)
edge_told a b =
    let told = Decides-and _ _ (Decides-eqb a.weight b.weight) (Decides-eqb a.node b.node) in (
      λ q. (let w = told.0 q in edge_eq w.0 w.1),
      λ e. told.1 (ap (λ (x : Edge). x.weight) e, ap (λ (x : Edge). x.node) e),
    )

pub node_told : (x y : Node) → Decides (same_node x y) (x ≡ y)
node_told x y =
    let told = Decides-and _ _ (Decides-eqb x.index y.index)
    (Decides-and _ _ (edge_told x.low y.low)
    (Decides-and _ _ (edge_told x.high y.high) (Decides-eqb x.mask y.mask))) in (
      λ q. (let w = told.0 q in node_eq w.0 w.1.0 w.1.1.0 w.1.1.1),
      λ e. told.1 (
        ap (λ (z : Node). z.index) e,
        (ap (λ (z : Node). z.low) e, (ap (λ (z : Node). z.high) e, ap (λ (z : Node). z.mask) e)),
      ),
    )

-- two functions that are equal are equal at i
pub there : {f g : ℕ → ℕ} → f ≡ g → (i : ℕ) → f i ≡ g i
there e i = ap (λ (q : ℕ → ℕ). q i) e

decode_ap : {a b c d e f a' b' c' d' e' f' : ℕ} → a ≡ a' → b ≡ b' → c ≡ c' → d ≡ d' → e ≡ e' → f ≡ f'
    → decode a b c d e f ≡ decode a' b' c' d' e' f'
decode_ap p q r t u v = λ i. decode (p i) (q i) (r i) (t i) (u i) (v i)

decode_packed : (x : Node) → NodeFits x
    → decode (packed_field x) x.low.node (x.high.weight % 65536) x.high.node (x.mask % 65536)
    (x.mask / 65536) ≡ x
unfolding decode
decode_packed x h = node_eq (omega arith) (edge_eq (omega arith) refl) (edge_eq (omega arith) refl) (omega arith)

-- a node is the same where its fields are: those but 4 and 5, which are the unique table's
same_fields : (s s' : List ℕ) (n : ℕ)
    → ((g : ℕ) → g < 8 → g ≢ 4 → g ≢ 5 → field s' g (n - 1) ≡ field s g (n - 1)) → node_at s' n ≡ node_at s n
unfolding node_at
same_fields s s' n at =
    decode_ap (at 0 (omega arith) (λ e. omega arith) (λ e. omega arith))
    (at 1 (omega arith) (λ e. omega arith) (λ e. omega arith))
    (at 2 (omega arith) (λ e. omega arith) (λ e. omega arith))
    (at 3 (omega arith) (λ e. omega arith) (λ e. omega arith))
    (at 6 (omega arith) (λ e. omega arith) (λ e. omega arith))
    (at 7 (omega arith) (λ e. omega arith) (λ e. omega arith))

-- A put of one of the table's fields changes no node.
pub put_node_lem : (s : List ℕ) (f i v : ℕ) → 4 ≤ f → f < 6 → node_at (put_field s f i v) ≡ node_at s
put_node_lem s f i v h l =
    fun_ext (λ n. same_fields s _ n
    (λ g k a b. there (put_field_beside s f i v g (omega arith) k (omega arith)) (n - 1)))

-- .. nor does a field of more records, set to 0
pub cleared_nodes : {s s' : List ℕ} {m : ℕ} (f : ℕ) → 4 ≤ f → f < 6 → Cleared s s' f m → node_at s' ≡ node_at s
cleared_nodes {s} {s'} f h l c =
    fun_ext (λ n. same_fields s s' n (λ g k a b. there (c.others g k (omega arith)) (n - 1)))

-- A write of a node changes that node, and neither another node nor the table's fields.
module _ (s : List ℕ) (n : ℕ) (x : Node) where
  pub put_node_length : length (put_node s n x) ≡ length s
  unfolding put_node
  put_node_length = simp put_field_length

  pub put_node_beside : (g : ℕ) → 4 ≤ g → g < 6 → field (put_node s n x) g ≡ field s g
  unfolding put_node
  put_node_beside g h l =
      put_field_beside _ 7 _ _ g (omega arith) (omega arith) (omega arith)
      ∙ put_field_beside _ 6 _ _ g (omega arith) (omega arith) (omega arith)
      ∙ put_field_beside _ 3 _ _ g (omega arith) (omega arith) (omega arith)
      ∙ put_field_beside _ 2 _ _ g (omega arith) (omega arith) (omega arith)
      ∙ put_field_beside _ 1 _ _ g (omega arith) (omega arith) (omega arith)
      ∙ put_field_beside s 0 _ _ g (omega arith) (omega arith) (omega arith)

  away : (g m : ℕ) → g < 8 → m - 1 ≢ n - 1 → field (put_node s n x) g (m - 1) ≡ field s g (m - 1)
  unfolding put_node
  away g m l d =
      put_field_other _ 7 _ _ g _ (omega arith) l d ∙ put_field_other _ 6 _ _ g _ (omega arith) l d
      ∙ put_field_other _ 3 _ _ g _ (omega arith) l d ∙ put_field_other _ 2 _ _ g _ (omega arith) l d
      ∙ put_field_other _ 1 _ _ g _ (omega arith) l d ∙ put_field_other s 0 _ _ g _ (omega arith) l d

  pub put_node_other : (m : ℕ) → 1 ≤ n → 1 ≤ m → m ≢ n → node_at (put_node s n x) m ≡ node_at s m
  put_node_other m hn hm ne = same_fields s _ m (λ g l a b. away g m l (omega arith))

  pub put_node_same : RecordWithin s n → NodeFits x → node_at (put_node s n x) n ≡ x
  unfolding node_at put_node
  put_node_same w h =
      let i : ℕ = n - 1 in
      let s₁ : List ℕ = put_field s 0 i (packed_field x) in
      let s₂ : List ℕ = put_field s₁ 1 i x.low.node in
      let s₃ : List ℕ = put_field s₂ 2 i (x.high.weight % 65536) in
      let s₄ : List ℕ = put_field s₃ 3 i x.high.node in
      let s₅ : List ℕ = put_field s₄ 6 i (x.mask % 65536) in
      let l₁ : length s₁ ≡ length s = put_field_length s _ _ _ in
      let l₂ : length s₂ ≡ length s = put_field_length s₁ _ _ _ ∙ l₁ in
      let l₃ : length s₃ ≡ length s = put_field_length s₂ _ _ _ ∙ l₂ in
      let l₄ : length s₄ ≡ length s = put_field_length s₃ _ _ _ ∙ l₃ in
      let l₅ : length s₅ ≡ length s = put_field_length s₄ _ _ _ ∙ l₄ in
      let b7 : (g : ℕ) → g < 7 → field (put_field s₅ 7 i (x.mask / 65536)) g i ≡ field s₅ g i =
      λ g l. there (put_field_beside s₅ 7 i _ g (omega arith) (omega arith) (omega arith)) i in
      let b6 : (g : ℕ) → g < 6 → field s₅ g i ≡ field s₄ g i =
      λ g l. there (put_field_beside s₄ 6 i _ g (omega arith) (omega arith) (omega arith)) i in
      let b3 : (g : ℕ) → g < 3 → field s₄ g i ≡ field s₃ g i =
      λ g l. there (put_field_beside s₃ 3 i _ g (omega arith) (omega arith) (omega arith)) i in
      let b2 : (g : ℕ) → g < 2 → field s₃ g i ≡ field s₂ g i =
      λ g l. there (put_field_beside s₂ 2 i _ g (omega arith) (omega arith) (omega arith)) i in
      let b1 : field s₂ 0 i ≡ field s₁ 0 i =
      there (put_field_beside s₁ 1 i _ 0 (omega arith) (omega arith) (omega arith)) i in
      let b : (g : ℕ) → g < 6 → field (put_field s₅ 7 i (x.mask / 65536)) g i ≡ field s₄ g i =
      λ g l. b7 g (omega arith) ∙ b6 g l in
      decode_ap
      (b 0 (omega arith) ∙ b3 0 (omega arith) ∙ b2 0 (omega arith) ∙ b1 ∙ put_field_same s 0 i _ (omega arith))
      (b 1 (omega arith) ∙ b3 1 (omega arith) ∙ b2 1 (omega arith) ∙ put_field_same s₁ 1 i _ (omega arith))
      (b 2 (omega arith) ∙ b3 2 (omega arith) ∙ put_field_same s₂ 2 i _ (omega arith))
      (b 3 (omega arith) ∙ put_field_same s₃ 3 i _ (omega arith))
      (b7 6 (omega arith) ∙ put_field_same s₄ 6 i _ (omega arith))
      (put_field_same s₅ 7 i _ (omega arith))
      ∙ decode_packed x h

pub listed_none : (f : ℕ → Node) → listed f 0 ≡ []
unfolding listed
listed_none f = refl

pub listed_more : (f : ℕ → Node) (m : ℕ) → listed f (suc m) ≡ listed f m ++ (f (suc m) ∷ [])
unfolding listed
listed_more f m = refl

pub listed_ext : (f g : ℕ → Node) (m : ℕ) → ((n : ℕ) → 1 ≤ n → n ≤ m → g n ≡ f n) → listed g m ≡ listed f m
unfolding listed
listed_ext f g zero e = refl
listed_ext f g (suc m) e =
    ap₂ (λ (l : List Node) (x : Node). l ++ (x ∷ [])) (listed_ext f g m (λ n p q. e n p (omega arith)))
    (e (suc m) (omega arith) (omega arith))

pub listed_length : (f : ℕ → Node) (m : ℕ) → length (listed f m) ≡ m
unfolding listed
listed_length f zero = refl
listed_length f (suc m) = length-append (listed f m) _ ∙ rw (listed_length f m) (add-one m)

-- node n of the list is f n
pub listed_at : (f : ℕ → Node) (m i : ℕ) (d : Node) → i < m → get_or (listed f m) i d ≡ f (suc i)
unfolding listed
listed_at f zero i d h = absurd (omega arith)
listed_at f (suc m) i d h =
    elim (ℕ_discrete i m) [
      | yes e ↦ rw e (ap (λ (j : ℕ). get_or (listed f m ++ (f (suc m) ∷ [])) j d) (sym (listed_length f m))
          ∙ get_or-append_seam (listed f m) _ [] d)
      | no n ↦ get_or-append (listed f m) _ d i (rw (listed_length f m) (omega arith))
          ∙ listed_at f m i d (omega arith)
    ]

further : (f : ℕ → Node) (m j : ℕ) → PrefixOf (listed f m) (listed f (m + j))
further f m zero = let e : m + 0 ≡ m = omega arith in rw e (prefix_refl _)
further f m (suc j) =
    let e : m + suc j ≡ suc (m + j) = omega arith in
    rw e (prefix_trans (further f m j) (record { more = f (suc (m + j)) ∷ []; is = listed_more f (m + j) }))

pub listed_prefix : (f : ℕ → Node) (m n : ℕ) → m ≤ n → PrefixOf (listed f m) (listed f n)
listed_prefix f m n p =
    let e : m + (n - m) ≡ n = omega arith in subst (λ k. PrefixOf (listed f m) (listed f k)) e (further f m (n - m))
