-- Laws of linking, appending, clearing and rebuilding: what they do to nodes and table.
use Rattle.std.specs.Prelude.{◌≡◌, refl, ◌≢◌, List, [], ◌∷◌, ◌++◌, ℕ, suc, ◌+◌, ◌*◌, ◌≤◌, ◌<◌, ◌-◌, length}
use Rattle.std.proofs.Common.{ap, sym, ◌∙◌, add-one, arith}
use Rattle.std.proofs.Math.Decide.{ℕ_discrete}
use Rattle.diagram.specs.TableLaws.{last_ext, last_none, last_new, last_old, hash_lt}
use Rattle.diagram.specs.Fields.{field, put_field, Cleared}
use Rattle.diagram.specs.FieldsLaws.{put_field_length, put_field_same, put_field_other, put_field_beside}
use Rattle.diagram.specs.Node.{NodeFits, RecordWithin, node_at, head_at, next_at, put_node}
use Rattle.diagram.specs.NodeLaws.{there, put_node_lem, put_node_length, put_node_beside, put_node_other, put_node_same}
use Rattle.diagram.specs.NodeLaws.{cleared_nodes, listed_more, listed_ext}
use Rattle.diagram.specs.Table.{hash, hash_of, TableSound, last}
use Rattle.diagram.specs.Insert.{RebuildLoop, ClearEnsures, link_node, TableFits, RebuildEnsures, AppendEnsures}
use Rattle.diagram.specs.declared.node.Node.{Node}

pub link_by : (k n : ℕ) (s : List ℕ) {x : Node} {b h : ℕ} {s₁ s₂ : List ℕ}
    → x ≡ node_at s n → b ≡ hash k x → h ≡ head_at s b → s₁ ≡ put_field s 5 (n - 1) h → s₂ ≡ put_field s₁ 4 b n
    → s₂ ≡ link_node k n s
unfolding link_node hash_of
link_by k n s p q r t u = cc

pub link_length : (k n : ℕ) (s : List ℕ) → length (link_node k n s) ≡ length s
unfolding link_node
link_length k n s = put_field_length _ _ _ _ ∙ put_field_length _ _ _ _

pub link_node_at : (k n : ℕ) (s : List ℕ) → node_at (link_node k n s) ≡ node_at s
unfolding link_node
link_node_at k n s = put_node_lem _ 4 _ _ (omega arith) (omega arith) ∙ put_node_lem _ 5 _ _ (omega arith) (omega arith)

module _ (k m : ℕ) (s : List ℕ) (t : TableSound s m k) (w : RecordWithin s (suc m)) where
  abbrev front : ℕ
  front = hash_of k (node_at s) (suc m)

  front_lt : front < k
  unfolding hash_of
  front_lt = hash_lt k _ t.some

  head_new : head_at (link_node k (suc m) s) front ≡ suc m
  unfolding link_node
  head_new = put_field_same _ 4 _ _
      (omega (arith, front_lt, t.place, put_field_length s 5 (suc m - 1) (head_at s front)))

  head_old : (b : ℕ) → b ≢ front → head_at (link_node k (suc m) s) b ≡ head_at s b
  unfolding link_node
  head_old b d = put_field_other _ 4 _ _ 4 b (omega arith) (omega arith) d
      ∙ there (put_field_beside s 5 _ _ 4 (omega arith) (omega arith) (omega arith)) b

  next_new : next_at (link_node k (suc m) s) (suc m) ≡ head_at s front
  unfolding link_node
  next_new = there (put_field_beside _ 4 _ _ 5 (omega arith) (omega arith) (omega arith)) (suc m - 1)
      ∙ put_field_same s 5 _ _ (omega (arith, w.last))

  next_old : (n : ℕ) → 1 ≤ n → n ≤ m → next_at (link_node k (suc m) s) n ≡ next_at s n
  unfolding link_node
  next_old n p q =
      there (put_field_beside _ 4 _ _ 5 (omega arith) (omega arith) (omega arith)) (n - 1)
      ∙ put_field_other s 5 _ _ 5 _ (omega arith) (omega arith) (omega arith)

  pub link_table : suc m < 65536 → TableSound (link_node k (suc m) s) (suc m) k
  link_table fits =
      record {
        room = rw (link_length k (suc m) s) w.last;
        numbered = fits;
        some = t.some;
        place = rw (link_length k (suc m) s) t.place;
        heads = λ b h. rw (link_node_at k (suc m) s) (heads b h (ℕ_discrete b front));
        nexts = λ n p q. rw (link_node_at k (suc m) s) (nexts n p q (ℕ_discrete n (suc m)));
      }
    where
      heads : (b : ℕ) → b < k → Dec (b ≡ front)
          → head_at (link_node k (suc m) s) b ≡ last (hash_of k (node_at s)) b (suc m)
      heads b h (yes e) = ap (head_at _) e ∙ head_new ∙ sym (last_new (hash_of k (node_at s)) b m (sym e))
      heads b h (no d) = head_old b d ∙ t.heads b h ∙ sym (last_old (hash_of k (node_at s)) b m (λ e. d (sym e)))

      nexts : (n : ℕ) → 1 ≤ n → n ≤ suc m → Dec (n ≡ suc m)
          → next_at (link_node k (suc m) s) n ≡ last (hash_of k (node_at s)) (hash_of k (node_at s) n) (n - 1)
      nexts n p q (yes e) =
          let back : m ≡ suc m - 1 = omega arith in
          rw e (next_new ∙ t.heads front front_lt ∙ ap (last (hash_of k (node_at s)) front) back)
      nexts n p q (no d) = next_old n p (omega arith) ∙ t.nexts n p (omega arith)

-- Only the heads, and of 1 .. count the nodes and their nexts, matter.
table_ext : (s s' : List ℕ) (m k : ℕ) → length s' ≡ length s → field s' 4 ≡ field s 4 → field s' 5 ≡ field s 5
    → ((n : ℕ) → 1 ≤ n → n ≤ m → node_at s' n ≡ node_at s n) → TableSound s m k → TableSound s' m k
unfolding hash_of
table_ext s s' m k len heads nexts same t =
    record {
      room = rw len t.room;
      numbered = t.numbered;
      some = t.some;
      place = rw len t.place;
      heads = λ b h. rw heads (t.heads b h ∙ last_ext _ _ b m (λ n p q. ap (hash k) (sym (same n p q))));
      nexts = λ n p q. rw (nexts, same n p q) (t.nexts n p q
          ∙ last_ext _ _ _ (n - 1) (λ j u v. ap (hash k) (sym (same j u (omega arith)))));
    }

module _ {k m : ℕ} {s s₁ s₂ : List ℕ} {x : Node} (t : TableSound s m k) (u : RecordWithin s (m + 1))
    (fits : m + 1 < 65536) (h : NodeFits x)
    (written : s₁ ≡ put_node s (m + 1) x) (chained : s₂ ≡ link_node k (m + 1) s₁) where
  w : RecordWithin s (suc m)
  w = rw (add-one m) at u

  abbrev put_in : List ℕ
  put_in = put_node s (suc m) x

  long : length put_in ≡ length s
  long = put_node_length s (suc m) x

  old : (n : ℕ) → 1 ≤ n → n ≤ m → node_at put_in n ≡ node_at s n
  old n p q = put_node_other s (suc m) x n (omega arith) p (omega arith)

  table : TableSound put_in m k
  table =
      table_ext s put_in m k long
      (put_node_beside s (suc m) x 4 (omega arith) (omega arith))
      (put_node_beside s (suc m) x 5 (omega arith) (omega arith)) old t

  pub append_ensures : AppendEnsures s s₂ m k x
  append_ensures = rw (chained, written, add-one m)
      record {
        long = link_length k (suc m) put_in ∙ long;
        indexed = rw (add-one m) (link_table k m put_in table (record { first = omega arith; last = rw long w.last })
            (omega arith));
        added = rw (add-one m) (listed_more _ m
            ∙ rw (link_node_at k (suc m) put_in, put_node_same s (suc m) x w h)
            (ap (λ (l : List Node). l ++ (x ∷ [])) (listed_ext (node_at s) _ m old)));
        here = rw (add-one m, link_node_at k (suc m) put_in) (put_node_same s (suc m) x w h);
      }

pub cleared_heads : {s s' : List ℕ} {k : ℕ} → Cleared s s' 4 k → ClearEnsures s s' k
cleared_heads c = record { long = c.long; kept = cleared_nodes 4 (omega arith) (omega arith) c; none = c.none }

pub rebuild_same : {s : List ℕ} {m k : ℕ} → TableSound s m k → RebuildEnsures s s m k
rebuild_same t = record { long = refl; indexed = t; kept = refl }

pub rebuild_start : {s s' : List ℕ} {n k : ℕ} → 16 * n ≤ length s → TableFits s n k → ClearEnsures s s' k
    → RebuildLoop s' s' 0 n k
rebuild_start h r c =
    record {
      rebuilt = rebuild_same record {
        room = omega arith;
        numbered = omega arith;
        some = r.some;
        place = omega (arith, c.long, r.place);
        heads = λ b p. c.none b p ∙ sym (last_none _ b);
        nexts = λ n p q. absurd (omega arith);
      };
      within = omega arith;
      room = omega (arith, c.long);
      numbered = r.numbered;
    }

pub rebuild_on : {s s' s₁ : List ℕ} {m n k : ℕ} → m < n → RebuildLoop s s' m n k → s₁ ≡ link_node k (m + 1) s'
    → RebuildLoop s s₁ (m + 1) n k
rebuild_on {s' = s'} {m = m} {k = k} p b e =
    let r = b.rebuilt in
    rw (e, add-one m) record {
      rebuilt = record {
        long = link_length k (suc m) s' ∙ r.long;
        indexed = link_table k m s' r.indexed (record {
          first = omega arith;
          last = omega (arith, r.long, b.room);
        }) (omega (arith, b.numbered));
        kept = link_node_at k (suc m) s' ∙ r.kept;
      };
      within = omega arith;
      room = b.room;
      numbered = b.numbered;
    }

pub rebuild_end : {s s₀ s' : List ℕ} {m n k : ℕ} → ClearEnsures s s₀ k → n ≤ m → RebuildLoop s₀ s' m n k
    → RebuildEnsures s s' n k
rebuild_end {m = m} {n = n} c q b =
    let e : m ≡ n = omega (arith, b.within) in
    let r = b.rebuilt in
    rw (← e) record { long = r.long ∙ c.long; indexed = r.indexed; kept = r.kept ∙ c.kept }
