-- Laws of the unique table: the last node of a bucket, buckets in range, the walk along a chain.
use Rattle.std.specs.Prelude.{◌≡◌, refl, Bool, true, false, cond, ◌≢◌, List, ℕ}
use Rattle.std.specs.Prelude.{zero, suc, ◌≤◌, ◌<◌, ◌-◌, eqb, Some, None, unwrap_or}
use Rattle.std.proofs.Math.Path.{ap}
use Rattle.std.proofs.Common.{ap₂, sym, subst, ◌∙◌, eqb-true, eq-eqb, ne_eqb}
use native.Mathlib.Omega.{arith}
use Rattle.std.proofs.Math.Decide.{dec_le}
use Rattle.std.proofs.lemmas.Bool.{eqb-false}
use Rattle.std.specs.Int.Bits.{bit_and}
use Rattle.std.proofs.lemmas.Nat.{and_le_r}
use Rattle.std.proofs.lemmas.Option.{none-some}
use Rattle.std.proofs.lemmas.Bool.{false≢true}
use Rattle.diagram.specs.Node.{same_node}
use Rattle.diagram.specs.Table.{IsLast, last, hash_of, FindLoop, TableSound, FoundAt, FindEnsures, mix, hash}
use Rattle.diagram.specs.Node.{node_at, head_at, next_at}
use Rattle.diagram.specs.NodeLaws.{node_told}
use Rattle.diagram.specs.declared.node.Node.{Node}

pub last_none : (h : ℕ → ℕ) (b : ℕ) → last h b 0 ≡ 0
unfolding last
last_none h b = refl

pub last_new : (h : ℕ → ℕ) (b m : ℕ) → h (suc m) ≡ b → last h b (suc m) ≡ suc m
unfolding last
last_new h b m e = rw (eq-eqb (h (suc m)) b e) refl

pub last_old : (h : ℕ → ℕ) (b m : ℕ) → h (suc m) ≢ b → last h b (suc m) ≡ last h b m
unfolding last
last_old h b m e = rw (ne_eqb (h (suc m)) b e) refl

pub last_is : (h : ℕ → ℕ) (b m : ℕ) → IsLast h b m (last h b m)
last_is h b zero = rw (last_none h b) record {
  within = omega arith;
  hit = λ p. absurd (omega arith);
  gap = λ n p q. absurd (omega arith);
}
last_is h b (suc m) = go (eqb (h (suc m)) b) refl (last_is h b m)
  where
    go : (t : Bool) → eqb (h (suc m)) b ≡ t → IsLast h b m (last h b m) → IsLast h b (suc m) (last h b (suc m))
    go true e r =
        let new : h (suc m) ≡ b = eqb-true _ _ e in
        rw (last_new h b m new) record { within = omega arith; hit = λ _. new; gap = λ n p q. absurd (omega arith) }
    go false e r =
        rw (last_old h b m (eqb-false _ _ e)) record {
          within = omega (arith, r.within);
          hit = r.hit;
          gap = λ n p q k. elim (dec_le n m) [
            | yes l ↦ r.gap n p l k
            | no g ↦ let same : n ≡ suc m = omega arith in eqb-false _ _ e (ap h (sym same) ∙ k)
          ];
        }

-- only the buckets of 1 .. m count
pub last_ext : (h h' : ℕ → ℕ) (b m : ℕ) → ((n : ℕ) → 1 ≤ n → n ≤ m → h n ≡ h' n) → last h b m ≡ last h' b m
unfolding last
last_ext h h' b zero e = refl
last_ext h h' b (suc m) e =
    ap₂ (λ (x y : ℕ). cond (eqb x b) (suc m) y) (e (suc m) (omega arith) (omega arith))
    (last_ext h h' b m (λ n p q. e n p (omega arith)))

pub masked_lt : (m k : ℕ) → 1 ≤ k → bit_and m (k - 1) < k
masked_lt m k h = omega (arith, and_le_r m (k - 1))

pub hash_lt : (k : ℕ) (x : Node) → 1 ≤ k → hash k x < k
unfolding hash
hash_lt k x h = masked_lt (mix x) k h

module _ {s : List ℕ} {count k : ℕ} {x : Node} (t : TableSound s count k) where
  pub walk_start : {b r : ℕ} → b ≡ hash k x → r ≡ head_at s b → FindLoop s count k x r
  unfolding hash_of
  walk_start p q =
      let l = last_is (hash_of k (node_at s)) (hash k x) count in
      rw (q, p, t.heads (hash k x) (hash_lt k x t.some))
      record { within = l.within; chain = l.hit; above = λ n u v e. l.gap n u v (ap (hash k) e) }

  module _ {r : ℕ} (some : r ≢ 0) (w : FindLoop s count k x r) where
    -- the node y at r is compared with x
    module _ {y : Node} (here : y ≡ node_at s r) (b : Bool) (told : b ≡ same_node y x) where
      pub walk_found : b ≡ true → FindEnsures (node_at s) count x (Some r)
      walk_found e = record {
        found = λ n q. subst (FoundAt (node_at s) count x) (ap (λ o. unwrap_or o 0) q)
            (record { first = omega arith; within = w.within; there = sym here ∙ (node_told y x).0 (sym told ∙ e) });
        absent = λ z. absurd (none-some _ (sym z));
      }

      pub walk_on : {r' : ℕ} → b ≡ false → r' ≡ next_at s r → FindLoop s count k x r'
      unfolding hash_of
      walk_on e q =
          let l = last_is (hash_of k (node_at s)) (hash k x) (r - 1) in
          rw (q, t.nexts r (omega arith) w.within, w.chain (omega arith))
          record {
            within = omega (arith, l.within, w.within);
            chain = l.hit;
            above = λ n p q i. elim (dec_le n (r - 1)) [
              | yes below ↦ l.gap n p below (ap (hash k) i)
              | no here' ↦ elim (dec_le n r) [
                | yes at ↦ (let same : n ≡ r = omega arith in false≢true
                    (sym e ∙ told ∙ (node_told y x).1 (here ∙ ap (node_at s) (sym same) ∙ i)))
                | no over ↦ w.above n (omega arith) q i
              ]
            ];
          }

    pub walk_less : {r' : ℕ} → r' ≡ next_at s r → r' < r
    unfolding hash_of
    walk_less q =
        rw (q, t.nexts r (omega arith) w.within) (omega (
          arith,
          (last_is (hash_of k (node_at s))
              (hash_of k (node_at s) r) (r - 1)).within,
        ))

pub walk_end : {s : List ℕ} {count k : ℕ} {x : Node} {r : ℕ} → r ≡ 0 → FindLoop s count k x r
    → FindEnsures (node_at s) count x None
walk_end z w = record {
  found = λ n q. absurd (none-some n q);
  absent = λ _. record { not = λ n p q. w.above n (omega arith) q };
}
