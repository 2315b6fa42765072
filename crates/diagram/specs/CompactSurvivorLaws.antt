-- Laws of the survivors of a collection: moved down and renumbered, they keep their tensors and are canonical again.
use Rattle.std.specs.Prelude.{◌≡◌, refl, ◌≢◌, [], ◌∷◌, length}
use Rattle.std.proofs.Math.Path.{ap, ap₂}
use Rattle.std.proofs.Common.{sym, ◌∙◌, arith, length-append}
use Prim.Native.Nat.{ℕ, zero, suc, ◌-◌, ◌≤◌, ◌<◌}
use Rattle.std.proofs.Math.Decide.{ℕ_discrete}
use Rattle.field.specs.Weight.{to_weight}
use Rattle.diagram.specs.Tensor.{scale, joined}
use Rattle.diagram.specs.Tally.{Set}
use Rattle.diagram.specs.NodeLaws.{listed_at, listed_length}
use Rattle.diagram.specs.Node.{listed}
use Rattle.diagram.specs.Meaning.{tensor_at, edge_in, node_tensor, tensors, node_in, no_node, Valid}
use Rattle.diagram.specs.MeaningLaws.{at_zero, at_kept, at_new, tensors_more, tensors_length}
use Rattle.diagram.specs.Canonical.{NormalNode, Canonical}
use Rattle.diagram.specs.CanonicalLaws.{canonical_none, canonical_more}
use Rattle.diagram.specs.Compact.{new_number, renumber_node, survivors, MarksClosed, Survives, HasOldNumber}
use Rattle.diagram.specs.Compact.{SurvivorsKept}
use Rattle.diagram.specs.Compact.{renumber_edge}
use Rattle.diagram.specs.CompactLaws.{new_number_none, new_number_dead, new_number_live, survivors_none}
use Rattle.diagram.specs.CompactLaws.{survivors_dead, survivors_live}
use Rattle.diagram.specs.declared.node.Node.{Node}
use Rattle.diagram.specs.declared.node.Edge.{Edge}

pub new_number_mono : (a : ℕ → ℕ) (n m : ℕ) → n ≤ m → new_number a n ≤ new_number a m
new_number_mono a n zero p = let e : n ≡ 0 = omega arith in rw e (omega arith)
new_number_mono a n (suc m) p = go (ℕ_discrete n (suc m)) (ℕ_discrete (a (suc m)) 0) (new_number_mono a n m)
  where
    go : Dec (n ≡ suc m) → Dec (a (suc m) ≡ 0) → (n ≤ m → new_number a n ≤ new_number a m)
        → new_number a n ≤ new_number a (suc m)
    go (yes e) d ih = rw e (omega arith)
    go (no e) (yes d) ih = rw (new_number_dead a m d) (ih (omega arith))
    go (no e) (no d) ih = rw (new_number_live a m d) (omega (arith, ih (omega arith)))

new_number_onto : (a : ℕ → ℕ) (m k : ℕ) → k ≤ new_number a m → HasOldNumber a m k
new_number_onto a zero k p =
    record {
      number = 0;
      below = omega arith;
      stays = λ n. absurd (n refl);
      is = let e = new_number_none a in omega (arith, p);
    }
new_number_onto a (suc m) k p =
    go (ℕ_discrete (a (suc m)) 0) (ℕ_discrete k (suc (new_number a m))) (new_number_onto a m k)
  where
    more : HasOldNumber a m k → HasOldNumber a (suc m) k
    more r = record { number = r.number; below = omega (arith, r.below); stays = r.stays; is = r.is }

    go : Dec (a (suc m) ≡ 0) → Dec (k ≡ suc (new_number a m)) → (k ≤ new_number a m → HasOldNumber a m k)
        → HasOldNumber a (suc m) k
    go (yes d) e ih = more (ih (rw (new_number_dead a m d) at p))
    go (no d) (yes e) ih =
        record { number = suc m; below = omega arith; stays = λ _. d; is = new_number_live a m d ∙ sym e }
    go (no d) (no e) ih = let q : k ≤ suc (new_number a m) = rw (new_number_live a m d) at p in more (ih (omega arith))

module _ (d : ℕ) (f : ℕ → Node) (count : ℕ) (a : ℕ → ℕ) (canonical : Canonical d (listed f count))
    (closed : MarksClosed a f count) where
  abbrev ts : Set d
  ts = tensors d (listed f count)

  survived_none : SurvivorsKept d f count a (survivors a f 0) 0
  survived_none =
      rw (survivors_none a f) record {
        long = sym (new_number_none a);
        kept = λ n p s. let z : n ≡ 0 = omega arith in rw (z, new_number_none a) (at_zero _ ∙ sym (at_zero ts));
        nodes = canonical_none d;
      }

  survived_dead : (m : ℕ) → a (suc m) ≡ 0 → SurvivorsKept d f count a (survivors a f m) m → SurvivorsKept d f count a
      (survivors a f (suc m)) (suc m)
  survived_dead m z s =
      rw (survivors_dead a f m z) record {
        long = s.long ∙ sym (new_number_dead a m z);
        kept = λ n p live. elim (ℕ_discrete n (suc m)) [
          | yes e ↦ absurd (live (λ q. omega arith) (ap a e ∙ z))
          | no o ↦ s.kept n (omega arith) live
        ];
        nodes = s.nodes;
      }

  pub node_there : (n : ℕ) → 1 ≤ n → n ≤ count → node_in d (listed f count) n ≡ f n
  unfolding node_in
  node_there zero p q = absurd (omega arith)
  node_there (suc n) p q = listed_at f count n (no_node d) q

  module _ (m : ℕ) (l : m < count) (live : a (suc m) ≢ 0) (s : SurvivorsKept d f count a (survivors a f m) m) where
    abbrev us : Set d
    us = tensors d (survivors a f m)

    abbrev x : Node
    x = f (suc m)

    abbrev x' : Node
    x' = renumber_node (new_number a) x

    in_form : NormalNode ts m x
    in_form =
        let e : suc m - 1 ≡ m = omega arith in
        rw (e, node_there (suc m) (omega arith) (omega arith)) at
        (canonical.each (suc m) (omega arith) (rw (listed_length f count) (omega arith)))

    meaning : tensor_at ts (suc m) ≡ node_tensor ts x
    meaning = rw (node_there (suc m) (omega arith) (omega arith)) at
        (canonical.meaning (suc m) (omega arith) (rw (listed_length f count) (omega arith)))

    edge_moved : (e : Edge) → Valid m e → Survives a e.node → edge_in us (renumber_edge a e) ≡ edge_in ts e
    unfolding edge_in
    edge_moved e v h = ap (scale (to_weight e.weight)) (s.kept e.node v.within h)

    low_moved : edge_in us x'.low ≡ edge_in ts x.low
    low_moved = edge_moved x.low in_form.low (λ n. (closed.low (suc m) (omega arith) (omega arith) live n).1)

    high_moved : edge_in us x'.high ≡ edge_in ts x.high
    high_moved = edge_moved x.high in_form.high (λ n. (closed.high (suc m) (omega arith) (omega arith) live n).1)

    tensor_moved : node_tensor us x' ≡ node_tensor ts x
    unfolding node_tensor
    tensor_moved = ap₂ (joined x.index) low_moved high_moved

    valid_moved : (e : Edge) → Valid m e → Valid (length (survivors a f m)) (renumber_edge a e)
    valid_moved e v = record {
      small = v.small;
      within = rw s.long (new_number_mono a e.node m v.within);
      zero = λ z. (let n : e.node ≡ 0 = v.zero z in rw n (new_number_none a));
    }

    moved_in_form : NormalNode us (length (survivors a f m)) x'
    moved_in_form = record {
      index = in_form.index;
      low = valid_moved x.low in_form.low;
      high = valid_moved x.high in_form.high;
      from_low = rw low_moved in_form.from_low;
      from_high = rw high_moved in_form.from_high;
      differ = rw (low_moved, high_moved) in_form.differ;
      one = rw tensor_moved in_form.one;
      mask = rw tensor_moved in_form.mask;
    }

    new : (n : ℕ) → n ≤ length (survivors a f m) → tensor_at us n ≢ node_tensor us x'
    new n p e =
        let r = new_number_onto a m n (rw s.long at p) in
        let there : tensor_at us n ≡ tensor_at ts r.number = rw r.is at (s.kept r.number r.below r.stays)
        in
        let same : r.number ≡ suc m =
        canonical.unique r.number (suc m) (rw (listed_length f count) (omega (arith, r.below)))
        (rw (listed_length f count) (omega arith))
        (sym there ∙ e ∙ tensor_moved ∙ sym meaning) in
        omega (arith, r.below)

    survived_live : SurvivorsKept d f count a (survivors a f (suc m)) (suc m)
    survived_live =
        let last : length us ≡ new_number a m = tensors_length d (survivors a f m) ∙ s.long in
        rw (survivors_live a f m live) record {
          long = length-append (survivors a f m) (x' ∷ []) ∙ rw (new_number_live a m live) (omega (arith, s.long));
          kept = λ n p h. rw (tensors_more d (survivors a f m) x') (elim (ℕ_discrete n (suc m)) [
            | yes e ↦ rw (e, new_number_live a m live)
                (at_new us (node_tensor us x') (suc (new_number a m)) (ap suc last)
                ∙ tensor_moved ∙ sym meaning)
            | no o ↦ at_kept (new_number a n) (rw last (new_number_mono a n m (omega arith)))
                (record { more = node_tensor us x' ∷ []; is = refl }) ∙ s.kept n (omega arith) h
          ]);
          nodes = canonical_more d (survivors a f m) x' s.nodes moved_in_form new;
        }

  pub survived : (m : ℕ) → m ≤ count → SurvivorsKept d f count a (survivors a f m) m
  survived zero p = survived_none
  survived (suc m) p = go (ℕ_discrete (a (suc m)) 0) (survived m (omega arith))
    where
      go : Dec (a (suc m) ≡ 0) → SurvivorsKept d f count a (survivors a f m) m → SurvivorsKept d f count a
          (survivors a f (suc m)) (suc m)
      go (yes z) s = survived_dead m z s
      go (no live) s = survived_live m p live s

  -- a marked node's tensor, from its children's new numbers
  pub survivor : (m : ℕ) → m < count → a (suc m) ≢ 0
      → node_tensor (tensors d (survivors a f m)) (renumber_node (new_number a) (f (suc m))) ≡ tensor_at ts (suc m)
  survivor m l live = let s = survived m (omega arith) in tensor_moved m l live s ∙ sym (meaning m l live s)
