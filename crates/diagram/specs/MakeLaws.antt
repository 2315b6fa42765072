-- Laws of making a node: found, added, or no room.
use Rattle.std.specs.Prelude.{◌≡◌, refl, ◌≢◌, List, ℕ, ◌+◌, ◌≤◌, Option, Some, None}
use Rattle.std.proofs.Common.{◌∙◌, arith}
use Rattle.diagram.specs.Node.{capacity, node_at}
use Rattle.diagram.specs.Table.{TableSound, FindEnsures}
use Rattle.diagram.specs.Insert.{AppendEnsures, RebuildEnsures}
use Rattle.diagram.specs.Make.{old, MakeFull, MakeAt, new, StateSound}
use Rattle.diagram.specs.declared.node.Node.{Node}
use Rattle.diagram.specs.declared.make.State.{State}

pub state_sound_table : {s : List ℕ} {st : State} {room : ℕ} → StateSound s st → room ≡ capacity s → room ≢ 0
    → TableSound s st.count st.buckets
state_sound_table t e p = t.table (omega arith)

pub state_sound_of : {s : List ℕ} {st : State} → TableSound s st.count st.buckets → StateSound s st
state_sound_of t = record { room = t.room; numbered = t.numbered; table = λ _. t }

-- the three answers, as the code comes to them

module _ {s : List ℕ} {st : State} {x : Node} where
  -- a store without a record has no node
  pub make_none : {room : ℕ} → StateSound s st → room ≡ capacity s → room ≡ 0 → MakeFull s s st x
  make_none t e z =
      record { same = refl; absent = record { not = λ n p q. absurd (omega (arith, t.room)) }; full = omega arith }

  pub make_old : {r : Option ℕ} {n : ℕ} → StateSound s st → FindEnsures (node_at s) st.count x r → r ≡ Some n
      → MakeAt s s st st x n
  make_old {n = n} t f q =
      let h = f.found n q in
      record {
        long = refl;
        stored = t;
        epoch = refl;
        first = h.first;
        within = h.within;
        here = h.there;
        entered = old refl refl;
      }

  pub make_no_room : {r : Option ℕ} {room : ℕ} → FindEnsures (node_at s) st.count x r → r ≡ None → room ≡ capacity s
      → room ≤ st.count → MakeFull s s st x
  make_no_room f z e p = record { same = refl; absent = f.absent z; full = omega arith }

  pub make_new : {r : Option ℕ} {k : ℕ} {s₁ s' : List ℕ} → FindEnsures (node_at s) st.count x r → r ≡ None
      → AppendEnsures s s₁ st.count st.buckets x
      → RebuildEnsures s₁ s' (st.count + 1) k
      → MakeAt s s' st (record { count = st.count + 1; buckets = k; epoch = st.epoch }) x (st.count + 1)
  make_new f z a r =
      record {
        long = r.long ∙ a.long;
        stored = state_sound_of r.indexed;
        epoch = refl;
        first = omega arith;
        within = omega arith;
        here = rw r.kept a.here;
        entered = new refl refl (f.absent z) (rw r.kept a.added);
      }
