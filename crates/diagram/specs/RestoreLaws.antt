-- Laws of starting and of coming back: the store is sound and nothing is remembered.
use Rattle.std.specs.Prelude.{◌≡◌, refl, List, ℕ, ◌*◌, ◌≤◌, ◌<◌, length, Err}
use Rattle.std.proofs.Math.Path.{ap}
use Rattle.std.proofs.Common.{arith}
use Rattle.diagram.specs.Tally.{Step}
use Rattle.diagram.specs.Node.{node_at, listed}
use Rattle.diagram.specs.NodeLaws.{listed_none}
use Rattle.diagram.specs.Insert as insert
use Rattle.diagram.specs.Make.{StateSound}
use Rattle.diagram.specs.MakeLaws.{state_sound_of}
use Rattle.diagram.specs.CanonicalLaws.{canonical_none}
use Rattle.diagram.specs.Store.{nodes_of, Sound}
use Rattle.diagram.specs.Cache.{NoneLater, AllZero, AllEarlier}
use Rattle.diagram.specs.CacheLaws.{all_zero_earlier}
use Rattle.diagram.specs.Operation.{RefinesCached}
use Rattle.diagram.specs.Tensor.{indices}
use Rattle.diagram.specs.Restore.{built, RebuiltOrNoRoom, no_room, RollbackEnsures, StartEnsures}
use Rattle.diagram.specs.Restore.{RollbackRequires}
use Rattle.diagram.specs.declared.make.State.{State}
use Rattle.diagram.specs.declared.diagram.Full.{Full}

-- the old nodes are where they were
pub rollback_of : {c s s' : List ℕ} {st : State} → Sound s st → length s' ≡ length s → nodes_of s' st ≡ nodes_of s st
    → NoneLater c st.epoch → RollbackRequires c s' st
rollback_of h long kept past = record {
  room = omega (arith, h.stored.room);
  numbered = h.stored.numbered;
  ready = λ p. let t = h.stored.table (omega arith) in record
      { some = t.some; place = omega (arith, t.place); numbered = t.numbered };
  nodes = rw kept h.nodes;
  past = past;
}

pub full_rollback : {c' s s' : List ℕ} {st t : State} {f : Step indices} {x : Full} → Sound s st
    → RefinesCached c' s s' st t f (Err x) → RollbackRequires c' s' st
full_rollback h w = rollback_of h w.step.long w.step.kept w.cache

pub rollback_table : {c s : List ℕ} {st : State} → RollbackRequires c s st → 16 ≤ length s
    → insert.TableFits s st.count st.buckets
rollback_table l p = l.ready p

module _ {s s' : List ℕ} (st : State) (a : RebuiltOrNoRoom s s' st.count st.buckets) where
  rebuilt_long : length s' ≡ length s
  rebuilt_long = elim a [ built r ↦ r.long | no_room h e ↦ ap length e ]

  rebuilt_stored : 16 * st.count ≤ length s → st.count < 65536 → StateSound s' st
  rebuilt_stored p q = elim a [
    | built r ↦ state_sound_of r.indexed
    | no_room h e ↦ record { room = rw e p; numbered = q; table = λ l. absurd (omega (arith, ap length e)) }
  ]

  rebuilt_nodes : nodes_of s' st ≡ nodes_of s st
  unfolding nodes_of
  rebuilt_nodes = elim a [
    | built r ↦ ap (λ f. listed f st.count) r.kept
    | no_room h e ↦ ap (λ z. listed (node_at z) st.count) e
  ]

pub start_ensures : {c s s' : List ℕ} → AllZero c → RebuiltOrNoRoom s s' 0 1
    → StartEnsures c s s' (record { count = 0; buckets = 1; epoch = 1 })
unfolding nodes_of
start_ensures {s' = s'} b a =
    let st : State = record { count = 0; buckets = 1; epoch = 1 } in
    record {
      long = rebuilt_long st a;
      sound = record {
        stored = rebuilt_stored st a (omega arith) (omega arith);
        nodes = rw (listed_none (node_at s')) (canonical_none indices);
      };
      forgotten = all_zero_earlier b;
      none = listed_none (node_at s');
    }

pub rollback_ensures : {c c' s s' : List ℕ} {st : State} {epoch : ℕ} → RollbackRequires c s st → AllEarlier c' epoch
    → RebuiltOrNoRoom s s' st.count st.buckets
    → RollbackEnsures c' s s' st (record { count = st.count; buckets = st.buckets; epoch = epoch })
rollback_ensures {st = st} {epoch = epoch} l b a =
    let st' : State = record { count = st.count; buckets = st.buckets; epoch = epoch } in
    record {
      long = rebuilt_long st' a;
      count = refl;
      sound = record {
        stored = rebuilt_stored st' a l.room l.numbered;
        nodes = rw (rebuilt_nodes st' a) (unfold nodes_of in l.nodes);
      };
      forgotten = b;
      kept = unfold nodes_of in rebuilt_nodes st' a;
    }
