-- Laws of a collection: the nodes that the filled registers reach, moved down in order; the registers follow.
use Rattle.std.specs.Prelude.{◌≡◌, ◌≢◌, true, false, List, ℕ, ◌-◌, ◌≤◌, length}
use Rattle.std.proofs.Common.{ap, sym, subst, ◌∙◌, arith}
use Rattle.std.proofs.Math.Decide.{ℕ_discrete}
use Rattle.diagram.specs.Tensor.{Tensor, indices}
use Rattle.diagram.specs.Tally.{Set, member, keeps, collect, filled_tensors}
use Rattle.diagram.specs.Node.{node_at, listed}
use Rattle.diagram.specs.Meaning.{tensor_at, tensors}
use Rattle.diagram.specs.Canonical.{Canonical}
use Rattle.diagram.specs.Store.{nodes_of, set_of, Sound}
use Rattle.diagram.specs.StoreLaws.{nodes_length, node_form}
use Rattle.diagram.specs.Restore.{RollbackRequires, RollbackEnsures}
use Rattle.diagram.specs.Compact.{new_number, survivors, CompactEnsures, forward, renumber_registers}
use Rattle.diagram.specs.Compact.{SurvivorsKept}
use Rattle.diagram.specs.CompactLaws.{new_number_none, new_number_le, forward_zero, forward_node}
use Rattle.diagram.specs.Mark.{ChildrenBefore, marks_of, ReachEnsures}
use Rattle.diagram.specs.CompactSurvivorLaws.{survived, new_number_mono}
use Rattle.diagram.specs.MarkCollectLaws.{filtered_all, kept_marked, kept_closed, kept_roots, mark_kept}
use Rattle.diagram.specs.Registers.{Register, holds_all, weights_of, edges_of, RegistersValid, tensors_of}
use Rattle.diagram.specs.RegistersLaws.{filled_edges}
use Rattle.diagram.specs.CompactRenumberLaws.{renumber_ext, renumber_weights, renumber_holds, renumber_registers_lem}
use Rattle.diagram.specs.Collect.{CollectEnsures, CollectRequires, SweepEnsures}
use Rattle.diagram.specs.TestLaws.{cases}
use Rattle.diagram.specs.declared.make.State.{State}

pub sweep_ensures : {count : ℕ} {rs rs' : List Register} {s s₁ s₂ : List ℕ} {k : ℕ} → RegistersValid count rs
    → ReachEnsures count (edges_of rs) s s₁ → CompactEnsures s₁ s₂ count k → rs' ≡ renumber_registers (forward s₂) rs
    → SweepEnsures count rs s s₂ k rs'
sweep_ensures {count} {rs} {rs'} {s} {s₁} {s₂} {k} g r c e = record {
  marks = marks_of s₁;
  all = r.all;
  closed = r.closed;
  least = r.least;
  counted = c.counted;
  moved = c.moved ∙ ap (λ f. survivors (marks_of s₁) f count) r.kept;
  registers = e ∙ renumber_ext (forward s₂) (new_number (marks_of s₁)) (marks_of s₁) count rs g.valid r.all number;
}
  where
    number : (n : ℕ) → n ≤ count → (n ≢ 0 → marks_of s₁ n ≢ 0) → forward s₂ n ≡ new_number (marks_of s₁) n
    number n p h = elim (ℕ_discrete n 0) [
      | yes z ↦ rw z (forward_zero s₂ ∙ sym (new_number_none (marks_of s₁)))
      | no o ↦ forward_node s₂ n o ∙ c.numbers n (omega (arith, o)) p (h o)
    ]

-- what that means, where the nodes are canonical
module _ (d : ℕ) (count : ℕ) (rs rs' : List Register) (s s' : List ℕ) (k : ℕ)
    (canonical : Canonical d (listed (node_at s) count)) (g : RegistersValid count rs)
    (w : SweepEnsures count rs s s' k rs') where
  abbrev ts : Set d
  ts = tensors d (listed (node_at s) count)

  abbrev a : ℕ → ℕ
  a = w.marks

  after : SurvivorsKept d (node_at s) count a (survivors a (node_at s) count) count
  after = survived d (node_at s) count a canonical w.closed count (omega arith)

  pub sweep_canonical : Canonical d (listed (node_at s') k)
  sweep_canonical = rw w.moved after.nodes

  pub sweep_fewer : k ≤ count
  sweep_fewer = omega (arith, w.counted, new_number_le a count)

  abbrev kept : List (Tensor d)
  kept = keeps d (tensors_of ts (edges_of rs))

  -- marked is kept by the rule "the set keeps exactly the normal multiples of the nonconstant tensors got from filled
  -- registers"
  marked : (n : ℕ) → 1 ≤ n → n ≤ count → a n ≢ 0 → member (tensor_at ts n) kept ≡ true
  marked n p q m =
      mark_kept d (node_at s) count a canonical w.closed (edges_of rs) g.valid n
      (w.least _ (kept_roots d (node_at s) count a canonical w.closed (edges_of rs) g.valid)
      (kept_closed d (node_at s) count a canonical w.closed (edges_of rs) g.valid) n p q m)

  other : (n : ℕ) → 1 ≤ n → n ≤ count → a n ≡ 0 → member (tensor_at ts n) kept ≡ false
  other n p q z =
      cases (member (tensor_at ts n) kept)
      (λ e. absurd (kept_marked d (node_at s) count a canonical w.closed (edges_of rs) g.valid w.all n q e z))
      (λ e. e)

  pub sweep_set : tensors d (listed (node_at s') k) ≡ collect (filled_tensors (holds_all ts rs)) ts
  unfolding collect
  sweep_set =
      rw (filled_edges ts rs, w.moved)
      (sym (filtered_all d (node_at s) count a canonical w.closed kept marked other))

  survivor_at : (n : ℕ) → n ≤ count → (n ≢ 0 → a n ≢ 0)
      → tensor_at (tensors d (listed (node_at s') k)) (new_number a n) ≡ tensor_at ts n
  survivor_at n p h = rw w.moved (after.kept n p h)

  number_within : (n : ℕ) → n ≤ count → new_number a n ≤ k
  number_within n p = omega (arith, w.counted, new_number_mono a n count p)

  pub sweep_holds : holds_all (tensors d (listed (node_at s') k)) rs' ≡ holds_all ts rs
  sweep_holds =
      rw w.registers
      (renumber_holds ts (tensors d (listed (node_at s') k)) (new_number a) a count k survivor_at number_within
      (new_number_none a) rs g.valid w.all)

  pub sweep_registers : RegistersValid k rs'
  sweep_registers =
      rw w.registers
      (renumber_registers_lem ts (tensors d (listed (node_at s') k)) (new_number a) a count k survivor_at number_within
      (new_number_none a) rs g)

-- the nodes and tensors of a state, spelled out

nodes_of_lem : {c s : List ℕ} {st : State} {rs : List Register} → CollectRequires c s st rs
    → Canonical indices (listed (node_at s) st.count)
unfolding nodes_of
nodes_of_lem g = g.sound.nodes

-- node n's children stand before it
pub sound_children : {s : List ℕ} {st : State} → Sound s st → ChildrenBefore (node_at s) st.count
sound_children {s} h = record {
  low = λ n p q. (let w : (node_at s n).low.node ≤ n - 1 = (node_form h n p q).low.within in omega arith);
  high = λ n p q. (let w : (node_at s n).high.node ≤ n - 1 = (node_form h n p q).high.within in omega arith);
}

-- the swept store, before its table is made anew
pub sweep_rollback : {c s s' : List ℕ} {st : State} {rs rs' : List Register} (k b : ℕ) → CollectRequires c s st rs
    → SweepEnsures st.count rs s s' k rs'
    → length s' ≡ length s → (1 ≤ st.buckets → (1 ≤ b) × (b ≤ st.buckets))
    → RollbackRequires c s' (record { count = k; buckets = b; epoch = st.epoch })
unfolding nodes_of
sweep_rollback {c} {s} {s'} {st} {rs} {rs'} k b g w l f =
    let less = sweep_fewer indices st.count rs rs' s s' k (nodes_of_lem g) g.registers w in
    record {
      room = omega (arith, g.sound.stored.room, l, less);
      numbered = omega (arith, g.sound.stored.numbered, less);
      ready = λ p. (let t = g.sound.stored.table (omega (arith, l)) in
          record {
            some = (f t.some).0;
            place = omega (arith, t.place, l, (f t.some).1);
            numbered = omega (arith, t.numbered, less);
          });
      nodes = sweep_canonical indices st.count rs rs' s s' k (nodes_of_lem g) g.registers w;
      past = g.past;
    }

count_of : (s₁ s₂ : List ℕ) (st st' : State) → nodes_of s₂ st' ≡ nodes_of s₁ st → st.count ≡ st'.count
count_of s₁ s₂ st st' e = sym (nodes_length s₁ st) ∙ ap length (sym e) ∙ nodes_length s₂ st'

pub collect_ensures : {c c' s s₁ s₂ : List ℕ} {st st' : State} {rs rs' : List Register} (k b : ℕ)
    → CollectRequires c s st rs → SweepEnsures st.count rs s s₁ k rs'
    → RollbackEnsures c' s₁ s₂ (record { count = k; buckets = b; epoch = st.epoch }) st'
    → CollectEnsures c' s s₂ st st' rs rs'
unfolding set_of nodes_of
collect_ensures {s = s} {s₁} {s₂} {st} {st'} {rs} {rs'} k b g w r =
    let n = nodes_of_lem g in
    let kept = ap (tensors indices) r.kept in
    record {
      sound = r.sound;
      forgotten = r.forgotten;
      registers = subst (λ m. RegistersValid m rs') (count_of s₁ s₂
          (record { count = k; buckets = b; epoch = st.epoch }) st' r.kept)
          (sweep_registers indices st.count rs rs' s s₁ k n g.registers w);
      weights = ap weights_of w.registers ∙ renumber_weights (new_number w.marks) rs;
      same = ap (λ ts. holds_all ts rs') kept ∙ sweep_holds indices st.count rs rs' s s₁ k n g.registers w;
      set = kept ∙ sweep_set indices st.count rs rs' s s₁ k n g.registers w;
    }
