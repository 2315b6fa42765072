-- Laws of building a gate: a tensor from its parts at an index (low, then high, then the join), and the indices that a
-- gate uses.
use Rattle.std.specs.Prelude.{◌≡◌, refl, List, ◌≢◌, Bool, true, false, ℕ, suc, ◌<◌, zero, ◌+◌, ◌-◌, ◌*◌, ◌%◌, ◌^◌, ◌≤◌}
use Rattle.std.specs.Prelude.{Result, Err, min, max}
use Rattle.std.proofs.Common.{ap, sym, ◌∙◌, ap₂, subst, arith, add-one}
use Rattle.std.proofs.Math.Path.{fun_ext}
use Rattle.std.proofs.Math.Decide.{dec_lt}
use Rattle.std.proofs.Math.Nat.{pow-le-pow_right}
use Rattle.field.specs.Weight.{modulus, to_weight, 1w}
use Rattle.field.specs.Field.{Represents}
use Rattle.field.specs.RingLaws.{times_w_comm, times_w_one}
use Rattle.diagram.specs.Tensor.{indices, indices_count, Tensor, constant, joined, bits, value, fix, index_count}
use Rattle.diagram.specs.TensorLaws.{scale_constant, power_suc}
use Rattle.diagram.specs.Top.{FreeBelow, Free}
use Rattle.diagram.specs.Tally.{Set, Step, join, build}
use Rattle.diagram.specs.Sets.{PrefixOf}
use Rattle.diagram.specs.SetsLaws.{prefix_trans}
use Rattle.diagram.specs.TallyStepLaws.{writes_grows, writes_again}
use Rattle.diagram.specs.TallyBuildLaws.{build_is, build_writes}
use Rattle.diagram.specs.TallyPartsLaws.{build_weight, build_joined, fix_tabulate}
use Rattle.diagram.specs.Meaning.{Valid}
use Rattle.diagram.specs.MeaningLaws.{valid_more}
use Rattle.diagram.specs.CanonicalLaws.{edge_constant}
use Rattle.diagram.specs.Store.{nodes_of, set_of, tensor_of, Sound, RefinesEdge, RefinesFull, Refines}
use Rattle.diagram.specs.StoreLaws.{join_grows, tensor_kept, refines_stays, refines_count, refines_then}
use Rattle.diagram.specs.StoreLaws.{refines_full_more}
use Rattle.diagram.specs.Build.{JoinRemains, gate_part, NoneOwned, fix_below, NoneUsed, BitsBelow}
use Rattle.diagram.specs.Tabulate.{tabulate}
use Rattle.diagram.specs.MaskLaws.{one_shl}
use Rattle.diagram.specs.Gate.{entry, gate_tensor, first_qubit, second_qubit}
use Rattle.diagram.specs.GateLaws.{gate_value}
use Rattle.diagram.specs.Entry.{uses_index}
use Rattle.diagram.specs.EntryLaws.{unused, unused_entry}
use Rattle.diagram.specs.BuildFixBelowLaws.{fix_below_none, fix_below_from, fix_below_all, fix_below_split}
use Rattle.diagram.specs.BuildFixBelowLaws.{fix_below_free, low_bits, high_bits}
use Rattle.diagram.specs.declared.node.Edge.{Edge}
use Rattle.diagram.specs.declared.make.State.{State}
use Rattle.diagram.specs.declared.gate.Gate.{Gate}
use Rattle.diagram.specs.declared.diagram.Full.{Full}

-- a constant needs no node

pub constant_valid : {m w : ℕ} → w < modulus → Valid m (record { weight = w; node = 0 })
constant_valid p = record { small = p; within = omega arith; zero = λ _. refl }

pub constant_tensor : {s : List ℕ} {st : State} (w : ℕ) → Sound s st
    → tensor_of s st (record { weight = w; node = 0 }) ≡ constant indices (to_weight w)
unfolding tensor_of set_of
constant_tensor {s} {st} w h =
    edge_constant indices (nodes_of s st) h.nodes (record { weight = w; node = 0 }) refl
    ∙ scale_constant indices (to_weight w) 1w ∙ ap (constant indices)
    (times_w_comm (to_weight w) 1w ∙ times_w_one (to_weight w))

pub built_constant : {s : List ℕ} {st : State} (w : ℕ) → Sound s st → w < modulus
    → RefinesEdge s s st st (build (constant indices (to_weight w))) (record { weight = w; node = 0 })
built_constant {s} {st} w h p =
    refines_stays h (constant_valid p) (build_weight (to_weight w) (set_of s st)
    ∙ ap (λ T. (T, set_of s st)) (sym (constant_tensor w h)))

-- what was built

pub built_tensor : {s s' : List ℕ} {st st' : State} {e : Edge} (T : Tensor indices)
    → RefinesEdge s s' st st' (build T) e → tensor_of s' st' e ≡ T
built_tensor {s = s} {st = st} T d = ap (λ r. r.0) (sym d.is ∙ build_is T (set_of s st))

pub built_set : {s s' : List ℕ} {st st' : State} {e : Edge} (T : Tensor indices) → RefinesEdge s s' st st' (build T) e
    → (build T (set_of s st)).1 ≡ set_of s' st'
built_set T d = ap (λ r. r.1) d.is

-- from L and H, which do not depend on the indices up to k
module _ (k : ℕ) (L H : Tensor indices) (inside : k < index_count) (low : FreeBelow (suc k) L)
    (high : FreeBelow (suc k) H) where
  -- what is left when L is built
  rest : Step indices
  rest z = join k L H (build H z).1

  whole : (z : Set indices) → build (joined k L H) z ≡ rest (build L z).1
  unfolding rest
  whole z = build_joined k L H z (rw indices_count inside) low high _ _ (build_is L z) (build_is H (build L z).1)

  pub build_whole : (z : Set indices) → build (joined k L H) z ≡ join k L H (build H (build L z).1).1
  unfolding rest
  build_whole z = whole z

  rest_grows : (z : Set indices) → PrefixOf z (rest z).1
  unfolding rest
  rest_grows z = prefix_trans (writes_grows (build_writes H) z) (join_grows k L H _)

  -- building again what comes first changes nothing
  pub build_front : (z : Set indices) → build (joined k L H) z ≡ build (joined k L H) (build L z).1
  build_front z = whole z ∙ ap (λ r. rest r.1) (build_is L z ∙ sym (writes_again (build_writes L) z))
      ∙ sym (whole (build L z).1)

  pub build_low_full : {s s₁ : List ℕ} {st : State} → RefinesFull s s₁ st (build L)
      → RefinesFull s s₁ st (build (joined k L H))
  build_low_full {s} {st = st} o =
      refines_full_more o (build (joined k L H)) (rw (whole (set_of s st)) (rest_grows (build L (set_of s st)).1))

  module _ {s s₁ : List ℕ} {st t : State} {l : Edge} (d : RefinesEdge s s₁ st t (build L) l) where
    started : build (joined k L H) (set_of s st) ≡ rest (set_of s₁ t)
    started = whole (set_of s st) ∙ ap rest (built_set L d)

    pub build_high_full : {s₂ : List ℕ} → RefinesFull s₁ s₂ t (build H) → RefinesFull s s₂ st (build (joined k L H))
    unfolding rest
    build_high_full {s₂} o = refines_then d (build (joined k L H)) rest started s₂ t (Err (record {}))
        (refines_full_more o rest (join_grows k L H _))

    module _ {s₂ : List ℕ} {u : State} {h : Edge} (d' : RefinesEdge s₁ s₂ t u (build H) h) where
      l_is : tensor_of s₂ u l ≡ L
      l_is = tensor_kept s₁ s₂ t u d'.grown d.valid ∙ built_tensor L d

      pub build_joins : JoinRemains s s₂ st u k l h (build (joined k L H))
      unfolding rest
      build_joins =
          record {
            sound = d'.sound;
            joinable = record {
              inside = inside;
              low = valid_more _ (refines_count d') d.valid;
              high = d'.valid;
              from_low = rw l_is low;
              from_high = rw (built_tensor H d') high;
            };
            does = λ s₃ w r j.
                refines_then d (build (joined k L H)) rest started s₃ w r
                (refines_then d' rest (join k L H) (ap (join k L H) (built_set H d')) s₃ w r
                (rw (l_is, built_tensor H d') at j));
          }

pub none_used : {g : Gate} {a b k r : ℕ} → a ≡ first_qubit g → b ≡ second_qubit g → NoneOwned a b k r → NoneUsed g k r
none_used {g} p q o = record {
  from = o.from;
  inside = o.inside;
  unused = λ j l h. unused g j (λ n. rw (p, q) at (o.others j l h n));
}

pub none_used_swapped : {g : Gate} {a b k r : ℕ} → a ≡ first_qubit g → b ≡ second_qubit g → NoneOwned b a k r
    → NoneUsed g k r
none_used_swapped p q o = none_used p q record {
  from = o.from;
  inside = o.inside;
  others = λ j l h n. let m = o.others j l h n in (m.1, m.0);
}

-- the lower qubit first
pub none_used_ordered : {g : Gate} {a b x y k r : ℕ} → a ≡ first_qubit g → b ≡ second_qubit g
    → x ≡ min a b → y ≡ max a b → NoneOwned x y k r → NoneUsed g k r
none_used_ordered {a = a} {b = b} {x = x} {y = y} p q u v o = elim (dec_lt a b) [
  | yes h ↦
      let low : x ≡ a = omega (arith, h, u) in
      let high : y ≡ b = omega (arith, h, v) in
      none_used p q (rw (low, high) at o)
  | no h ↦
      let low : x ≡ b = omega (arith, h, u) in
      let high : y ≡ a = omega (arith, h, v) in
      none_used_swapped p q (rw (low, high) at o)
]

module _ {k v : ℕ} (p : BitsBelow k v) (index : k ≢ index_count) where
  power : 2 ^ k ≤ 2 ^ 23
  power = pow-le-pow_right {n = 2} (omega arith) {i = k} {j = 23} (omega (arith, p.inside))

  pub bits_below_low : BitsBelow (k + 1) v
  bits_below_low =
      rw (add-one k) record { inside = omega (arith, p.inside); below = omega (arith, p.below, power_suc k) }

  pub bits_below_high : {w : ℕ} → w ≡ v + 2 ^ k → BitsBelow (k + 1) w
  bits_below_high e =
      rw (add-one k, e) record { inside = omega (arith, p.inside); below = omega (arith, p.below, power_suc k) }

  pub bits_below_shift : k < 64
  bits_below_shift = omega (arith, p.inside)

  pub bits_below_fits : v + (1 * 2 ^ k) % 2 ^ 64 < 2 ^ 64
  bits_below_fits = rw (one_shl k bits_below_shift) (omega (arith, p.below, power))

  pub bits_below_assign : v + (1 * 2 ^ k) % 2 ^ 64 ≡ v + 2 ^ k
  bits_below_assign = rw (one_shl k bits_below_shift)

-- the indices that the gate does not use are fixed too
pub bits_below_next : {g : Gate} {k r v : ℕ} → BitsBelow k v → NoneUsed g k r → BitsBelow r v
bits_below_next {k = k} {r = r} p n = record {
  inside = n.inside;
  below = omega (arith, p.below, pow-le-pow_right {n = 2} (omega arith) {i = k} {j = r} n.from);
}

pub bits_below_first : {g : Gate} {r : ℕ} → NoneUsed g 0 r → BitsBelow r 0
bits_below_first n = bits_below_next record { inside = omega arith; below = omega arith } n

-- the parts of a gate

pub part_whole : (g : Gate) → gate_part g 0 0 ≡ gate_tensor indices g
unfolding gate_part
part_whole g = fix_below_none (bits 0) (gate_tensor indices g)

part_from : (g : Gate) (k v : ℕ) → FreeBelow k (gate_part g k v)
unfolding gate_part
part_from g k v = fix_below_from k (bits v) (gate_tensor indices g)

part_leaf : (g : Gate) (v : ℕ) → v < 2 ^ index_count → gate_part g index_count v ≡ constant indices (entry g (bits v))
unfolding gate_part value
part_leaf g v p =
    ap (λ k. fix_below k (bits v) (gate_tensor indices g)) (sym indices_count)
    ∙ fix_below_all indices (bits v) (gate_tensor indices g)
    ∙ ap (constant indices) (gate_value indices g v (rw indices_count p))

gate_free : (g : Gate) (k : ℕ) → k < index_count → uses_index g k ≡ false → Free k (gate_tensor indices g)
unfolding gate_tensor
gate_free g k p e =
    let part : (b : Bool) → fix k b (tabulate indices (entry g)) ≡ tabulate indices (entry g) =
    λ b. fix_tabulate indices k b (entry g) (rw indices_count p)
    ∙ ap (tabulate indices) (fun_ext (λ f. unused_entry g k b f e)) in
    record { is = part false ∙ sym (part true) }

part_skip : (g : Gate) (k v : ℕ) → k < index_count → uses_index g k ≡ false → gate_part g (k + 1) v ≡ gate_part g k v
unfolding gate_part
part_skip g k v p e = rw (add-one k) (fix_below_free k (bits v) (gate_tensor indices g) (gate_free g k p e))

part_next : {g : Gate} {k r : ℕ} (v : ℕ) → NoneUsed g k r → gate_part g r v ≡ gate_part g k v
part_next {g} {k} {r} v n = go (r - k) k (omega (arith, n.from)) (omega arith)
  where
    go : (m j : ℕ) → j + m ≡ r → k ≤ j → gate_part g r v ≡ gate_part g j v
    go zero j e l = let same : r ≡ j = omega arith in ap (λ i. gate_part g i v) same
    go (suc m) j e l = go m (j + 1) (omega arith) (omega arith)
        ∙ part_skip g j v (omega (arith, n.inside)) (n.unused j l (omega arith))

part_split : (g : Gate) (k v : ℕ) → v < 2 ^ k
    → gate_part g k v ≡ joined k (gate_part g (k + 1) v) (gate_part g (k + 1) (v + 2 ^ k))
unfolding gate_part
part_split g k v p = rw (add-one k) (fix_below_split k (bits v) (gate_tensor indices g)
    ∙ ap₂ (λ f h. joined k (fix_below (suc k) f (gate_tensor indices g)) (fix_below (suc k) h (gate_tensor indices g)))
    (low_bits k v p) (sym (high_bits k v p)))

-- built in a store, as the code comes to it

pub gate_leaf : {s : List ℕ} {st : State} (g : Gate) (k v : ℕ) {w : ℕ} → Sound s st → BitsBelow k v → k ≡ index_count
    → Represents w (entry g (bits v))
    → RefinesEdge s s st st (build (gate_part g k v)) (record { weight = w; node = 0 })
gate_leaf {s} {st} g k v {w} h p z e =
    let small : v < 2 ^ index_count = rw z at p.below in
    subst (λ T. RefinesEdge s s st st (build T) (record { weight = w; node = 0 }))
    (ap (constant indices) e.is ∙ sym (ap (λ j. gate_part g j v) z ∙ part_leaf g v small))
    (built_constant w h e.small)

-- no index fixed that the gate uses: the gate
pub gate_whole : (s s' : List ℕ) (st t : State) (g : Gate) {k : ℕ} (r : Result Edge Full) → NoneUsed g 0 k
    → Refines s s' st t (build (gate_part g k 0)) r
    → Refines s s' st t (build (gate_tensor indices g)) r
gate_whole s s' st t g r n d = subst (λ T. Refines s s' st t (build T) r) (part_next 0 n ∙ part_whole g) d

-- k is an index: the part is that with k fixed to 0, and then that with k fixed to 1, joined; n is the next index that
-- the gate uses
module _ (g : Gate) (k v : ℕ) (index : k ≢ index_count) (p : BitsBelow k v) {n : ℕ} (next : NoneUsed g (k + 1) n) where
  inside : k < index_count
  inside = omega (arith, p.inside)

  above : (w : ℕ) → FreeBelow (suc k) (gate_part g (k + 1) w)
  above w = rw (add-one k) (part_from g (suc k) w)

  split : {w : ℕ} → w ≡ v + 2 ^ k → joined k (gate_part g (k + 1) v) (gate_part g (k + 1) w) ≡ gate_part g k v
  split high = rw high (sym (part_split g k v p.below))

  pub gate_low_full : {s s₁ : List ℕ} {st : State} → RefinesFull s s₁ st (build (gate_part g n v))
      → RefinesFull s s₁ st (build (gate_part g k v))
  gate_low_full {s} {s₁} {st} o =
      subst (λ T. RefinesFull s s₁ st (build T)) (sym (part_split g k v p.below))
      (build_low_full k _ _ inside (above v) (above (v + 2 ^ k))
      (subst (λ T. RefinesFull s s₁ st (build T)) (part_next v next) o))

  -- the low part was answered by l
  module _ {s s₁ : List ℕ} {st t : State} {l : Edge} (done : RefinesEdge s s₁ st t (build (gate_part g n v)) l) where
    d : RefinesEdge s s₁ st t (build (gate_part g (k + 1) v)) l
    d = subst (λ T. RefinesEdge s s₁ st t (build T) l) (part_next v next) done

    pub gate_sound : Sound s₁ t
    gate_sound = done.sound

    module _ {w : ℕ} (high : w ≡ v + 2 ^ k) {s₂ : List ℕ} where
      pub gate_high_full : RefinesFull s₁ s₂ t (build (gate_part g n w))
          → RefinesFull s s₂ st (build (gate_part g k v))
      gate_high_full o =
          subst (λ T. RefinesFull s s₂ st (build T)) (split high)
          (build_high_full k _ _ inside (above v) (above w) d
          (subst (λ T. RefinesFull s₁ s₂ t (build T)) (part_next w next) o))

      -- the high part was answered by h
      module _ {u : State} {h : Edge} (done' : RefinesEdge s₁ s₂ t u (build (gate_part g n w)) h) where
        d' : RefinesEdge s₁ s₂ t u (build (gate_part g (k + 1) w)) h
        d' = subst (λ T. RefinesEdge s₁ s₂ t u (build T) h) (part_next w next) done'

        pub gate_joins : JoinRemains s s₂ st u k l h (build (gate_part g k v))
        gate_joins = subst (λ T. JoinRemains s s₂ st u k l h (build T)) (split high)
            (build_joins k _ _ inside (above v) (above w) d d')
