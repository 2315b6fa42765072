-- Laws of `unit`: qubit by qubit from the last to the first, as a tensor and in a store.
use Rattle.std.specs.Prelude.{◌≡◌, refl, Bool, true, false, cond, ◌&&◌, ◌≢◌, List, Result, Ok, Err}
use Rattle.std.proofs.Common.{ap, ap₂, sym, ◌∙◌, subst}
use Rattle.std.proofs.Math.Bool.{and_assoc, and-true}
use Prim.Native.Nat.{ℕ, zero, suc, ◌+◌, ◌*◌, ◌≤◌, ◌<◌, ◌-◌}
use native.Mathlib.Omega.{arith}
use Rattle.std.proofs.Math.Numerals.{add-one}
use Rattle.field.specs.Weight.{0w, 1w}
use Rattle.field.specs.RingLaws.{weight_zero, weight_one}
use Rattle.diagram.specs.Tensor.{Tensor, Bits, bits, input, middle, at, value, constant, joined, branch, indices}
use Rattle.diagram.specs.Tensor.{indices_count, index_count}
use Rattle.diagram.specs.TensorLaws.{eq_value, at_constant, at_joined}
use Rattle.diagram.specs.TopLaws.{free_below_less, free_below_constant, free_below_joined}
use Rattle.diagram.specs.Top.{FreeBelow}
use Rattle.diagram.specs.Gate.{equal, straight, unit_entry, unit_tensor}
use Rattle.diagram.specs.GateLaws.{unit_at}
use Rattle.diagram.specs.Unit.{onto, unit_from, OntoRequires}
use Rattle.diagram.specs.Tally.{Set, join, build}
use Rattle.diagram.specs.TallyStepLaws.{writes_grows, writes_again, writes_stable}
use Rattle.diagram.specs.TallyBuildLaws.{build_writes}
use Rattle.diagram.specs.TallyPartsLaws.{build_weight, build_joined}
use Rattle.diagram.specs.Meaning.{nought}
use Rattle.diagram.specs.MeaningLaws.{valid_more}
use Rattle.diagram.specs.Store.{set_of, tensor_of, Sound, RefinesEdge, RefinesFull, Refines}
use Rattle.diagram.specs.StoreLaws.{refines_as, sets_prefix, tensor_kept}
use Rattle.diagram.specs.StoreLaws.{refines_count, refines_then, refines_full_more}
use Rattle.diagram.specs.Join.{JoinRequires}
use Rattle.diagram.specs.BuildLaws.{constant_valid, constant_tensor, built_constant, built_tensor, built_set}
use Rattle.diagram.specs.BuildLaws.{build_whole, build_front, build_low_full, build_high_full, build_joins}
use Rattle.diagram.specs.Build.{JoinRemains}
use Rattle.diagram.specs.declared.node.Edge.{Edge}
use Rattle.diagram.specs.declared.make.State.{State}
use Rattle.diagram.specs.declared.diagram.Full.{Full}

-- it is document 01's tensor

abbrev own : ℕ → Bits → Bool
own q f = equal (f (input q)) (f (middle q))

straight_from : ℕ → ℕ → Bits → Bool
straight_from q zero f = true
straight_from q (suc m) f = own q f && straight_from (suc q) m f

straight_from_lem : (n : ℕ) (f : Bits) → straight n f ≡ straight_from 0 n f
unfolding straight straight_from
straight_from_lem zero f = refl
straight_from_lem (suc n) f = rw (straight_from_lem n f) (last 0 n n (omega arith))
  where
    last : (q m r : ℕ) → r ≡ q + m → (straight_from q m f && own r f) ≡ straight_from q (suc m) f
    last q zero r e = let i : r ≡ q = omega arith in rw i (sym (and-true (own q f)))
    last q (suc m) r e = and_assoc (own q f) (straight_from (suc q) m f) (own r f)
        ∙ ap (λ b. own q f && b) (last (suc q) m r (omega arith))

at_onto : {d : ℕ} (q : ℕ) (U : Tensor d) (f : Bits) → middle q < d → at (onto q U) f ≡ cond (own q f) (at U f) 0w
unfolding onto
at_onto {d} q U f p =
    at_joined (input q) _ _ f (omega arith)
    ∙ ap₂ (branch (f (input q))) (at_joined (middle q) U (constant d 0w) f p)
    (at_joined (middle q) (constant d 0w) U f p)
    ∙ rw (at_constant d 0w f) (go (f (input q)) (f (middle q)))
  where
    go : (a b : Bool) → branch a (branch b (at U f) 0w) (branch b 0w (at U f)) ≡ cond (equal a b) (at U f) 0w
    go true true = refl
    go true false = refl
    go false true = refl
    go false false = refl

at_from : (d q m : ℕ) (f : Bits) → 3 * (q + m) ≤ d → at (unit_from {d = d} q m) f ≡ cond (straight_from q m f) 1w 0w
unfolding unit_from straight_from
at_from d q zero f p = at_constant d 1w f
at_from d q (suc m) f p =
    at_onto q (unit_from (suc q) m) f (omega arith)
    ∙ ap (λ w. cond (own q f) w 0w) (at_from d (suc q) m f (omega arith))
    ∙ go (own q f) (straight_from (suc q) m f)
  where
    go : (a b : Bool) → cond a (cond b 1w 0w) 0w ≡ cond (a && b) 1w 0w
    go true b = refl
    go false b = refl

pub unit_from_lem : (d n : ℕ) → 3 * n ≤ d → unit_from 0 n ≡ unit_tensor d n
unfolding value unit_entry
unit_from_lem d n p = eq_value _ _ (λ v q.
    at_from d 0 n (bits v) (omega arith) ∙ ap (λ b. cond b 1w 0w) (sym (straight_from_lem n (bits v)))
    ∙ sym (unit_at d n p (bits v)))

-- it depends on the indices of its qubits alone

module _ {d : ℕ} (q : ℕ) (U : Tensor d) (f : FreeBelow (suc (middle q)) U) where
  below : FreeBelow (suc (input q)) U
  below = free_below_less (suc (input q)) (suc (middle q)) U (omega arith) f

  pub onto_low : FreeBelow (suc (input q)) (joined (middle q) U (constant d 0w))
  onto_low = free_below_joined (suc (input q)) (middle q) U (constant d 0w) (omega arith) below
      (free_below_constant (suc (input q)) d 0w)

  pub onto_high : FreeBelow (suc (input q)) (joined (middle q) (constant d 0w) U)
  onto_high = free_below_joined (suc (input q)) (middle q) (constant d 0w) U (omega arith)
      (free_below_constant (suc (input q)) d 0w) below

  onto_from : FreeBelow (input q) (onto q U)
  unfolding onto
  onto_from =
      free_below_joined (input q) (input q) _ _ (omega arith)
      (free_below_less (input q) (suc (input q)) _ (omega arith) onto_low)
      (free_below_less (input q) (suc (input q)) _ (omega arith) onto_high)

from_unit : (d q m : ℕ) → FreeBelow (input q) (unit_from {d = d} q m)
unfolding unit_from
from_unit d q zero = free_below_constant (input q) d 1w
from_unit d q (suc m) =
    onto_from q (unit_from (suc q) m) (free_below_less (suc (middle q)) (input (suc q)) (unit_from (suc q) m)
    (omega arith) (from_unit d (suc q) m))

-- what stands after qubit q does not depend on q's indices
pub unit_after : (d q m : ℕ) → FreeBelow (suc (middle q)) (unit_from {d = d} (suc q) m)
unit_after d q m =
    free_below_less (suc (middle q)) (input (suc q)) (unit_from (suc q) m) (omega arith) (from_unit d (suc q) m)

none_tensor : {s : List ℕ} {st : State} → Sound s st → tensor_of s st nought ≡ constant indices 0w
none_tensor h = constant_tensor 0 h ∙ ap (constant indices) weight_zero

module _ (s : List ℕ) (st : State) (q : ℕ) (e : Edge) (o : OntoRequires s st q e) where
  abbrev U : Tensor indices
  U = tensor_of s st e

  abbrev A : Tensor indices
  A = joined (middle q) U (constant indices 0w)

  abbrev B : Tensor indices
  B = joined (middle q) (constant indices 0w) U

  inside : middle q < index_count
  inside = omega (arith, o.qubit)

  from_none : {s' : List ℕ} {t : State} → Sound s' t → FreeBelow (suc (middle q)) (tensor_of s' t nought)
  from_none h = rw (none_tensor h) (free_below_constant (suc (middle q)) indices 0w)

  pub first_joinable : JoinRequires s st (middle q) e nought
  first_joinable = record {
    inside = inside;
    low = o.valid;
    high = constant_valid (omega arith);
    from_low = o.above;
    from_high = from_none o.sound;
  }

  -- the first join builds the low part
  module _ where
    first_same : build A (set_of s st) ≡ join (middle q) (tensor_of s st e) (tensor_of s st nought) (set_of s st)
    first_same =
        build_joined (middle q) U (constant indices 0w) (set_of s st) (rw indices_count inside) o.above
        (free_below_constant (suc (middle q)) indices 0w) _ _
        o.built (build_weight 0w (set_of s st)) ∙ ap (λ Z. join (middle q) U Z (set_of s st))
        (sym (none_tensor o.sound))

    low : FreeBelow (suc (input q)) A
    low = onto_low q U o.above

    high : FreeBelow (suc (input q)) B
    high = onto_high q U o.above

    pub first_full : {s₁ : List ℕ} → RefinesFull s s₁ st (join (middle q) (tensor_of s st e) (tensor_of s st nought))
        → RefinesFull s s₁ st (build (onto q (tensor_of s st e)))
    unfolding onto
    first_full {s₁} f = build_low_full (input q) A B (omega (arith, inside)) low high
        (refines_as s s₁ st st (build A) _ (Err (record {})) first_same f)

    module _ {s₁ : List ℕ} {t : State} {a : Edge}
        (first : RefinesEdge s s₁ st t (join (middle q) (tensor_of s st e) (tensor_of s st nought)) a) where
      d : RefinesEdge s s₁ st t (build A) a
      d = refines_as s s₁ st t (build A) _ (Ok a) first_same first

      kept : tensor_of s₁ t e ≡ U
      kept = tensor_kept s s₁ st t d.grown o.valid

      pub first_sound : Sound s₁ t
      first_sound = d.sound

      pub second_joinable : JoinRequires s₁ t (middle q) nought e
      second_joinable =
          record {
            inside = inside;
            low = constant_valid (omega arith);
            high = valid_more _ (refines_count d) o.valid;
            from_low = from_none d.sound;
            from_high = rw kept o.above;
          }

      -- the second builds the high part
      module _ where
        second_same : build B (set_of s₁ t)
            ≡ join (middle q) (tensor_of s₁ t nought) (tensor_of s₁ t e) (set_of s₁ t)
        second_same =
            let again : build U (set_of s₁ t) ≡ (U, set_of s₁ t) =
            writes_stable (build_writes U) (set_of s st) (set_of s₁ t) (sets_prefix s s₁ st t d.grown)
            (ap (λ p. p.1) o.built) in
            build_joined (middle q) (constant indices 0w) U (set_of s₁ t) (rw indices_count inside)
            (free_below_constant (suc (middle q)) indices 0w) o.above _ _
            (build_weight 0w (set_of s₁ t)) again ∙ ap₂ (λ Z X. join (middle q) Z X (set_of s₁ t))
            (sym (none_tensor d.sound)) (sym kept)

        pub second_full : {s₂ : List ℕ}
            → RefinesFull s₁ s₂ t (join (middle q) (tensor_of s₁ t nought) (tensor_of s₁ t e))
            → RefinesFull s s₂ st (build (onto q (tensor_of s st e)))
        unfolding onto
        second_full {s₂} f =
            build_high_full (input q) A B (omega (arith, inside)) low high d
            (refines_as s₁ s₂ t t (build B) _ (Err (record {})) second_same f)

        -- the third joins them
        module _ {s₂ : List ℕ} {u : State} {b : Edge}
            (second : RefinesEdge s₁ s₂ t u (join (middle q) (tensor_of s₁ t nought) (tensor_of s₁ t e)) b) where
          d' : RefinesEdge s₁ s₂ t u (build B) b
          d' = refines_as s₁ s₂ t u (build B) _ (Ok b) second_same second

          pub onto_joins : JoinRemains s s₂ st u (input q) a b (build (onto q (tensor_of s st e)))
          unfolding onto
          onto_joins = build_joins (input q) A B (omega (arith, inside)) low high d d'

-- building again what comes first changes nothing
onto_front : (q : ℕ) (W : Tensor indices) → middle q < index_count → FreeBelow (suc (middle q)) W → (z : Set indices)
    → build (onto q W) z ≡ build (onto q W) (build W z).1
unfolding onto
onto_front q W p f z =
    let A : Tensor indices = joined (middle q) W (constant indices 0w) in
    let B : Tensor indices = joined (middle q) (constant indices 0w) W in
    let whole = build_whole (input q) A B (omega arith) (onto_low q W f) (onto_high q W f) in
    let front = build_front (middle q) W (constant indices 0w) p f (free_below_constant (suc (middle q)) indices 0w) z
    in
    whole z ∙ ap (λ r. join (input q) A B (build B r.1).1) front ∙ sym (whole (build W z).1)

-- qubits q .. n - 1, the answer for those after q being r

pub unit_leaf : {s : List ℕ} {st : State} (q n : ℕ) → Sound s st → q ≡ n
    → RefinesEdge s s st st (build (unit_from q (n - q))) (record { weight = 1; node = 0 })
unfolding unit_from
unit_leaf {s} {st} q n h e =
    let z : n - q ≡ 0 = omega arith in
    rw z (subst (λ w. RefinesEdge s s st st (build (constant indices w)) (record { weight = 1; node = 0 })) weight_one
    (built_constant 1 h (omega arith)))

module _ (q n : ℕ) (less : q ≢ n) (within : q ≤ n) (most : n ≤ 8) where
  abbrev W : Tensor indices
  W = unit_from (q + 1) (n - (q + 1))

  abbrev X : Tensor indices
  X = unit_from q (n - q)

  inside' : middle q < index_count
  inside' = omega arith

  after_q : FreeBelow (suc (middle q)) W
  after_q = rw (add-one q) (unit_after indices q (n - suc q))

  split : X ≡ onto q W
  unfolding unit_from
  split = let e : n - q ≡ suc (n - suc q) = omega arith in rw (e, add-one q)

  front : (z : Set indices) → build X z ≡ build X (build W z).1
  front z = rw split (onto_front q W inside' after_q z)

  module _ {s s₁ : List ℕ} {st : State} where
    pub unit_full : RefinesFull s s₁ st (build (unit_from (q + 1) (n - (q + 1))))
        → RefinesFull s s₁ st (build (unit_from q (n - q)))
    unit_full f = refines_full_more f (build X)
        (rw (front (set_of s st)) (writes_grows (build_writes X) (build W (set_of s st)).1))

    module _ {t : State} {e : Edge}
        (done : RefinesEdge s s₁ st t (build (unit_from (q + 1) (n - (q + 1)))) e) where
      is : tensor_of s₁ t e ≡ W
      is = built_tensor W done

      pub unit_ready : OntoRequires s₁ t q e
      unit_ready =
          record {
            sound = done.sound;
            qubit = omega arith;
            valid = done.valid;
            above = rw is after_q;
            built = rw (is, ← built_set W done) (writes_again (build_writes W) (set_of s st));
          }

      pub unit_refines : (s₂ : List ℕ) (u : State) (p : Result Edge Full)
          → Refines s₁ s₂ t u (build (onto q (tensor_of s₁ t e))) p
          → Refines s s₂ st u (build (unit_from q (n - q))) p
      unit_refines s₂ u p j =
          refines_then done (build X) (build (onto q (tensor_of s₁ t e)))
          (front (set_of s st) ∙ rw (built_set W done, is, split) refl) s₂ u p j

pub unit_whole : (s s' : List ℕ) (st t : State) (n : ℕ) (r : Result Edge Full) → n ≤ 8
    → Refines s s' st t (build (unit_from 0 (n - 0))) r
    → Refines s s' st t (build (unit_tensor indices n)) r
unit_whole s s' st t n r p d =
    let e : n - 0 ≡ n = omega arith in
    subst (λ T. Refines s s' st t (build T) r) (unit_from_lem indices n (rw indices_count (omega arith))) (rw e at d)
