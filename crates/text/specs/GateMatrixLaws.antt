-- A gate applied to a list's tensor multiplies by its matrix.
use Rattle.std.specs.Prelude.{List, [], ◌∷◌, ◌≡◌, refl, cond, false, ◌&&◌, ◌||◌, Bool, true, ℕ, ◌-◌, min, max, suc, ◌*◌}
use Rattle.std.specs.Prelude.{◌<◌, ◌+◌, ◌/◌, ◌%◌, ◌≤◌, ◌^◌, zero, eqb}
use Rattle.std.proofs.Common.{sym, ◌∙◌, ap₂, ap, arith, eq-eqb, ne_eqb}
use Rattle.std.proofs.Math.Path.{fun_ext}
use Rattle.std.proofs.Math.Bool.{and-false}
use Rattle.std.proofs.Math.Decide.{dec_le, ℕ_discrete}
use Rattle.diagram.specs.Tensor.{at, Bits, fresh, middle, bits, assign, Tensor, times, rename_down}
use Rattle.diagram.specs.Gate.{shape, entry, gate_tensor, first_qubit_on, second_qubit_on}
use Rattle.diagram.specs.Entry.{AgreeOn}
use Rattle.diagram.specs.EntryLaws.{agree_entry}
use Rattle.diagram.specs.Weights.{0w, Weight, plus_w, times_w}
use Rattle.diagram.specs.Tabulate.{Sees}
use Rattle.diagram.specs.TabulateLaws.{bits_none}
use Rattle.diagram.specs.SumOverLaws.{at_sum_over}
use Rattle.diagram.specs.SumOver.{settings, sum_over}
use Rattle.diagram.specs.TallyLowLaws.{rename_down_at}
use Rattle.diagram.specs.TensorBitsLaws.{assign_other, assign_at}
use Rattle.diagram.specs.TensorRingLaws.{at_times}
use Rattle.diagram.specs.GateLaws.{gate_at}
use Rattle.text.specs.Names.{Placed}
use Rattle.text.specs.Qubits.{Rising, qubits_on, qubits, middles}
use Rattle.text.specs.Product.{BasisState, wires, gate_matrix, has_qubit, Operator, others, product}
use Rattle.text.specs.Apply.{renamed_tensor, contracted_tensor, applied_tensor}
use Rattle.text.specs.GateMatrix.{Each, Masked, raised}
use Rattle.text.specs.QubitsLaws.{gate_rising, bit_added, bit_other, placed_fits}
use Rattle.text.specs.ProductMatrixLaws.{others_sees, settings_beyond, cond_times, states_same, sum_collapse}
use Rattle.diagram.specs.declared.gate.Gate.{Gate}
use Rattle.diagram.specs.declared.gate.Shape.{Shape}
use Rattle.diagram.specs.declared.gate.Shape.TheVariants.{One, Two}

pub each_map : {P Q : ℕ → Type 0} (qs : List ℕ) → ((q : ℕ) → P q → Q q) → Each P qs → Each Q qs
each_map [] f h = tt
each_map (q ∷ qs) f h = (f q h.0, each_map qs f h.1)

-- of the lower and the higher: of both
min_max : (P : ℕ → Type 0) (a b : ℕ) → P (min a b) → P (max a b) → P a × P b
min_max P a b h k = elim (dec_le a b) [
  | yes l ↦ (let e : min a b ≡ a = omega arith in rw e at h, let e : max a b ≡ b = omega arith in rw e at k)
  | no l ↦ (let e : max a b ≡ a = omega arith in rw e at k, let e : min a b ≡ b = omega arith in rw e at h)
]

-- a gate's qubits are below n
rising_below : (n least : ℕ) (qs : List ℕ) → Rising (3 * n) least qs → Each (λ q. q < n) qs
rising_below n least [] r = tt
rising_below n least (q ∷ qs) r = (omega arith, rising_below n (suc q) qs r.2)

-- its entries depend on the middle and the fresh index of its qubits alone
pub entry_alike : (g : Gate) (x y : Bits) → Each (AgreeOn x y) (qubits g) → entry g x ≡ entry g y
entry_alike g x y e = let h = both (shape g) e in agree_entry g x y h.0 h.1
  where
    both : (s : Shape) → Each (AgreeOn x y) (qubits_on s)
        → AgreeOn x y (first_qubit_on s) × AgreeOn x y (second_qubit_on s)
    both (One q) e = (e.0, e.0)
    both (Two a b) e = min_max (AgreeOn x y) a b e.0 e.1.0

-- a gate's input and output at their indices

pub wires_fresh : (o i : BasisState) (q : ℕ) → wires o i (fresh q) ≡ o q
unfolding wires
wires_fresh o i q = let e : (3 * q + 2) / 3 ≡ q = omega arith in rw (eq-eqb ((3 * q + 2) % 3) 2 (omega arith), e)

pub wires_middle : (o i : BasisState) (q : ℕ) → wires o i (middle q) ≡ i q
unfolding wires
wires_middle o i q = let e : (3 * q + 1) / 3 ≡ q = omega arith in rw (ne_eqb ((3 * q + 1) % 3) 2 (omega arith), e)

-- a gate's matrix looks at the qubits below n alone

gate_entry_sees : (n : ℕ) (g : Gate) → Placed n g → (o o' i i' : BasisState) → ((k : ℕ) → k < n → o k ≡ o' k)
    → ((k : ℕ) → k < n → i k ≡ i' k)
    → entry g (wires o i) ≡ entry g (wires o' i')
gate_entry_sees n g p o o' i i' e e' =
    entry_alike g (wires o i) (wires o' i')
    (each_map (qubits g) (λ q b. (
      wires_fresh o i q ∙ e q b ∙ sym (wires_fresh o' i' q),
      wires_middle o i q ∙ e' q b
          ∙ sym (wires_middle o' i' q),
    ))
    (rising_below n 0 (qubits g) (gate_rising (3 * n) n g (omega arith) p)))

pub gate_matrix_sees : (n : ℕ) (g : Gate) → Placed n g → (o o' i i' : BasisState) → ((k : ℕ) → k < n → o k ≡ o' k)
    → ((k : ℕ) → k < n → i k ≡ i' k)
    → gate_matrix n g o i ≡ gate_matrix n g o' i'
unfolding gate_matrix
gate_matrix_sees n g p o o' i i' e e' =
    ap₂ (λ b w. cond b w 0w) (others_sees n (qubits g) o o' i i' e e') (gate_entry_sees n g p o o' i i' e e')

-- the mask of `cont`: the middles of the gate's qubits, and no other index

on_below : (d least p : ℕ) (qs : List ℕ) → Rising d least qs → p < least → has_qubit qs p ≡ false
unfolding has_qubit
on_below d least p [] r l = refl
on_below d least p (q ∷ qs) r l = rw (ne_eqb q p (λ e. omega arith)) (on_below d (suc q) p qs r.2 (omega arith))

on_above : (n p : ℕ) (qs : List ℕ) → Each (λ q. q < n) qs → n ≤ p → has_qubit qs p ≡ false
unfolding has_qubit
on_above n p [] r l = refl
on_above n p (q ∷ qs) r l = rw (ne_eqb q p (λ e. omega arith)) (on_above n p qs r.1 l)

mask : (d least : ℕ) (qs : List ℕ) → Rising d least qs → (k : ℕ)
    → bits (middles qs) k ≡ (eqb (k % 3) 1 && has_qubit qs (k / 3))
unfolding middles has_qubit
mask d least [] r k = bits_none k ∙ sym (and-false (eqb (k % 3) 1))
mask d least (q ∷ qs) r k = go (mask d (suc q) qs r.2)
  where
    apart : (k : ℕ) → (k ≡ 3 * q + 1 → ⊥)
        → (eqb (k % 3) 1 && has_qubit qs (k / 3)) ≡ (eqb (k % 3) 1 && (eqb q (k / 3) || has_qubit qs (k / 3)))
    apart k n =
        elim (ℕ_discrete (k % 3) 1) [
          | yes e ↦ rw (ne_eqb q (k / 3) (λ z. n (omega arith)))
          | no e ↦ rw (ne_eqb (k % 3) 1 e)
        ]

    go : ((k : ℕ) → bits (middles qs) k ≡ (eqb (k % 3) 1 && has_qubit qs (k / 3)))
        → bits (2 ^ (3 * q + 1) + middles qs) k ≡ (eqb (k % 3) 1 && (eqb q (k / 3) || has_qubit qs (k / 3)))
    go ih =
        let third : (3 * q + 1) / 3 ≡ q = omega arith in
        let one = eq-eqb ((3 * q + 1) % 3) 1 (omega arith) in
        let e : bits (middles qs) (3 * q + 1) ≡ false = ih (3 * q + 1)
        ∙ rw (one, third) (on_below d (suc q) q qs r.2 (omega arith)) in
        elim (ℕ_discrete k (3 * q + 1)) [
          | yes z ↦ rw z (bit_added (3 * q + 1) (middles qs) e ∙ rw (one, third, eq-eqb q q refl))
          | no z ↦ bit_other (3 * q + 1) k (middles qs) z e ∙ ih k ∙ apart k z
        ]

pub gate_masked : (n : ℕ) (g : Gate) → Placed n g → (q : ℕ)
    → Masked (bits (middles (qubits g))) (has_qubit (qubits g)) q
gate_masked n g p q =
    let m = mask (3 * n) 0 (qubits g) (gate_rising (3 * n) n g (omega arith) p) in
    let third : suc (3 * q) / 3 ≡ q = omega arith in
    record {
      input_out = m (3 * q) ∙ rw (ne_eqb (3 * q % 3) 1 (omega arith));
      middle_in = m (suc (3 * q)) ∙ rw (eq-eqb (suc (3 * q) % 3) 1 (omega arith), third);
      fresh_out = m (suc (suc (3 * q))) ∙ rw (ne_eqb (suc (suc (3 * q)) % 3) 1 (omega arith));
    }

gate_beyond : (n : ℕ) (g : Gate) → Placed n g → (k : ℕ) → 3 * n ≤ k → bits (middles (qubits g)) k ≡ false
gate_beyond n g p k l =
    mask (3 * n) 0 (qubits g) (gate_rising (3 * n) n g (omega arith) p) k
    ∙ rw (on_above n (k / 3) (qubits g) (rising_below n 0 (qubits g) (gate_rising (3 * n) n g (omega arith) p))
    (omega arith)) (and-false (eqb (k % 3) 1))

pub settings_thirds : (n : ℕ) (S U : Bits) (h k : Bits → Weight) (R : Bits → BasisState → Type 0)
    → ((q : ℕ) (b : Bool) (x : Bits) (m : BasisState) → R x m → R (assign (suc (3 * q)) b x) (assign q b m))
    → ((x : Bits) (m : BasisState) → R x m → h x ≡ k m)
    → ((q : ℕ) → Masked S U q) → (x : Bits) (m : BasisState) → R x m → settings (3 * n) S h x ≡ settings n U k m
unfolding settings
settings_thirds zero S U h k R on-set same masked x m r = same x m r
settings_thirds (suc n) S U h k R on-set same masked x m r =
    let three : 3 * suc n ≡ suc (suc (suc (3 * n))) = omega arith in
    let a = masked n in
    rw three (rw (a.fresh_out, a.middle_in, a.input_out) (go (U n) (settings_thirds n S U h k R on-set same masked)))
  where
    go : (b : Bool) → ((x : Bits) (m : BasisState) → R x m → settings (3 * n) S h x ≡ settings n U k m)
        → cond b (plus_w (settings (3 * n) S h (assign (suc (3 * n)) false x))
        (settings (3 * n) S h (assign (suc (3 * n)) true x))) (settings (3 * n) S h x)
        ≡ cond b (plus_w (settings n U k (assign n false m)) (settings n U k (assign n true m))) (settings n U k m)
    go true ih = ap₂ plus_w (ih _ _ (on-set n false x m r)) (ih _ _ (on-set n true x m r))
    go false ih = ih x m r

at_renamed : {d : ℕ} (n : ℕ) (qs : List ℕ) (A : Tensor d) (f : Bits) → 3 * n ≤ d → Each (λ q. q < n) qs
    → at (renamed_tensor qs A) f ≡ at A (raised qs f)
unfolding renamed_tensor raised
at_renamed n [] A f l e = refl
at_renamed n (q ∷ qs) A f l e =
    let z : 3 * q + 2 - 1 ≡ 3 * q + 1 = omega arith in
    at_renamed n qs (rename_down (3 * q + 2) A) f l e.1
    ∙ rename_down_at (3 * q + 2) A (raised qs f) (omega (arith, e.0))
    ∙ ap (λ j. at A (assign (3 * q + 2) (raised qs f j) (raised qs f))) z

pub raised_other : (qs : List ℕ) (f : Bits) (k : ℕ) → (k % 3 ≡ 2 → ⊥) → raised qs f k ≡ f k
unfolding raised
raised_other [] f k n = refl
raised_other (q ∷ qs) f k n = assign_other k (fresh q) _ _ (λ e. n (omega arith)) ∙ raised_other qs f k n

pub raised_fresh : (qs : List ℕ) (f : Bits) → Each (λ q. raised qs f (fresh q) ≡ f (middle q)) qs
unfolding raised
raised_fresh [] f = tt
raised_fresh (q ∷ qs) f = (here, each_map qs there (raised_fresh qs f))
  where
    here : assign (fresh q) (raised qs f (middle q)) (raised qs f) (fresh q) ≡ f (middle q)
    here = assign_at (fresh q) _ _ ∙ raised_other qs f (middle q) (λ e. omega arith)

    there : (p : ℕ) → raised qs f (fresh p) ≡ f (middle p)
        → assign (fresh q) (raised qs f (middle q)) (raised qs f) (fresh p) ≡ f (middle p)
    there p e =
        elim (ℕ_discrete p q) [
          | yes z ↦ rw z here
          | no z ↦ assign_other (fresh p) (fresh q) _ _ (λ u. z (omega arith))
              ∙ e
        ]

-- What one gate does to a tensor: its entries times the tensor's values, added over the middles of its qubits; their
-- fresh indices have what the middles had.
pub gate_applied : {d : ℕ} (n : ℕ) (g : Gate) (T : Tensor d) (f : Bits) → Placed n g → 3 * n ≤ d
    → at (applied_tensor g T) f
    ≡ settings (3 * n) (bits (middles (qubits g))) (λ x. times_w (entry g x) (at T x)) (raised (qubits g) f)
unfolding applied_tensor contracted_tensor
gate_applied {d} n g T f p l =
    let S = bits (middles (qubits g)) in
    at_renamed n (qubits g) (sum_over S (times (gate_tensor d g) T)) f l
    (rising_below n 0 (qubits g) (gate_rising (3 * n) n g (omega arith) p))
    ∙ at_sum_over S (times (gate_tensor d g) T) (raised (qubits g) f)
    ∙ ap (λ h. settings d S h (raised (qubits g) f)) (fun_ext (λ x. at_times (gate_tensor d g) T x
    ∙ ap (λ w. times_w w (at T x)) (gate_at d g (placed_fits d n g l p) x)))
    ∙ settings_beyond (3 * n) d S _ (raised (qubits g) f) l (gate_beyond n g p)

-- What the gate's matrix does on the left of a matrix: the entries are added over the gate's qubits.
pub gate_product : (n : ℕ) (g : Gate) (M : Operator) (o i : BasisState) → Placed n g → Sees n (λ m. M m i)
    → product n (gate_matrix n g) M o i
    ≡ settings n (has_qubit (qubits g)) (λ m. times_w (entry g (wires o m)) (M m i)) o
unfolding product gate_matrix
gate_product n g M o i p s =
    states_same n (λ m. cond_times (others n (qubits g) o m) (entry g (wires o m)) (M m i))
    ∙ sum_collapse n (qubits g) (λ m. times_w (entry g (wires o m)) (M m i)) o
    (λ a b e. ap₂ times_w (gate_entry_sees n g p o o a b (λ k p. refl) e) (s a b e))
