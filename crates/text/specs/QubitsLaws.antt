-- Laws of Qubits: the mask of the middles, and a placed gate's qubits.
use Rattle.std.specs.Prelude.{◌≡◌, refl, true, false, List, [], ◌∷◌, ℕ, ◌≤◌, ◌<◌, min, max, ◌+◌, ◌*◌, ◌^◌, ◌%◌, suc}
use Rattle.std.specs.Prelude.{◌/◌, zero, eqb}
use Rattle.std.proofs.Common.{ap, sym, subst, ◌∙◌, arith, pow-suc, eq-eqb}
use Rattle.std.proofs.lemmas.Bool.{eqb-false}
use Rattle.diagram.specs.Gate.{shape, ShapeBelow, GateBelow, first_qubit_on, second_qubit_on, AllBelowEight}
use Rattle.diagram.specs.Gate.{middles as middles_on}
use Rattle.diagram.specs.Tensor.{bits, index_count}
use Rattle.diagram.specs.Entry.{QubitsInRange}
use Rattle.text.specs.Limits.{most_qubits}
use Rattle.text.specs.Names.{PlacedOn, Placed}
use Rattle.text.specs.Check.{AllPlaced}
use Rattle.text.specs.Qubits.{QubitsOf, qubits_on, qubits, qubit_list, middles, Rising, AllSet}
use Rattle.text.specs.Qubits.{AllFit}
use Rattle.diagram.specs.declared.gate.Gate.{Gate}
use Rattle.diagram.specs.declared.gate.Shape.{Shape}
use Rattle.diagram.specs.declared.gate.Shape.TheVariants.{One, Two}

module _ (g : Gate) {x : Shape} (h : Placed most_qubits g) (e : x ≡ shape g) where
  placed : {y : Shape} → x ≡ y → PlacedOn most_qubits y
  placed f = subst (PlacedOn most_qubits) (sym e ∙ f) h

  listed_as : {y : Shape} → x ≡ y → qubits_on y ≡ qubits g
  listed_as f = ap qubits_on (sym f ∙ e)

  pub qubits_one : {q : ℕ} → x ≡ One q → QubitsOf g (One q)
  qubits_one f = record { is = listed_as f; below = placed f }

  pub qubits_two : {p q a b : ℕ} → x ≡ Two p q → a ≡ min p q → b ≡ max p q → QubitsOf g (Two a b)
  qubits_two f u v =
      let k = placed f in
      record { is = rw (u, v) (listed_as f); below = (rw u (omega arith), rw v (omega arith)) }

-- diagram's mask of a gate's middles is that of its qubits in a list
pub middles_listed : {m : ℕ} (x : Shape) → m ≡ middles_on x → m ≡ middles (qubit_list x)
unfolding middles
middles_listed (One q) e = omega (arith, e)
middles_listed (Two p q) e = omega (arith, e)

pub below_one : {q : ℕ} (x : Shape) → AllBelowEight x → x ≡ One q → q < most_qubits
below_one x b e = subst AllBelowEight e b

pub below_first : {p q : ℕ} (x : Shape) → AllBelowEight x → x ≡ Two p q → p < most_qubits
below_first x b e = (subst AllBelowEight e b).0

pub below_second : {p q : ℕ} (x : Shape) → AllBelowEight x → x ≡ Two p q → q < most_qubits
below_second x b e = (subst AllBelowEight e b).1

-- bits of a sum of powers of two

power_half : (k w : ℕ) → (2 ^ suc k + w) / 2 ≡ 2 ^ k + w / 2
power_half k w = let e = pow-suc 2 k in omega arith

pub bit_added : (k w : ℕ) → bits w k ≡ false → bits (2 ^ k + w) k ≡ true
unfolding bits
bit_added zero w e = let h = eqb-false (w % 2) 1 e in eq-eqb ((1 + w) % 2) 1 (omega (arith, h))
bit_added (suc k) w e = rw (power_half k w) (bit_added k (w / 2) e)

pub bit_other : (k j w : ℕ) → (j ≡ k → ⊥) → bits w k ≡ false → bits (2 ^ k + w) j ≡ bits w j
unfolding bits
bit_other zero zero w n e = absurd (n refl)
bit_other zero (suc j) w n e =
    let h = eqb-false (w % 2) 1 e in let p : (1 + w) / 2 ≡ w / 2 = omega (arith, h) in ap (λ x. bits x j) p
bit_other (suc k) zero w n e =
    let p = pow-suc 2 k in let q : (2 ^ suc k + w) % 2 ≡ w % 2 = omega arith in ap (λ x. eqb x 1) q
bit_other (suc k) (suc j) w n e = rw (power_half k w) (bit_other k j (w / 2) (λ p. n (ap suc p)) e)

-- below the first qubit's middle no bit is set
middles_below : (d least j : ℕ) (qs : List ℕ) → Rising d least qs → j < 3 * least + 1 → bits (middles qs) j ≡ false
unfolding middles bits
middles_below d least j [] r p = zero_bits j
  where
    zero_bits : (j : ℕ) → bits 0 j ≡ false
    zero_bits zero = refl
    zero_bits (suc j) = zero_bits j
middles_below d least j (q ∷ qs) r p =
    bit_other (3 * q + 1) j (middles qs) (λ e. omega arith)
    (middles_below d (suc q) (3 * q + 1) qs r.2 (omega arith))
    ∙ middles_below d (suc q) j qs r.2 (omega arith)

set_more : (d least x : ℕ) (w : ℕ) (qs : List ℕ) → Rising d least qs → x < least → bits w (3 * x + 1) ≡ false
    → AllSet qs (bits w) → AllSet qs (bits (2 ^ (3 * x + 1) + w))
set_more d least x w [] r p e s = tt
set_more d least x w (q ∷ qs) r p e s = (
  bit_other (3 * x + 1) (3 * q + 1) w (λ u. omega arith) e
      ∙ s.0,
  set_more d (suc q) x w qs r.2 (omega arith) e s.1,
)

pub middles_set : (d least : ℕ) (qs : List ℕ) → Rising d least qs → AllSet qs (bits (middles qs))
unfolding middles
middles_set d least [] r = tt
middles_set d least (q ∷ qs) r =
    let e = middles_below d (suc q) (3 * q + 1) qs r.2 (omega arith) in (
      bit_added (3 * q + 1) (middles qs) e,
      set_more d (suc q) q (middles qs) qs r.2 (omega arith) e (middles_set d (suc q) qs r.2),
    )

pub placed_allowed : (g : Gate) → Placed most_qubits g → QubitsInRange g
placed_allowed g p = let b = below (shape g) p in record { one = b.0; two = b.1 }
  where
    below : (x : Shape) → PlacedOn most_qubits x → (first_qubit_on x < most_qubits) × (second_qubit_on x < most_qubits)
    below (One q) p = (p, p)
    below (Two a b) p = (p.0, p.1.0)

-- with more qubits it stands as well
pub placed_more : {m n : ℕ} (g : Gate) → m ≤ n → Placed m g → Placed n g
placed_more {m} {n} g l p = on (shape g) p
  where
    on : (x : Shape) → PlacedOn m x → PlacedOn n x
    on (One q) p = omega arith
    on (Two a b) p = (omega arith, (omega arith, p.1.1))

-- its indices are below those of n qubits
pub placed_fits : (d n : ℕ) (g : Gate) → 3 * n ≤ d → Placed n g → GateBelow d g
placed_fits d n g l p = on (shape g) p
  where
    on : (x : Shape) → PlacedOn n x → ShapeBelow d x
    on (One q) p = omega arith
    on (Two a b) p = (omega arith, omega arith)

-- its qubits are in rising order, and fit into d indices
pub gate_rising : (d n : ℕ) (g : Gate) → 3 * n ≤ d → Placed n g → Rising d 0 (qubits g)
gate_rising d n g l p = on (shape g) p
  where
    on : (x : Shape) → PlacedOn n x → Rising d 0 (qubits_on x)
    on (One q) p = (omega arith, omega arith, tt)
    on (Two a b) p = (omega arith, omega arith, (omega (arith, p.1.1), omega arith, tt))

pub placed_fit : (n : ℕ) (gs : List Gate) → n ≤ most_qubits → AllPlaced n gs → AllFit index_count gs
placed_fit n [] l p = tt
placed_fit n (g ∷ gs) l p = (gate_rising index_count n g (omega arith) p.0, placed_fit n gs l p.1)
