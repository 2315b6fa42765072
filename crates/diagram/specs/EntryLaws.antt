-- Laws of a gate's entries: the code's arrays have them, and they depend on the indices that the gate uses alone.
use Rattle.std.specs.Prelude.{◌≡◌, refl, ◌≢◌, Bool, true, false, ◌&&◌, ◌||◌, not, List, [], map, ℕ, ◌+◌, ◌*◌, ◌/◌, ◌%◌}
use Rattle.std.specs.Prelude.{eqb, get_or}
use Rattle.std.proofs.Common.{ap, sym, ◌∙◌, true≢false, arith, eq-eqb, ne_eqb}
use Rattle.std.proofs.Math.ListN.{get_or-map}
use Rattle.std.proofs.lemmas.Bool.{eqb-false}
use Rattle.field.specs.Weight.{Weight, to_weight, 0w}
use Rattle.field.specs.Field.{Represents}
use Rattle.field.specs.RingLaws.{weight_number}
use Rattle.std.proofs.Math.Bool.{or-true}
use Rattle.diagram.specs.Tensor.{Bits, bits, middle, fresh, assign}
use Rattle.diagram.specs.TensorBitsLaws.{assign_other}
use Rattle.diagram.specs.Gate.{Matrix, numbers, matrix, bit, on_qubit, shape, Rule, rule, entry_on, entry}
use Rattle.diagram.specs.Gate.{first_qubit_on, second_qubit_on, first_qubit, second_qubit, by_bits, rule_table}
use Rattle.diagram.specs.Entry.{uses_index, AgreeOn}
use Rattle.diagram.specs.declared.gate.Gate.{Gate}
use Rattle.diagram.specs.declared.gate.Shape.{Shape}
use Rattle.diagram.specs.declared.gate.Shape.TheVariants.{One, Two}

pub bit_true : {r b : Bool} → r ≡ b → r ≡ true → 1 ≡ bit b
bit_true p e = rw (← p, e)

pub bit_false : {r b : Bool} → r ≡ b → r ≡ false → 0 ≡ bit b
bit_false p e = rw (← p, e)

number_represents : {r : ℕ} (w : Weight) → r ≡ w.number → Represents r w
number_represents w e = rw e record { small = w.small; is = weight_number w }

-- a gate on one qubit

numbers_at : (m : Matrix) (i j : ℕ) → get_or (get_or (numbers m) i []) j 0 ≡ (get_or (get_or m i []) j 0w).number
unfolding numbers 0w to_weight
numbers_at m i j =
    let number : Weight → ℕ = λ w. w.number in
    ap (λ l. get_or l j 0) (get_or-map (map number) m i []) ∙ get_or-map number (get_or m i []) j 0w

single_entry : (g : Gate) (f : Bits) → shape g ≡ One (first_qubit g) → entry g f ≡ on_qubit (matrix g) (first_qubit g) f
unfolding entry
single_entry g f p = ap (λ x. entry_on (matrix g) (rule g) x f) p

pub entry_single : (g : Gate) (v : ℕ) {q r : ℕ} {m : List (List ℕ)} → shape g ≡ One (first_qubit g) → q ≡ first_qubit g
    → m ≡ numbers (matrix g)
    → r ≡ get_or (get_or m (bit (bits v (fresh q))) []) (bit (bits v (middle q))) 0 → Represents r (entry g (bits v))
unfolding on_qubit
entry_single g v p q e t = number_represents (entry g (bits v))
    (t ∙ rw (e, q) (numbers_at (matrix g) _ _ ∙ ap (λ (w : Weight). w.number) (sym (single_entry g (bits v) p))))

-- a gate on two qubits

at_each : {A : Type 0} (f : Bool → Bool → A) (none : A) (x y : Bool)
    → get_or (by_bits f) (2 * bit x + bit y) none ≡ f x y
at_each f none false false = refl
at_each f none false true = refl
at_each f none true false = refl
at_each f none true true = refl

table_at : (r : Rule) (x y z w : Bool)
    → get_or (get_or (rule_table r) (2 * bit x + bit y) []) (2 * bit z + bit w) 0 ≡ (r x z y w).number
unfolding rule_table
table_at r x y z w =
    ap (λ l. get_or l (2 * bit z + bit w) 0) (at_each (λ x y. by_bits (λ z w. (r x z y w).number)) [] x y)
    ∙ at_each (λ z w. (r x z y w).number) 0 z w

double_entry : (g : Gate) (f : Bits) → shape g ≡ Two (first_qubit g) (second_qubit g)
    → entry g f ≡ rule g (f (fresh (first_qubit g))) (f (middle (first_qubit g))) (f (fresh (second_qubit g)))
    (f (middle (second_qubit g)))
unfolding entry
double_entry g f p = ap (λ x. entry_on (matrix g) (rule g) x f) p

pub entry_pair : {g h : Gate} (v : ℕ) {a b r : ℕ} {m : List (List ℕ)}
    → g ≡ h → shape h ≡ Two (first_qubit h) (second_qubit h) → m ≡ rule_table (rule h) → a ≡ first_qubit g
    → b ≡ second_qubit g
    → r ≡ get_or (get_or m (2 * bit (bits v (fresh a)) + bit (bits v (fresh b))) [])
    (2 * bit (bits v (middle a)) + bit (bits v (middle b))) 0
    → Represents r (entry g (bits v))
entry_pair {g} {h} v e p q x y t =
    number_represents (entry g (bits v))
    (t ∙ rw (q, x, y, e) (table_at (rule h) _ _ _ _ ∙ ap (λ (w : Weight). w.number) (sym (double_entry h (bits v) p))))

pub unused : (g : Gate) (k : ℕ) → (k % 3 ≢ 0 → (k / 3 ≢ first_qubit g) × (k / 3 ≢ second_qubit g))
    → uses_index g k ≡ false
unfolding uses_index
unused g k n = go (eqb (k % 3) 0) refl
  where
    go : (b : Bool) → eqb (k % 3) 0 ≡ b → not b && (eqb (k / 3) (first_qubit g) || eqb (k / 3) (second_qubit g)) ≡ false
    go true e = refl
    go false e =
        let m = n (eqb-false (k % 3) 0 e) in
        rw (ne_eqb (k / 3) (first_qubit g) m.0, ne_eqb (k / 3) (second_qubit g) m.1)

pub agree_entry : (g : Gate) (f h : Bits) → AgreeOn f h (first_qubit g) → AgreeOn f h (second_qubit g)
    → entry g f ≡ entry g h
unfolding entry
agree_entry g f h p r = on (shape g) p r
  where
    on : (x : Shape) → AgreeOn f h (first_qubit_on x) → AgreeOn f h (second_qubit_on x)
        → entry_on (matrix g) (rule g) x f ≡ entry_on (matrix g) (rule g) x h
    on (One q) p r = unfold on_qubit in rw (p.0, p.1)
    on (Two a b) p r = rw (p.0, p.1, r.0, r.1)

pub unused_entry : (g : Gate) (k : ℕ) (b : Bool) (f : Bits) → uses_index g k ≡ false
    → entry g (assign k b f) ≡ entry g f
unfolding uses_index
unused_entry g k b f e = agree_entry g (assign k b f) f (same (first_qubit g) left) (same (second_qubit g) right)
  where
    left : k % 3 ≢ 0 → k / 3 ≢ first_qubit g
    left n q = true≢false (sym (rw (ne_eqb (k % 3) 0 n, eq-eqb (k / 3) (first_qubit g) q)) ∙ e)

    right : k % 3 ≢ 0 → k / 3 ≢ second_qubit g
    right n q = true≢false (sym (rw (ne_eqb (k % 3) 0 n, eq-eqb (k / 3) (second_qubit g) q)
        (or-true (eqb (k / 3) (first_qubit g)))) ∙ e)

    same : (q : ℕ) → (k % 3 ≢ 0 → k / 3 ≢ q) → AgreeOn (assign k b f) f q
    same q n = (
      assign_other (fresh q) k b f (λ i. n (λ z. omega arith) (omega arith)),
      assign_other (middle q) k b f (λ i. n (λ z. omega arith) (omega arith)),
    )
