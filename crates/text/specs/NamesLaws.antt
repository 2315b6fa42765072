-- Laws of Names: a gate that a name gives is placed where its qubits are in range.
use Rattle.std.specs.Prelude.{◌≡◌, refl, Bool, true, false, cond, ◌≢◌, ℕ, ◌<◌, Option, Some, None, IfSome}
use Rattle.std.specs.Prelude.{not, ltb, eqb, Ok, Err}
use Rattle.diagram.specs.Gate.{shape}
use Rattle.text.specs.Text.{Bytes, same_bytes, known}
use Rattle.text.specs.Names.{PlacedName, choose_name, Placed, one_qubit, two_qubits, placed_gate, placed_as}
use Rattle.text.specs.declared.names.Misplaced.{Misplaced}
use Rattle.text.specs.declared.names.Misplaced.TheVariants.{Qubit, Equal}
use Rattle.diagram.specs.declared.gate.Gate.{Gate as Gate'}
use Rattle.diagram.specs.declared.gate.Gate.TheVariants as gate
use Rattle.diagram.specs.declared.gate.Shape.{Shape}
use Rattle.diagram.specs.declared.gate.Shape.TheVariants.{One, Two}

choose_placed : {n : ℕ} {condition : Type 0} (s name : Bytes) (g : Gate') (other : Option Gate')
    → (condition → Placed n g)
    → PlacedName n condition other
    → PlacedName n condition (choose_name s name g other)
choose_placed {n} {condition} s name g other x y = go (same_bytes s name)
  where
    go : (t : Bool) → PlacedName n condition (cond t (Some g) other)
    go true = record { place = x }
    go false = y

pub one_placed : (n : ℕ) (s : Bytes) (q : ℕ) → PlacedName n (q < n) (one_qubit s q)
unfolding one_qubit
one_placed n s q =
    choose_placed s _ (gate.X q) _ (λ h. h)
    (choose_placed s _ (gate.Y q) _ (λ h. h)
    (choose_placed s _ (gate.Z q) _ (λ h. h)
    (choose_placed s _ (gate.H q) _ (λ h. h)
    (choose_placed s _ (gate.S q) _ (λ h. h)
    (choose_placed s _ (gate.Sd q) _ (λ h. h)
    (choose_placed s _ (gate.T q) _ (λ h. h)
    (choose_placed s _ (gate.Td q) _ (λ h. h)
    (record { place = tt }))))))))

pub two_placed : (n : ℕ) (s : Bytes) (p q : ℕ) → PlacedName n ((p < n) × ((q < n) × (p ≢ q))) (two_qubits s p q)
unfolding two_qubits
two_placed n s p q =
    choose_placed s _ (gate.Cx p q) _ (λ h. h)
    (choose_placed s _ (gate.Cz p q) _ (λ h. h)
    (choose_placed s _ (gate.Sw p q) _ (λ h. h)
    (record { place = tt })))

-- so what a line says of it may count on that
pub known_placed : {A : Type 0} (P : A → Type 0) (wrong : A) (next : Gate' → A) {n : ℕ} {condition : Type 0}
    {name : Option Gate'} → P wrong
    → PlacedName n condition name
    → ((g : Gate') → (condition → Placed n g) → P (next g)) → P (known wrong name next)
known_placed P wrong next {name = None} p x f = p
known_placed P wrong next {name = Some g} p x f = f g x.place

-- a gate that a name gives has as many qubits as its name says

abbrev Shaped : Shape → Option Gate' → Type 0
Shaped x name = IfSome name (λ g. shape g ≡ x)

choose_shape : {x : Shape} (s name : Bytes) (g : Gate') (other : Option Gate') → shape g ≡ x → Shaped x other
    → Shaped x (choose_name s name g other)
choose_shape {x} s name g other e h = go (same_bytes s name)
  where
    go : (t : Bool) → Shaped x (cond t (Some g) other)
    go true = e
    go false = h

one_shape : (s : Bytes) (q : ℕ) → Shaped (One q) (one_qubit s q)
unfolding one_qubit
one_shape s q =
    choose_shape s _ (gate.X q) _ refl
    (choose_shape s _ (gate.Y q) _ refl
    (choose_shape s _ (gate.Z q) _ refl
    (choose_shape s _ (gate.H q) _ refl
    (choose_shape s _ (gate.S q) _ refl
    (choose_shape s _ (gate.Sd q) _ refl
    (choose_shape s _ (gate.T q) _ refl
    (choose_shape s _ (gate.Td q) _ refl tt)))))))

two_shape : (s : Bytes) (p q : ℕ) → Shaped (Two p q) (two_qubits s p q)
unfolding two_qubits
two_shape s p q =
    choose_shape s _ (gate.Cx p q) _ refl
    (choose_shape s _ (gate.Cz p q) _ refl
    (choose_shape s _ (gate.Sw p q) _ refl tt))

-- so its qubits are those that its line names, and `placed_gate` checks them from the left
module _ {A : Type 0} (ok : Gate' → A) (wrong : Misplaced → A) (n : ℕ) (s : Bytes) {g : Gate'} where
  pub one_placed_as : (q : ℕ) → one_qubit s q ≡ Some g
      → placed_as ok wrong (placed_gate n g) ≡ cond (ltb q n) (ok g) (wrong Qubit)
  unfolding placed_gate
  one_placed_as q e = let f : shape g ≡ One q = rw e at (one_shape s q) in rw f (go (ltb q n))
    where
      go : (b : Bool) → placed_as ok wrong (cond b (Ok g) (Err Qubit)) ≡ cond b (ok g) (wrong Qubit)
      go true = refl
      go false = refl

  pub two_placed_as : (p q : ℕ) → two_qubits s p q ≡ Some g
      → placed_as ok wrong (placed_gate n g)
      ≡ cond (ltb p n) (cond (ltb q n) (cond (not (eqb p q)) (ok g) (wrong Equal)) (wrong Qubit)) (wrong Qubit)
  unfolding placed_gate
  two_placed_as p q e =
      let f : shape g ≡ Two p q = rw e at (two_shape s p q) in rw f (go (ltb p n) (ltb q n) (eqb p q))
    where
      go : (b c same : Bool)
          → placed_as ok wrong (cond b (cond c (cond same (Err Equal) (Ok g)) (Err Qubit)) (Err Qubit))
          ≡ cond b (cond c (cond (not same) (ok g) (wrong Equal)) (wrong Qubit)) (wrong Qubit)
      go true true true = refl
      go true true false = refl
      go true false same = refl
      go false c same = refl
