-- Laws of Check: a line of a verdict text, read once and again.
use Rattle.std.specs.Prelude.{◌≡◌, refl, Bool, true, false, not, cond, ◌&&◌, ◌≢◌, List, [], ◌∷◌, ℕ, eqb, leb}
use Rattle.std.specs.Prelude.{Option, Some, None, Result, Ok, Err, take}
use Rattle.std.proofs.Common.{sym, ◌∙◌, arith, ltb-true, leb-true}
use Rattle.std.proofs.lemmas.Bool.{eqb-false}
use Rattle.text.specs.Text.{Bytes, bytes, same_bytes, fields, tab, known}
use Rattle.text.specs.Limits.{most_qubits, most_digits}
use Rattle.text.specs.Args.{numbers}
use Rattle.text.specs.Names.{one_qubit, two_qubits}
use Rattle.text.specs.Check.{ensured, PlacedItem, one_qubit_item, two_qubit_item, gate_item_of, gate_item_fields}
use Rattle.text.specs.Check.{item_of, named_item}
use Rattle.text.specs.Check.{ItemRead, GateRead, header_numbers, header_fields, HeaderInRange, header_of, HeaderRead}
use Rattle.text.specs.Split.{Ends, fields_after}
use Rattle.text.specs.SplitLaws.{fields_first, part_front}
use Rattle.text.specs.ArgsLaws.{by_count_lem, known_lem}
use Rattle.text.specs.NamesLaws.{one_placed, known_placed, two_placed, one_placed_as, two_placed_as}
use Rattle.text.specs.declared.check.Fault.{Fault}
use Rattle.text.specs.declared.check.Item.{Item}
use Rattle.text.specs.declared.args.Args.{Args}
use Rattle.text.specs.declared.args.Args.TheVariants.{Zero}
use Rattle.diagram.specs.declared.gate.Gate.{Gate}
use Rattle.text.specs.declared.check.Item.TheVariants as item
use Rattle.text.specs.declared.check.Fault.TheVariants.{Line}

-- the gate of a name: its qubits are checked as `placed_gate` does
module _ (n : ℕ) (s : Bytes) where
  pub one_item_as : (q : ℕ) → named_item n (one_qubit s q) ≡ one_qubit_item n q (one_qubit s q)
  one_item_as q = go (one_qubit s q) refl
    where
      go : (name : Option Gate) → one_qubit s q ≡ name → named_item n name ≡ one_qubit_item n q name
      go None e = refl
      go (Some g) e = one_placed_as _ _ n s q e

  pub two_item_as : (p q : ℕ) → named_item n (two_qubits s p q) ≡ two_qubit_item n p q (two_qubits s p q)
  two_item_as p q = go (two_qubits s p q) refl
    where
      go : (name : Option Gate) → two_qubits s p q ≡ name → named_item n name ≡ two_qubit_item n p q name
      go None e = refl
      go (Some g) e = two_placed_as _ _ n s p q e

-- The gate of a line is placed on n qubits.

ensured_placed : (n : ℕ) (test : Bool) (f : Fault) (next : Result Item Fault) → (test ≡ true → PlacedItem n next)
    → PlacedItem n (ensured test f next)
ensured_placed n true f next h = h refl
ensured_placed n false f next h = tt

unequal : (p q : ℕ) → not (eqb p q) ≡ true → p ≢ q
unequal p q e = go (eqb p q) refl e
  where
    go : (t : Bool) → eqb p q ≡ t → not t ≡ true → p ≢ q
    go true h e = let z : ◌≡◌ {A = ℕ} 0 1 = cc in absurd (omega arith)
    go false h e = eqb-false p q h

one_item : (n q : ℕ) (name : Bytes) → PlacedItem n (one_qubit_item n q (one_qubit name q))
one_item n q name =
    known_placed (PlacedItem n) _ _ tt (one_placed n name q) (λ g x. ensured_placed n _ _ _ (λ h. x (ltb-true q n h)))

two_item : (n p q : ℕ) (name : Bytes) → PlacedItem n (two_qubit_item n p q (two_qubits name p q))
two_item n p q name =
    known_placed (PlacedItem n) _ _ tt (two_placed n name p q)
    (λ g x. ensured_placed n _ _ _ (λ h. ensured_placed n _ _ _ (λ k.
    ensured_placed n _ _ _ (λ e. x (ltb-true p n h, (ltb-true q n k, unequal p q e))))))

numbers_placed : (n : ℕ) (name : Bytes) (args : Args) → PlacedItem n (gate_item_of n name args)
unfolding gate_item_of
numbers_placed n name args =
    by_count_lem (PlacedItem n) _ (λ q. one_qubit_item n q (one_qubit name q))
    (λ p q. two_qubit_item n p q (two_qubits name p q)) _ _ tt (λ q. one_item n q name) (λ p q. two_item n p q name)
    (λ a b c. tt) (λ a b c d. tt) args

fields_placed : (n : ℕ) (fs : List Bytes) → PlacedItem n (gate_item_fields n fs)
unfolding gate_item_fields
fields_placed n [] = tt
fields_placed n (name ∷ qs) =
    known_lem (PlacedItem n) _ _ tt (numbers_placed n name) (numbers 1 (Some Zero) qs)

pub item_placed : (n : ℕ) (line : Bytes) → PlacedItem n (item_of n line)
unfolding item_of
item_placed n line = go (same_bytes line (bytes "="))
  where
    go : (t : Bool) → PlacedItem n (cond t (Ok item.Parting) (gate_item_fields n (fields line)))
    go true = tt
    go false = fields_placed n (fields line)

pub item_read : {n : ℕ} {line : Bytes} {r : Result Item Fault} → r ≡ item_of n line → ItemRead n line r
item_read {n} {line} e = record { item = e; placed = rw e (item_placed n line) }

pub gate_read : {n : ℕ} {line : Bytes} {r : Result Item Fault} {g : Gate} → ItemRead n line r
    → r ≡ Ok (item.Gate g) → GateRead n line g
gate_read i e = record { gate = sym i.item ∙ e; placed = rw e at i.placed }

pub item_parting : (n : ℕ) (s : Bytes) → same_bytes s (bytes "=") ≡ true → Ok item.Parting ≡ item_of n s
unfolding item_of
item_parting n s t = rw t

pub item_gate : (n : ℕ) {s : Bytes} {e : ℕ} → Ends tab s 0 e → same_bytes s (bytes "=") ≡ false
    → known (Err Line) (numbers 1 (Some Zero) (fields_after s e)) (gate_item_of n (take e s)) ≡ item_of n s
unfolding item_of gate_item_fields
item_gate n {s} {e} r t = rw (t, fields_first (omega arith) r, part_front s e)

-- The first line's n is 1 to 8.

numbers_ranged : (x : Args) → HeaderInRange (header_numbers x)
unfolding header_numbers
numbers_ranged =
    by_count_lem HeaderInRange None (λ n. cond (leb 1 n && leb n most_qubits) (Some n) None) _ _ _ tt
    (λ n. go n (leb 1 n) (leb n most_qubits) refl refl) (λ a b. tt) (λ a b c. tt) (λ a b c d. tt)
  where
    go : (n : ℕ) (t u : Bool) → leb 1 n ≡ t → leb n most_qubits ≡ u → HeaderInRange (cond (t && u) (Some n) None)
    go n true true p q = (leb-true 1 n p, leb-true n most_qubits q)
    go n true false p q = tt
    go n false u p q = tt

header_ranged : (fs : List Bytes) → HeaderInRange (header_fields fs)
unfolding header_fields
header_ranged [] = tt
header_ranged (word ∷ more) = go (same_bytes word (bytes "lines"))
  where
    go : (t : Bool) → HeaderInRange
        (cond t (known None (numbers most_digits (Some Zero) more) header_numbers) None)
    go true = known_lem HeaderInRange _ _ tt numbers_ranged (numbers most_digits (Some Zero) more)
    go false = tt

pub header_read : {line : Bytes} {r : Option ℕ} → r ≡ header_of line → HeaderRead line r
unfolding header_of
header_read {line} e = record { header = e; ranged = rw e (header_ranged (fields line)) }

-- as the code has it: none of no numbers
pub header_known : {o : Option Args} {x : Args} → Some x ≡ o → header_numbers x ≡ known None o header_numbers
header_known e = rw (← e)

pub header_unknown : {o : Option Args} → None ≡ o → None ≡ known None o header_numbers
header_unknown e = rw (← e)

pub header_lines : {s : Bytes} {e : ℕ} → Ends tab s 0 e → same_bytes (take e s) (bytes "lines") ≡ true
    → known None (numbers most_digits (Some Zero) (fields_after s e)) header_numbers ≡ header_of s
unfolding header_of header_fields
header_lines {s} {e} w t = rw (fields_first (omega arith) w, part_front s e, t)

pub header_other : {s : Bytes} {e : ℕ} → Ends tab s 0 e → same_bytes (take e s) (bytes "lines") ≡ false
    → None ≡ header_of s
unfolding header_of header_fields
header_other {s} {e} w t = rw (fields_first (omega arith) w, part_front s e, t)
