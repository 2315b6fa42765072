-- A faulty text is answered by its fault, which is never that it is full.
use Rattle.std.specs.Prelude.{◌≡◌, refl, Bool, true, false, cond, List, [], ◌∷◌, ℕ, ◌+◌, ltb}
use Rattle.std.specs.Prelude.{Option, Some, None, Result, Ok, Err}
use Rattle.std.proofs.Common.{sym, subst, ◌∙◌}
use Rattle.diagram.specs.Tensor.{indices, Tensor}
use Rattle.text.specs.Text.{Bytes, bytes, same_bytes, fields, lines}
use Rattle.text.specs.Args.{numbers}
use Rattle.text.specs.Names.{one_qubit, two_qubits}
use Rattle.text.specs.Session.{Capacity, unlimited}
use Rattle.text.specs.Check.{fault, read_text, Reading, lists, ensured, one_qubit_item, two_qubit_item, gate_item_of}
use Rattle.text.specs.Check.{gate_item_fields, item_of, with_second, second_item, second_list, with_first, first_item}
use Rattle.text.specs.Check.{first_list, header_of, after_header, read_lines}
use Rattle.text.specs.Ruling.{Ruling, no_at}
use Rattle.text.specs.VerdictSession.{ruling_of_reading, ruling_on}
use Rattle.text.specs.VerdictMeaning.{NotFull}
use Rattle.text.specs.Runs.{GoodTextRuling, was_full, was_compared}
use Rattle.text.specs.ArgsLaws.{by_count_lem, known_lem}
use Rattle.text.specs.VerdictSessionLaws.{ruling_judged}
use Rattle.text.specs.declared.args.Args.{Args}
use Rattle.text.specs.declared.check.Fault.{Fault}
use Rattle.text.specs.declared.check.Item.{Item}
use Rattle.diagram.specs.declared.gate.Gate.{Gate}
use Rattle.text.specs.declared.args.Args.TheVariants.{Zero}
use Rattle.text.specs.declared.check.Fault.TheVariants as faults
use Rattle.text.specs.declared.check.Item.TheVariants as item

-- A text with a fault is answered by it: "the first faulty line decides".
pub verdict_fault : (c : Capacity) (text : Bytes) {f : Fault} {line : ℕ} → read_text text ≡ fault f line
    → ruling_on indices c text ≡ no_at f line
unfolding ruling_on ruling_of_reading
verdict_fault c text e = rw e

-- No fault of a text is that it is full.

abbrev Early : Fault → Type 0
Early faults.Header = Unit
Early faults.Line = Unit
Early faults.Qubit = Unit
Early faults.Equal = Unit
Early faults.Parting = Unit
Early faults.Full = ⊥

abbrev EarlyItem : Result Item Fault → Type 0
EarlyItem (Ok (item.Gate g)) = Unit
EarlyItem (Ok item.Parting) = Unit
EarlyItem (Err f) = Early f

abbrev EarlyReading : Reading → Type 0
EarlyReading (lists n gs hs) = Unit
EarlyReading (fault f line) = Early f

abbrev EarlyRuling : Ruling → Type 0
EarlyRuling (Ok r) = Unit
EarlyRuling (Err at) = Early at.fault

ensured_early : (test : Bool) (f : Fault) (next : Result Item Fault) → Early f → EarlyItem next
    → EarlyItem (ensured test f next)
ensured_early true f next p q = q
ensured_early false f next p q = p

one_early : (n q : ℕ) (x : Option Gate) → EarlyItem (one_qubit_item n q x)
one_early n q = known_lem EarlyItem _ _ tt (λ g. ensured_early (ltb q n) faults.Qubit (Ok (item.Gate g)) tt tt)

two_early : (n p q : ℕ) (x : Option Gate) → EarlyItem (two_qubit_item n p q x)
two_early n p q =
    known_lem EarlyItem _ _ tt
    (λ g. ensured_early (ltb p n) faults.Qubit _ tt
    (ensured_early (ltb q n) faults.Qubit _ tt (ensured_early _ faults.Equal (Ok (item.Gate g)) tt tt)))

numbers_early : (n : ℕ) (name : Bytes) (x : Args) → EarlyItem (gate_item_of n name x)
unfolding gate_item_of
numbers_early n name =
    by_count_lem EarlyItem _ (λ q. one_qubit_item n q (one_qubit name q))
    (λ p q. two_qubit_item n p q (two_qubits name p q)) _
    _ tt
    (λ q. one_early n q (one_qubit name q)) (λ p q. two_early n p q (two_qubits name p q)) (λ a b c. tt) (λ a b c d. tt)

fields_early : (n : ℕ) (fs : List Bytes) → EarlyItem (gate_item_fields n fs)
unfolding gate_item_fields
fields_early n [] = tt
fields_early n (name ∷ qs) = known_lem EarlyItem _ _ tt (numbers_early n name) (numbers 1 (Some Zero) qs)

item_early : (n : ℕ) (line : Bytes) → EarlyItem (item_of n line)
unfolding item_of
item_early n line = go (same_bytes line (bytes "="))
  where
    go : (t : Bool) → EarlyItem (cond t (Ok item.Parting) (gate_item_fields n (fields line)))
    go true = tt
    go false = fields_early n (fields line)

second_early : (n at : ℕ) (ls : List Bytes) → EarlyReading (second_list n at ls)
unfolding second_list second_item with_second
second_early n at [] = tt
second_early n at (line ∷ ls) =
    go (item_of n line) (item_early n line) (second_list n (at + 1) ls) (second_early n (at + 1) ls)
  where
    go : (i : Result Item Fault) → EarlyItem i → (r : Reading) → EarlyReading r → EarlyReading (second_item i at r)
    go (Ok (item.Gate g)) p (lists m gs hs) h = tt
    go (Ok (item.Gate g)) p (fault f line) h = h
    go (Ok item.Parting) p r h = tt
    go (Err f) p r h = p

first_early : (n at : ℕ) (ls : List Bytes) → EarlyReading (first_list n at ls)
unfolding first_list first_item with_first
first_early n at [] = tt
first_early n at (line ∷ ls) =
    go (item_of n line) (item_early n line) (first_list n (at + 1) ls) (first_early n (at + 1) ls)
    (second_list n (at + 1) ls) (second_early n (at + 1) ls)
  where
    go : (i : Result Item Fault) → EarlyItem i → (r : Reading) → EarlyReading r → (q : Reading) → EarlyReading q
        → EarlyReading (first_item i at r q)
    go (Ok (item.Gate g)) p (lists m gs hs) h q k = tt
    go (Ok (item.Gate g)) p (fault f line) h q k = h
    go (Ok item.Parting) p r h q k = k
    go (Err f) p r h q k = p

reading_early : (text : Bytes) → EarlyReading (read_text text)
unfolding read_text
reading_early text = by_lines (lines text)
  where
    by_header : (h : Option ℕ) (ls : List Bytes) → EarlyReading (after_header h ls)
    by_header None ls = unfold after_header in tt
    by_header (Some m) ls = unfold after_header in first_early m 2 ls

    by_lines : (ls : List Bytes) → EarlyReading (read_lines ls)
    by_lines [] = unfold read_lines in tt
    by_lines (line ∷ ls) = unfold read_lines in by_header (header_of line) ls

-- At unlimited capacity nothing is refused as full.
pub verdict_never_full : (text : Bytes) → NotFull unlimited text
verdict_never_full text line q = go (read_text text) refl (reading_early text)
  where
    judged_early : {d : ℕ} {T U : Tensor d} {r : Ruling} → GoodTextRuling unlimited T U r → EarlyRuling r
    judged_early (was_full line l) = absurd l
    judged_early was_compared = tt

    go : (r : Reading) → read_text text ≡ r → EarlyReading r → ⊥
    go (lists n gs hs) e h = subst EarlyRuling q (judged_early (ruling_judged unlimited text e))
    go (fault f at) e h = subst EarlyRuling (sym (verdict_fault unlimited text e) ∙ q) h
