-- Verdict texts (document 01, "Verdicts"): "Text, split, parted and answered as in sessions".
use Rattle.std.specs.Prelude.{cond, ◌&&◌, Bool, not, List, [], ◌∷◌, ◌≡◌, ℕ, ◌+◌, ◌≤◌, ◌<◌, leb, ltb, length, drop, eqb}
use Rattle.std.specs.Prelude.{Option, Some, None, Result, Ok, Err, IfOk}
use Rattle.text.specs.Text.{Bytes, bytes, same_bytes, lines, fields, LF, known}
use Rattle.text.specs.Limits.{most_qubits, most_digits}
use Rattle.text.specs.Args.{one_number, numbers, one_or_two_numbers}
use Rattle.text.specs.Names.{one_qubit, two_qubits, Placed, placed_gate, placed_as}
use Rattle.text.specs.Split.{part, Ends}
use Rattle.text.specs.declared.args.Args.{Args}
use Rattle.text.specs.declared.args.Args.TheVariants.{Zero}
use Rattle.text.specs.declared.check.Fault.{Fault}
use Rattle.text.specs.declared.check.Item.{Item}
use Rattle.text.specs.declared.check.Fault.TheVariants.{Line, Qubit, Equal, Parting, Header as BadHeader}
use Rattle.diagram.specs.declared.gate.Gate.{Gate}
use Rattle.text.specs.declared.check.FaultAt.{FaultAt}
use Rattle.text.specs.declared.check.Checked.{Checked}
use Rattle.text.specs.declared.check.Item.TheVariants as item
use Rattle.text.specs.declared.names.Misplaced.{Misplaced}
use Rattle.text.specs.declared.names.Misplaced.TheVariants as misplaced

-- "`lines` and n (1 to 8)": the first line
unfoldable pub header_numbers : Args → Option ℕ
header_numbers = one_number None (λ n. cond (leb 1 n && leb n most_qubits) (Some n) None)

unfoldable pub header_fields : List Bytes → Option ℕ
header_fields [] = None
header_fields (word ∷ more) =
    cond (same_bytes word (bytes "lines")) (known None (numbers most_digits (Some Zero) more) header_numbers) None

unfoldable pub header_of : Bytes → Option ℕ
header_of line = header_fields (fields line)

-- the item, if a test holds; else a fault
abbrev pub ensured : Bool → Fault → Result Item Fault → Result Item Fault
ensured test fault next = cond test next (Err fault)

-- "12 (qubit not below n), 13 (qubits equal)"
abbrev pub fault_of : Misplaced → Fault
fault_of misplaced.Qubit = Qubit
fault_of misplaced.Equal = Equal

-- "within a gate line 11 (unknown name, ..), 12 (qubit not below n), 13 (qubits equal)"
abbrev pub one_qubit_item : ℕ → ℕ → Option Gate → Result Item Fault
one_qubit_item n q name = known (Err Line) name (λ g. ensured (ltb q n) Qubit (Ok (item.Gate g)))

abbrev pub two_qubit_item : ℕ → ℕ → ℕ → Option Gate → Result Item Fault
two_qubit_item n p q name =
    known (Err Line) name
    (λ g. ensured (ltb p n) Qubit (ensured (ltb q n) Qubit (ensured (not (eqb p q)) Equal (Ok (item.Gate g)))))

-- the same of either count, where the gate's qubits are checked as `placed_gate` does
abbrev pub item_placed_as : Result Gate Misplaced → Result Item Fault
item_placed_as = placed_as (λ g. Ok (item.Gate g)) (λ m. Err (fault_of m))

abbrev pub named_item : ℕ → Option Gate → Result Item Fault
named_item n name = known (Err Line) name (λ g. item_placed_as (placed_gate n g))

-- ".. wrong count of fields .."
unfoldable pub gate_item_of : ℕ → Bytes → Args → Result Item Fault
gate_item_of n name =
    one_or_two_numbers (Err Line)
    (λ q. one_qubit_item n q (one_qubit name q))
    (λ p q. two_qubit_item n p q (two_qubits name p q))

-- "gate lines, name then qubits as single digits": numbers of one digit
unfoldable pub gate_item_fields : ℕ → List Bytes → Result Item Fault
gate_item_fields n [] = Err Line
gate_item_fields n (name ∷ qubits) = known (Err Line) (numbers 1 (Some Zero) qubits) (gate_item_of n name)

-- a line after the first: "a line `=`", or a gate line
unfoldable pub item_of : ℕ → Bytes → Result Item Fault
item_of n line = cond (same_bytes line (bytes "=")) (Ok item.Parting) (gate_item_fields n (fields line))

-- What a text says: two lists of gates on n qubits, or its first fault and the line of it, "line counted from 1".
pub data Reading : Type 0 where
  lists : ℕ → List Gate → List Gate → Reading
  fault : Fault → ℕ → Reading

unfoldable pub with_first : Gate → Reading → Reading
with_first g (lists n gs hs) = lists n (g ∷ gs) hs
with_first g (fault f at) = fault f at

unfoldable pub with_second : Gate → Reading → Reading
with_second g (lists n gs hs) = lists n gs (g ∷ hs)
with_second g (fault f at) = fault f at

-- a line of the second list, and what follows it: "14 a second `=`, at its own line"
unfoldable pub second_item : Result Item Fault → ℕ → Reading → Reading
second_item (Ok (item.Gate g)) at more = with_second g more
second_item (Ok item.Parting) at more = fault Parting at
second_item (Err f) at more = fault f at

-- the lines after `=`, the first of which has the number `at`
unfoldable pub second_list : ℕ → ℕ → List Bytes → Reading
second_list n at [] = lists n [] []
second_list n at (line ∷ ls) = second_item (item_of n line) at (second_list n (at + 1) ls)

-- a line of the first list, and what follows it as part of the same list, or after an `=`
unfoldable pub first_item : Result Item Fault → ℕ → Reading → Reading → Reading
first_item (Ok (item.Gate g)) at more after = with_first g more
first_item (Ok item.Parting) at more after = after
first_item (Err f) at more after = fault f at

-- the lines before `=`: "or no `=`, at the line after the last". "Either list may be empty."
unfoldable pub first_list : ℕ → ℕ → List Bytes → Reading
first_list n at [] = fault Parting at
first_list n at (line ∷ ls) = first_item (item_of n line) at (first_list n (at + 1) ls) (second_list n (at + 1) ls)

unfoldable pub after_header : Option ℕ → List Bytes → Reading
after_header None ls = fault BadHeader 1
after_header (Some n) ls = first_list n 2 ls

-- "Empty text is 10 at 1."
unfoldable pub read_lines : List Bytes → Reading
read_lines [] = fault BadHeader 1
read_lines (line ∷ ls) = after_header (header_of line) ls

-- "All lines are read before any gate runs; the first faulty line decides."
unfoldable pub read_text : Bytes → Reading
read_text text = read_lines (lines text)

abbrev pub good : ℕ → ℕ → ℕ → Result Checked FaultAt
good n parting count = Ok (record { n = n; parting = parting; count = count })

abbrev pub faulty : {A : Type 0} → Fault → ℕ → Result A FaultAt
faulty f line = Err (record { fault = f; line = line })

-- the same without the gates: n, the line of `=` and the number of lines; or the fault and its line
abbrev pub checked_of : Reading → Result Checked FaultAt
checked_of (lists n gs hs) = good n (2 + length gs) (2 + length gs + length hs)
checked_of (fault f at) = faulty f at

-- What the code promises.

-- a first line is read: its n is 1 to 8
abbrev pub HeaderInRange : Option ℕ → Type 0
HeaderInRange (Some n) = (1 ≤ n) × (n ≤ most_qubits)
HeaderInRange None = Unit

pub record HeaderRead (line : Bytes) (r : Option ℕ) : Type 0 where
  pub header : r ≡ header_of line
  pub ranged : HeaderInRange r

-- another line is read: its gate is on qubits below n
abbrev pub PlacedItem : ℕ → Result Item Fault → Type 0
PlacedItem n (Ok (item.Gate g)) = Placed n g
PlacedItem n (Ok item.Parting) = Unit
PlacedItem n (Err f) = Unit

pub record ItemRead (n : ℕ) (line : Bytes) (r : Result Item Fault) : Type 0 where
  pub item : r ≡ item_of n line
  pub placed : PlacedItem n r

-- a good gate line is read again
abbrev pub IsGate : Result Item Fault → Type 0
IsGate (Ok (item.Gate g)) = Unit
IsGate (Ok item.Parting) = ⊥
IsGate (Err f) = ⊥

pub record GateRead (n : ℕ) (line : Bytes) (g : Gate) : Type 0 where
  pub gate : item_of n line ≡ Ok (item.Gate g)
  pub placed : Placed n g

-- a whole text is read
abbrev pub CheckedInRange : Checked → Type 0
CheckedInRange r = (1 ≤ r.n) × (r.n ≤ most_qubits)

pub record TextRead (text : Bytes) (r : Result Checked FaultAt) : Type 0 where
  pub checked : r ≡ checked_of (read_text text)
  pub ranged : IfOk r CheckedInRange

-- after a line: the line of `=` so far, or the line's fault
abbrev pub parting_after : Result Item Fault → Option ℕ → ℕ → Result (Option ℕ) FaultAt
parting_after (Ok (item.Gate g)) parting line = Ok parting
parting_after (Ok item.Parting) None line = Ok (Some line)
parting_after (Ok item.Parting) (Some p) line = faulty Parting line
parting_after (Err f) parting line = faulty f line

unfoldable pub continue_check : Result (Option ℕ) FaultAt → (Option ℕ → Result Checked FaultAt) → Result Checked FaultAt
continue_check (Ok parting) more = more parting
continue_check (Err f) more = Err f

unfoldable pub checked_at_end : ℕ → Option ℕ → ℕ → Result Checked FaultAt
checked_at_end n None count = faulty Parting (count + 1)
checked_at_end n (Some parting) count = good n parting count

-- the lines after the first `count`: their numbers alone are kept, not their gates
unfoldable pub check_lines : ℕ → Option ℕ → ℕ → List Bytes → Result Checked FaultAt
check_lines n parting count [] = checked_at_end n parting count
check_lines n parting count (line ∷ ls) =
    continue_check (parting_after (item_of n line) parting (count + 1)) (λ p. check_lines n p (count + 1) ls)

-- `check_lines` has read `count` lines of s, and `rest` is left.
pub record CheckLoop (n : ℕ) (s : Bytes) (a0 : ℕ) (rest : Bytes) (count : ℕ) (parting : Option ℕ) : Type 0 where
  pub small : count + length rest ≤ length s + 1
  pub same : check_lines n parting count (lines rest) ≡ check_lines n None 1 (lines (drop a0 s))

-- lines after the first, each as what it is
unfoldable pub items : ℕ → List Bytes → List (Result Item Fault)
items n [] = []
items n (line ∷ ls) = item_of n line ∷ items n ls

unfoldable pub gate_items : List Gate → List (Result Item Fault)
gate_items [] = []
gate_items (g ∷ gs) = Ok (item.Gate g) ∷ gate_items gs

-- a line of known items is there, is the first of them, and the others follow
pub record NextItem (n : ℕ) (s : Bytes) (a : ℕ) (i : Result Item Fault) (more : List (Result Item Fault)) : Type 0 where
  pub inside : a < length s
  pub here : {e : ℕ} → Ends LF s a e → item_of n (part s a e) ≡ i
  pub on : {e : ℕ} → Ends LF s a e → items n (lines (drop (e + 1) s)) ≡ more

-- what `check` says of a good text
pub record GoodText (s : Bytes) (n parting count : ℕ) : Type 0 where
  pub first : List Gate
  pub second : List Gate
  pub text : read_text s ≡ lists n first second
  pub place : parting ≡ 2 + length first
  pub last : count ≡ 2 + length first + length second

-- gates on qubits below n
abbrev pub AllPlaced : ℕ → List Gate → Type 0
AllPlaced n [] = Unit {0}
AllPlaced n (g ∷ gs) = Placed n g × AllPlaced n gs

-- The two lists of a good text are on n qubits, at most 8, and every gate is on qubits below n.
pub record GoodLists (n : ℕ) (gs hs : List Gate) : Type 0 where
  pub within_most_qubits : n ≤ most_qubits
  pub first : AllPlaced n gs
  pub second : AllPlaced n hs

-- the lines after `=` give no gate to the first list
abbrev pub NoFirst : Reading → Type 0
NoFirst (lists n gs hs) = gs ≡ []
NoFirst (fault f at) = Unit
