-- Running the lists of a verdict's text line by line, as the code does it.
use Rattle.std.specs.Prelude.{List, ◌++◌, [], ◌∷◌, ◌≡◌, Bool, false, ℕ, ◌+◌, ◌≤◌, ◌<◌, length, drop}
use Rattle.std.specs.Prelude.{Result, Ok, is_err, ⊤}
use Rattle.text.specs.declared.check.Fault.{Fault}
use Rattle.diagram.specs.Node.{capacity}
use Rattle.text.specs.Text.{Bytes, LF, lines}
use Rattle.text.specs.Limits.{most_qubits}
use Rattle.text.specs.Ruling.{Ruling}
use Rattle.text.specs.Session.{Capacity, at_most}
use Rattle.text.specs.Check.{item_of, items, gate_items}
use Rattle.text.specs.VerdictSession.{NumberedCall, gate_calls, at_line, gates_calls, list_calls}
use Rattle.text.specs.Split.{end_from, part}
use Rattle.text.specs.Engine.{contents, EngineInvariant, KeepsEngine, IsEngine}
use Rattle.text.specs.declared.engine.Contents.{Contents}
use Rattle.text.specs.Perform.{PerformState, ruling_from}
use Rattle.text.specs.declared.list.Lists.{Lists}
use Rattle.text.specs.declared.call.Refusal.{Refusal}
use Rattle.diagram.specs.declared.gate.Gate.{Gate}
use Rattle.text.specs.declared.check.Item.{Item}
use Rattle.text.specs.declared.call.Call.TheVariants as call
use Rattle.text.specs.declared.check.Item.TheVariants as item

-- where the run of the lists stands: `line` lines were run, the last of them refused or not; the next begins at `place`
pub record ListState : Type 0 where
  pub refused : Bool
  pub line : ℕ
  pub place : ℕ
  pub engine : Contents

abbrev pub list_state_of : PerformState → ℕ → ℕ → ListState
list_state_of r line place = record { refused = r.refused; line = line; place = place; engine = r.engine }

-- the final ruling from here, where these calls follow
unfoldable pub ruling_from_state : Capacity → List NumberedCall → List ℕ → ListState → Ruling
ruling_from_state c more s x = ruling_from c x.line more s (record { refused = x.refused; engine = x.engine })

-- the calls xs were run, whatever follows
pub record PerformsLines (s c' s' : List ℕ) (a : ListState) (xs : List NumberedCall) (x : ListState) : Type 0 where
  pub invariant : EngineInvariant c' s' x.engine
  pub is : (more : List NumberedCall)
      → ruling_from_state (at_most (capacity s)) (xs ++ more) s a ≡ ruling_from_state (at_most (capacity s)) more s' x

-- where the next line begins
abbrev pub next_line : Bytes → ℕ → ℕ
next_line text place = end_from LF text place + 1

-- a line is at hand, and none was refused
pub record LineAhead (text : Bytes) (a : ListState) : Type 0 where
  pub not_refused : a.refused ≡ false
  pub inside : a.place < length text
  pub passed : a.line ≤ a.place

-- the line was run
pub record LinePassed (text : Bytes) (a x : ListState) : Type 0 where
  pub place : x.place ≡ next_line text a.place
  pub line : x.line ≡ a.line + 1
  pub passed : x.line ≤ x.place

pub record OpenEnsures (text : Bytes) (n r : ℕ) (s c' s' : List ℕ) (a x : ListState) : Type 0 where
  pub passes : LinePassed text a x
  pub performs : PerformsLines s c' s' a ((a.line + 1, call.Unit r n) ∷ []) x

-- the line at hand is a gate line
pub record GateRequires (text : Bytes) (n : ℕ) (a : ListState) : Type 0 where
  pub ahead : LineAhead text a
  pub gate : Gate
  pub is : item_of n (part text a.place (end_from LF text a.place)) ≡ Ok (item.Gate gate)

pub record GateEnsures (text : Bytes) (n r : ℕ) (s c' s' : List ℕ) (a x : ListState) : Type 0 where
  pub passes : LinePassed text a x
  pub performs : (g : Gate) → item_of n (part text a.place (end_from LF text a.place)) ≡ Ok (item.Gate g)
      → PerformsLines s c' s' a (at_line (a.line + 1) (gate_calls r g)) x

-- a list of a verdict's text: `count` gate lines on so many qubits, run in a register
pub record GateList : Type 0 where
  pub text : Bytes
  pub qubits : ℕ
  pub register : ℕ
  pub count : ℕ

abbrev pub gate_list : Bytes → ℕ → ℕ → ℕ → GateList
gate_list text n r count = record { text = text; qubits = n; register = r; count = count }

-- the items of the text from this place on
abbrev pub items_from : GateList → ℕ → List (Result Item Fault)
items_from l place = items l.qubits (lines (drop place l.text))

-- the list's gate lines begin at this place: these gates, and other items after them
pub record GateLines (l : GateList) (place : ℕ) (gs : List Gate) (rest : List (Result Item Fault)) : Type 0 where
  pub is : items_from l place ≡ gate_items gs ++ rest
  pub long : length gs ≡ l.count

-- the list's gate lines are at hand
pub record GatesRequires (l : GateList) (a : ListState) : Type 0 where
  pub first : List Gate
  pub rest : List (Result Item Fault)
  pub are : GateLines l a.place first rest
  pub passed : a.line ≤ a.place

-- the list's head line is at hand, and its gate lines after it
pub record ListRequires (l : GateList) (a : ListState) : Type 0 where
  pub ahead : LineAhead l.text a
  pub first : List Gate
  pub rest : List (Result Item Fault)
  pub are : GateLines l (next_line l.text a.place) first rest

-- What of a list is run: its gate lines, which begin at `place`, and perhaps lines before them. They are so many in
-- all, and `calls` are the calls of all of them.
pub record ListPart : Type 0 where
  pub place : ℕ
  pub count : ℕ
  pub calls : List Gate → List NumberedCall

abbrev pub gates_part : GateList → ListState → ListPart
gates_part l a = record { place = a.place; count = l.count; calls = gates_calls l.register (a.line + 1) }

abbrev pub whole_part : GateList → ListState → ListPart
whole_part l a = record {
  place = next_line l.text a.place;
  count = 1 + l.count;
  calls = list_calls l.register l.qubits (a.line + 1);
}

-- so many lines are passed, and the items `rest` are ahead
pub record ListEnds (l : GateList) (count : ℕ) (rest : List (Result Item Fault)) (a x : ListState) : Type 0 where
  pub next : items_from l x.place ≡ rest
  pub line : x.line ≡ a.line + count

-- the lines were run, whatever their gates; where none was refused, what follows them is ahead
pub record LinesEnsures (l : GateList) (k : ListPart) (s c' s' : List ℕ) (a x : ListState) : Type 0 where
  pub invariant : EngineInvariant c' s' x.engine
  pub passed : x.line ≤ x.place
  pub performs : (gs : List Gate) (rest : List (Result Item Fault)) → GateLines l k.place gs rest
      → PerformsLines s c' s' a (k.calls gs) x
  pub ends : (gs : List Gate) (rest : List (Result Item Fault)) → GateLines l k.place gs rest → x.refused ≡ false
      → ListEnds l k.count rest a x

-- the list's gates
abbrev pub GatesEnsures : GateList → List ℕ → List ℕ → List ℕ → ListState → ListState → Type 0
GatesEnsures l s c' s' a x = LinesEnsures l (gates_part l a) s c' s' a x

-- the list's head line, and then its gates
abbrev pub ListEnsures : GateList → List ℕ → List ℕ → List ℕ → ListState → ListState → Type 0
ListEnsures l s c' s' a x = LinesEnsures l (whole_part l a) s c' s' a x

-- the loop over a list's gate lines, whose gates are gs: those in `left` are still to be run
pub record GatesReached (l : GateList) (a : ListState) (s₀ : List ℕ) (gs : List Gate)
    (rest : List (Result Item Fault)) (s : List ℕ)
    (p : ListState) : Type 0 where
  pub left : List Gate
  pub counted : p.line + length left ≡ a.line + l.count
  pub next : items_from l p.place ≡ gate_items left ++ rest
  pub is : (more : List NumberedCall)
      → ruling_from_state (at_most (capacity s₀)) (gates_calls l.register (a.line + 1) gs ++ more) s₀ a
      ≡ ruling_from_state (at_most (capacity s₀)) (gates_calls l.register (p.line + 1) left ++ more) s p

pub record GatesLoop (l : GateList) (a : ListState) (s₀ c s : List ℕ) (i : ℕ) (p : ListState) : Type 0 where
  pub invariant : EngineInvariant c s p.engine
  pub long : length s ≡ length s₀
  pub within : i ≤ l.count
  pub passed : p.line ≤ p.place
  pub line : p.line ≡ a.line + i
  pub each : (gs : List Gate) (rest : List (Result Item Fault)) → GateLines l a.place gs rest
      → GatesReached l a s₀ gs rest s p

-- the same, of the lists l before the call and l' after it

-- "n 1 to 8"
abbrev pub IsLists : Lists → Type 0
IsLists l = IsEngine l.engine × ((1 ≤ l.qubits) × (l.qubits ≤ most_qubits))

-- where the run stands, the last line refused or not
abbrev pub stand : Bool → Lists → ListState
stand refused l = record { refused = refused; line = l.line; place = l.place; engine = contents l.engine }

abbrev pub part_of : Lists → ℕ → ℕ → GateList
part_of l r count = gate_list l.text.now l.qubits r count

abbrev pub IsAhead : Lists → Type 0
IsAhead l = LineAhead l.text.now (stand false l)

abbrev pub IsGateAhead : Lists → Type 0
IsGateAhead l = GateRequires l.text.now l.qubits (stand false l)

abbrev pub GatesAhead : Lists → ℕ → ℕ → Type 0
GatesAhead l r count = GatesRequires (part_of l r count) (stand false l)

abbrev pub ListAhead : Lists → ℕ → ℕ → Type 0
ListAhead l r count = ListRequires (part_of l r count) (stand false l)

pub record KeepsText (l l' : Lists) : Type 0 where
  pub engine : KeepsEngine l.engine l'.engine
  pub same_text : l'.text.now ≡ l.text.now
  pub same_qubits : l'.qubits ≡ l.qubits

-- the line at hand was passed, and nothing else is changed
pub record PassesLine (l l' : Lists) (passed : Bytes) : Type 0 where
  pub is : passed ≡ part l.text.now l.place (end_from LF l.text.now l.place)
  pub place : l'.place ≡ next_line l.text.now l.place
  pub line : l'.line ≡ l.line + 1
  pub same_engine : l'.engine ≡ l.engine

abbrev pub Opens : Lists → Lists → ℕ → Result ⊤ Refusal → Type 0
Opens l l' r x = OpenEnsures l.text.now l.qubits r l.engine.diagram.now.store.now l'.engine.diagram.now.cache.now
    l'.engine.diagram.now.store.now (stand false l) (stand (is_err x) l')

abbrev pub RunsGate : Lists → Lists → ℕ → Result ⊤ Refusal → Type 0
RunsGate l l' r x = GateEnsures l.text.now l.qubits r l.engine.diagram.now.store.now l'.engine.diagram.now.cache.now
    l'.engine.diagram.now.store.now (stand false l) (stand (is_err x) l')

abbrev pub RunsGates : Lists → Lists → ℕ → ℕ → Result ⊤ Refusal → Type 0
RunsGates l l' r count x =
    GatesEnsures (part_of l r count) l.engine.diagram.now.store.now l'.engine.diagram.now.cache.now
    l'.engine.diagram.now.store.now (stand false l) (stand (is_err x) l')

abbrev pub RunsList : Lists → Lists → ℕ → ℕ → Result ⊤ Refusal → Type 0
RunsList l l' r count x = ListEnsures (part_of l r count) l.engine.diagram.now.store.now l'.engine.diagram.now.cache.now
    l'.engine.diagram.now.store.now (stand false l) (stand (is_err x) l')
