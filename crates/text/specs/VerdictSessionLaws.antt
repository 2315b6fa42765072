-- Laws of VerdictSession: both lists run, or the session is refused as full; what is compared are the lists' tensors.
use Rattle.std.specs.Prelude.{◌≡◌, refl, List, [], ◌∷◌, ℕ, ◌+◌, ◌≤◌, length, get_or}
use Rattle.std.specs.Prelude.{Option, Some, None, Result, Ok, Err}
use Rattle.text.specs.declared.check.Fault.{Fault}
use Rattle.std.proofs.Common.{sym, ◌∙◌, arith}
use Rattle.std.proofs.Math.Option.{none, some}
use Rattle.diagram.specs.Gate.{unit_tensor}
use Rattle.diagram.specs.Tensor.{Tensor, indices, indices_count, index_count}
use Rattle.text.specs.Text.{Bytes, lines}
use Rattle.text.specs.Limits.{register_count, most_qubits}
use Rattle.text.specs.Session.{empty_tally, unlimited, Capacity, answer, with_register, with_tensor}
use Rattle.text.specs.Check.{AllPlaced, Reading, lists, fault, item_of, with_second, second_item, second_list}
use Rattle.text.specs.Check.{PlacedItem, with_first, first_item, first_list, GoodLists, HeaderInRange, header_of}
use Rattle.text.specs.Check.{after_header, read_lines, read_text}
use Rattle.text.specs.Qubits.{AllFit}
use Rattle.text.specs.VerdictSession.{PerformResult, register_tensor, list_tensor, list_calls, session_calls, perform}
use Rattle.text.specs.VerdictSession.{ruling_at_end, ruling_of_reading, ruling_on}
use Rattle.text.specs.Apply.{applied_list}
use Rattle.text.specs.Runs.{full, AllCallsRun, end, HoldsList, HoldsBoth, GoodTextRuling, was_full, was_compared}
use Rattle.text.specs.CheckLaws.{item_placed, header_read}
use Rattle.text.specs.QubitsLaws.{placed_fit}
use Rattle.text.specs.RunsLaws.{list_runs, runs_append, runs_less}
use Rattle.diagram.specs.declared.gate.Gate.{Gate}
use Rattle.text.specs.declared.check.Item.{Item}
use Rattle.text.specs.declared.check.Item.TheVariants as item

start_sixteen : (d : ℕ) → length (empty_tally {d = d}).registers ≡ register_count
unfolding empty_tally
start_sixteen d = refl

start_empty : (d : ℕ) → get_or (empty_tally {d = d}).registers 1 none ≡ none
unfolding empty_tally
start_empty d = refl

-- "A list's tensor is the one its register ends with at unlimited capacity": it is got from the unit by one gate after
-- another
pub list_tensor_lem : (d n : ℕ) (gs : List Gate) → AllFit d gs
    → list_tensor d n gs ≡ some (applied_list gs (unit_tensor d n))
unfolding list_tensor
list_tensor_lem d n gs u =
    go (list_runs 0 1 none (omega arith) (omega arith) (λ e. omega arith) unlimited n 1 gs empty_tally u
    (start_sixteen d) (start_empty d))
  where
    go : {x : PerformResult d} → AllCallsRun unlimited (HoldsList 0 (applied_list gs (unit_tensor d n)) 1 none) x
        → register_tensor 0 x ≡ some (applied_list gs (unit_tensor d n))
    go (full l) = absurd l
    go (end h) = h.here

-- In the session that two lists stand for no call is refused except as 8, and none at unlimited capacity; and registers
-- 0 and 1 end with the lists' tensors.
pub session_runs : {d : ℕ} (c : Capacity) (n : ℕ) (gs hs : List Gate) → AllFit d gs → AllFit d hs
    → AllCallsRun c (HoldsBoth (applied_list gs (unit_tensor d n)) (applied_list hs (unit_tensor d n)))
    (perform c (session_calls n gs hs) empty_tally)
unfolding session_calls
session_runs {d} c n gs hs u v =
    let T = applied_list gs (unit_tensor d n) in
    let U = applied_list hs (unit_tensor d n) in
    runs_append (HoldsList 0 T 1 none) (HoldsBoth T U) (list_calls 0 n 1 gs) (list_calls 1 n (length gs + 2) hs)
    empty_tally
    (list_runs 0 1 none (omega arith) (omega arith) (λ e. omega arith) c n 1 gs empty_tally u (start_sixteen d)
    (start_empty d))
    (λ t h. runs_less (list_runs 1 0 (some T) (omega arith) (omega arith) (λ e. omega arith) c n (length gs + 2) hs t v
    h.sixteen h.here) (λ l h. record { first = h.there; second = h.here }))

-- what a reading says of its lists
abbrev GoodReading : ℕ → Reading → Type 0
GoodReading n (lists m gs hs) = (m ≡ n) × AllPlaced n gs × AllPlaced n hs
GoodReading n (fault f line) = Unit {0}

second_good : (n at : ℕ) (ls : List Bytes) → GoodReading n (second_list n at ls)
unfolding second_list second_item with_second
second_good n at [] = (refl, tt, tt)
second_good n at (line ∷ ls) =
    go (item_of n line) (item_placed n line) (second_list n (at + 1) ls) (second_good n (at + 1) ls)
  where
    go : (i : Result Item Fault) → PlacedItem n i → (r : Reading) → GoodReading n r → GoodReading n (second_item i at r)
    go (Ok (item.Gate g)) p (lists m gs hs) h = (h.0, h.1, (p, h.2))
    go (Ok (item.Gate g)) p (fault f line) h = tt
    go (Ok item.Parting) p r h = tt
    go (Err f) p r h = tt

first_good : (n at : ℕ) (ls : List Bytes) → GoodReading n (first_list n at ls)
unfolding first_list first_item with_first
first_good n at [] = tt
first_good n at (line ∷ ls) =
    go (item_of n line) (item_placed n line) (first_list n (at + 1) ls) (first_good n (at + 1) ls)
    (second_list n (at + 1) ls) (second_good n (at + 1) ls)
  where
    go : (i : Result Item Fault) → PlacedItem n i → (r : Reading) → GoodReading n r → (q : Reading) → GoodReading n q
        → GoodReading n (first_item i at r q)
    go (Ok (item.Gate g)) p (lists m gs hs) h q k = (h.0, (p, h.1), h.2)
    go (Ok (item.Gate g)) p (fault f line) h q k = tt
    go (Ok item.Parting) p r h q k = k
    go (Err f) p r h q k = tt

pub good_lists : (text : Bytes) {n : ℕ} {gs hs : List Gate} → read_text text ≡ lists n gs hs → GoodLists n gs hs
unfolding read_text
good_lists text {n} {gs} {hs} e = by_lines (lines text) e
  where
    by_reading : (m : ℕ) (r : Reading) → (1 ≤ m) × (m ≤ most_qubits) → GoodReading m r → r ≡ lists n gs hs
        → GoodLists n gs hs
    by_reading m (lists k gs' hs') l h q =
        let same : m ≡ n = sym h.0 ∙ cc in
        let firsts : gs' ≡ gs = cc in
        let seconds : hs' ≡ hs = cc in
        record {
          within_most_qubits = omega arith;
          first = rw (same, firsts) at h.1;
          second = rw (same, seconds) at h.2;
        }
    by_reading m (fault f line) l h q = absurd (let z : ◌≡◌ {A = ℕ} 0 1 = cc in omega arith)

    by_header : (h : Option ℕ) → HeaderInRange h → (ls : List Bytes) → after_header h ls ≡ lists n gs hs
        → GoodLists n gs
        hs
    by_header None l ls q = absurd (let z : ◌≡◌ {A = ℕ} 0 1 = unfold after_header in cc in omega arith)
    by_header (Some m) l ls q = by_reading m (first_list m 2 ls) l (first_good m 2 ls) (unfold after_header in q)

    by_lines : (ls : List Bytes) → read_lines ls ≡ lists n gs hs → GoodLists n gs hs
    by_lines [] q = absurd (let z : ◌≡◌ {A = ℕ} 0 1 = unfold read_lines in cc in omega arith)
    by_lines (line ∷ ls) q =
        by_header (header_of line) (header_read {line = line} refl).ranged ls (unfold read_lines in q)

ruling_both : {d : ℕ} (c : Capacity) (T U : Tensor d) {x : PerformResult d} → AllCallsRun c (HoldsBoth T U) x
    → GoodTextRuling c T U (ruling_at_end c x)
unfolding ruling_at_end answer with_register with_tensor
ruling_both c T U (full {line = line} l) = was_full line l
ruling_both c T U (end {t = t} b) = rw (b.first, b.second) was_compared

pub ruling_judged : (c : Capacity) (text : Bytes) {n : ℕ} {gs hs : List Gate} → read_text text ≡ lists n gs hs
    → GoodTextRuling c (applied_list gs (unit_tensor indices n)) (applied_list hs (unit_tensor indices n))
    (ruling_on indices c text)
unfolding ruling_on ruling_of_reading
ruling_judged c text {n} {gs} {hs} e =
    let g = good_lists text e in
    rw e
    (ruling_both c (applied_list gs (unit_tensor indices n)) (applied_list hs (unit_tensor indices n))
    (session_runs c n gs hs (fit gs (placed_fit n gs g.within_most_qubits g.first))
    (fit hs (placed_fit n hs g.within_most_qubits g.second))))
  where
    fit : (gs : List Gate) → AllFit index_count gs → AllFit indices gs
    fit gs f = rw indices_count f
