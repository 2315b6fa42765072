-- The line that a verdict names is one of the text's, or the one after the last.
use mathlib.Core.List.{List, [], ◌∷◌, ◌++◌}
use Rattle.std.specs.Prelude.{Option, Some, None, Result, Ok, Err}
use Rattle.std.proofs.Math.Path.{◌≡◌}
use Rattle.std.proofs.Common.{subst}
use Rattle.std.specs.Prelude.{ℕ, ◌+◌, ◌≤◌, suc, length}
use native.Mathlib.Omega.{arith}
use Rattle.text.specs.Text.{Bytes, lines}
use Rattle.text.specs.Session.{Capacity, Tally, TallyReply, answer, empty_tally}
use Rattle.text.specs.Check.{Reading, lists, fault, item_of, with_second, second_item, second_list, with_first}
use Rattle.text.specs.Check.{first_item, first_list, header_of, after_header, read_lines, read_text}
use Rattle.text.specs.VerdictSession.{NumberedCall, at_line, gate_calls, gates_calls, list_calls, session_calls}
use Rattle.text.specs.VerdictSession.{PerformResult, refused_at, continue_with, perform}
use Rattle.text.specs.SplitLaws.{lines_count}
use Rattle.text.specs.declared.check.Item.{Item}
use Rattle.text.specs.declared.check.Fault.{Fault}
use Rattle.diagram.specs.declared.gate.Gate.{Gate}
use Rattle.text.specs.declared.call.Call.{Call}
use Rattle.text.specs.declared.call.Refusal.{Refusal}
use Rattle.text.specs.declared.check.Item.TheVariants as item

-- Reading the lines ls, the first of which has the number `at`: k of them and the gates' lines are there; or a fault
-- is at one of them or the next
abbrev LinesWithin : ℕ → ℕ → List Bytes → Reading → Type 0
LinesWithin k at ls (lists n gs hs) = k + (length gs + length hs) ≤ length ls
LinesWithin k at ls (fault f line) = line ≤ at + length ls

second_within : (n at : ℕ) (ls : List Bytes) → LinesWithin 0 at ls (second_list n at ls)
unfolding second_list second_item with_second
second_within n at [] = omega arith
second_within n at (line ∷ ls) = go (item_of n line) (second_list n (at + 1) ls) (second_within n (at + 1) ls)
  where
    go : (i : Result Item Fault) (r : Reading) → LinesWithin 0 (at + 1) ls r
        → LinesWithin 0 at (line ∷ ls) (second_item i at r)
    go (Ok (item.Gate g)) (lists m gs hs) h = omega arith
    go (Ok (item.Gate g)) (fault f l) h = omega arith
    go (Ok item.Parting) r h = omega arith
    go (Err f) r h = omega arith

first_within : (n at : ℕ) (ls : List Bytes) → LinesWithin 1 at ls (first_list n at ls)
unfolding first_list first_item with_first
first_within n at [] = omega arith
first_within n at (line ∷ ls) =
    go (item_of n line) (first_list n (at + 1) ls) (first_within n (at + 1) ls) (second_list n (at + 1) ls)
    (second_within n (at + 1) ls)
  where
    go : (i : Result Item Fault) (r : Reading) → LinesWithin 1 (at + 1) ls r → (q : Reading)
        → LinesWithin 0 (at + 1) ls q
        → LinesWithin 1 at (line ∷ ls) (first_item i at r q)
    go (Ok (item.Gate g)) (lists m gs hs) h q k = omega arith
    go (Ok (item.Gate g)) (fault f l) h q k = omega arith
    go (Ok item.Parting) r h (lists m gs hs) k = omega arith
    go (Ok item.Parting) r h (fault f l) k = omega arith
    go (Err f) r h q k = omega arith

reading_within : (ls : List Bytes) → LinesWithin 2 1 ls (read_lines ls)
unfolding read_lines
reading_within [] = omega arith
reading_within (line ∷ ls) = go (header_of line)
  where
    one_more : (r : Reading) → LinesWithin 1 2 ls r → LinesWithin 2 1 (line ∷ ls) r
    one_more (lists n gs hs) h = omega arith
    one_more (fault f l) h = omega arith

    go : (h : Option ℕ) → LinesWithin 2 1 (line ∷ ls) (after_header h ls)
    go None = unfold after_header in omega arith
    go (Some n) = unfold after_header in one_more (first_list n 2 ls) (first_within n 2 ls)

-- "or no `=`, at the line after the last"
pub fault_line : (text : Bytes) {f : Fault} {line : ℕ} → read_text text ≡ fault f line → line ≤ length text + 1
unfolding read_text
fault_line text e =
    omega (arith, subst (LinesWithin 2 1 (lines text)) e (reading_within (lines text)), lines_count text)

lists_lines : (text : Bytes) {n : ℕ} {gs hs : List Gate} → read_text text ≡ lists n gs hs
    → 2 + (length gs + length hs) ≤ length text
unfolding read_text
lists_lines text e =
    omega (arith, subst (LinesWithin 2 1 (lines text)) e (reading_within (lines text)), lines_count text)

-- Running: each call is of a line up to m
abbrev AllMost : ℕ → List NumberedCall → Type 0
AllMost m [] = Unit {0}
AllMost m ((line, x) ∷ xs) = (line ≤ m) × AllMost m xs

most_append : (m : ℕ) (xs ys : List NumberedCall) → AllMost m xs → AllMost m ys → AllMost m (xs ++ ys)
most_append m [] ys p q = q
most_append m ((line, x) ∷ xs) ys p q = (p.0, most_append m xs ys p.1 q)

most_line : (m line : ℕ) (cs : List Call) → line ≤ m → AllMost m (at_line line cs)
unfolding at_line
most_line m line [] h = tt
most_line m line (x ∷ cs) h = (h, most_line m line cs h)

most_gates : (m r line : ℕ) (gs : List Gate) → line + length gs ≤ suc m → AllMost m (gates_calls r line gs)
unfolding gates_calls
most_gates m r line [] h = tt
most_gates m r line (g ∷ gs) h =
    most_append m (at_line line (gate_calls r g)) (gates_calls r (line + 1) gs)
    (most_line m line (gate_calls r g) (omega arith)) (most_gates m r (line + 1) gs (omega arith))

most_list : (m r n line : ℕ) (gs : List Gate) → line + length gs ≤ m → AllMost m (list_calls r n line gs)
unfolding list_calls
most_list m r n line gs h = (omega arith, most_gates m r (line + 1) gs (omega arith))

most_session : (n : ℕ) (gs hs : List Gate) → AllMost (2 + (length gs + length hs)) (session_calls n gs hs)
unfolding session_calls
most_session n gs hs =
    most_append _ (list_calls 0 n 1 gs) (list_calls 1 n (length gs + 2) hs) (most_list _ 0 n 1 gs (omega arith))
    (most_list _ 1 n (length gs + 2) hs (omega arith))

module _ {d : ℕ} (c : Capacity) (m line : ℕ) (r : Refusal) where
  continue_most : (l : ℕ) → l ≤ m → (y : TallyReply d) (f : Tally d → PerformResult d)
      → ((t : Tally d) → f t ≡ refused_at line r → line ≤ m)
      → continue_with l y f ≡ refused_at line r → line ≤ m
  unfolding continue_with
  continue_most l p (Ok a, t) f h e = h t e
  continue_most l p (Err x, t) f h e = let z : l ≡ line = cc in omega arith

  perform_most : (xs : List NumberedCall) → AllMost m xs → (t : Tally d) → perform c xs t ≡ refused_at line r → line ≤ m
  unfolding perform
  perform_most [] p t e = absurd (let z : ◌≡◌ {A = ℕ} 0 1 = cc in omega arith)
  perform_most ((l, x) ∷ xs) p t e = continue_most l p.0 (answer c x t) (perform c xs) (perform_most xs p.1) e

-- "8 full, at the line being run"
pub full_line : {d : ℕ} (c : Capacity) (text : Bytes) {n : ℕ} {gs hs : List Gate} {line : ℕ} {r : Refusal}
    → read_text text ≡ lists n gs hs
    → perform {d = d} c (session_calls n gs hs) empty_tally ≡ refused_at line r → line ≤ length text
full_line c text {n} {gs} {hs} {line} {r} e q =
    let m = perform_most c (2 + (length gs + length hs)) line r (session_calls n gs hs) (most_session n gs hs)
    empty_tally
    q in
    omega (arith, m, lists_lines text e)
