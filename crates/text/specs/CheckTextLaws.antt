-- A verdict text checked line by line, with the numbers of lines alone, is what the definition says.
use Rattle.std.specs.Prelude.{◌≡◌, refl, List, [], ◌∷◌, ◌++◌, ℕ, ◌+◌, suc, ◌≤◌, ◌<◌, ◌-◌, length, drop, min}
use Rattle.std.specs.Prelude.{Option, Some, None, Result, Ok, Err, IfOk, take}
use Rattle.std.proofs.Common.{ap, ◌∙◌, arith, length-append, length-drop, length-take-le, drop_of_length-le, take_all}
use Rattle.std.proofs.Math.Decide.{dec_lt}
use Rattle.text.specs.Text.{Bytes, LF, lines}
use Rattle.text.specs.Limits.{most_qubits}
use Rattle.text.specs.Check.{Reading, lists, fault, parting_after, continue_check, checked_at_end, check_lines, item_of}
use Rattle.text.specs.Check.{with_second, second_item, second_list, NoFirst, with_first, first_item, first_list}
use Rattle.text.specs.Check.{CheckLoop, ItemRead, read_lines, read_text, TextRead, after_header, HeaderRead}
use Rattle.text.specs.Check.{CheckedInRange, checked_of, HeaderInRange, good, faulty}
use Rattle.text.specs.Split.{Ends, line_of}
use Rattle.text.specs.SplitLaws.{lines_first, lines_none, part_front}
use Rattle.text.specs.declared.check.Checked.{Checked}
use Rattle.text.specs.declared.check.FaultAt.{FaultAt}
use Rattle.text.specs.declared.check.Item.{Item}
use Rattle.diagram.specs.declared.gate.Gate.{Gate}
use Rattle.text.specs.declared.check.Fault.{Fault}
use Rattle.text.specs.declared.check.Fault.TheVariants.{Header as BadHeader}
use Rattle.text.specs.declared.check.Item.TheVariants as item

-- It is what the definition says.

abbrev second_of : ℕ → ℕ → Reading → Result Checked FaultAt
second_of parting count (lists n gs hs) = good n parting (count + length hs)
second_of parting count (fault f at) = faulty f at

abbrev first_of : ℕ → Reading → Result Checked FaultAt
first_of count (lists n gs hs) = good n (count + 1 + length gs) (count + 1 + length gs + length hs)
first_of count (fault f at) = faulty f at

check_second : (n p count : ℕ) (ls : List Bytes)
    → check_lines n (Some p) count ls ≡ second_of p count (second_list n (count + 1) ls)
unfolding check_lines checked_at_end continue_check second_list second_item with_second
check_second n p count [] = let e : count + 0 ≡ count = omega arith in rw e
check_second n p count (line ∷ ls) = go (item_of n line) (check_second n p (count + 1) ls)
  where
    more : (g : Gate) (r : Reading) → second_of p (count + 1) r ≡ second_of p count (with_second g r)
    more g (lists m gs hs) = ap (good m p) {x = count + 1 + length hs} {y = count + suc (length hs)} (omega arith)
    more g (fault f at) = refl

    go : (i : Result Item Fault)
        → check_lines n (Some p) (count + 1) ls ≡ second_of p (count + 1) (second_list n (count + 1 + 1) ls)
        → continue_check (parting_after i (Some p) (count + 1)) (λ q. check_lines n q (count + 1) ls)
        ≡ second_of p count (second_item i (count + 1) (second_list n (count + 1 + 1) ls))
    go (Ok (item.Gate g)) rec = rec ∙ more g (second_list n (count + 1 + 1) ls)
    go (Ok item.Parting) rec = refl
    go (Err f) rec = refl

pub second_no_first : (n at : ℕ) (ls : List Bytes) → NoFirst (second_list n at ls)
unfolding second_list second_item with_second
second_no_first n at [] = refl
second_no_first n at (line ∷ ls) = go (item_of n line) (second_list n (at + 1) ls) (second_no_first n (at + 1) ls)
  where
    go : (i : Result Item Fault) (r : Reading) → NoFirst r → NoFirst (second_item i at r)
    go (Ok (item.Gate g)) (lists m gs hs) e = e
    go (Ok (item.Gate g)) (fault f at') e = tt
    go (Ok item.Parting) r e = tt
    go (Err f) r e = tt

check_first : (n count : ℕ) (ls : List Bytes)
    → check_lines n None count ls ≡ first_of count (first_list n (count + 1) ls)
unfolding check_lines checked_at_end continue_check first_list first_item with_first
check_first n count [] = refl
check_first n count (line ∷ ls) = go (item_of n line) (check_first n (count + 1) ls)
  where
    more : (g : Gate) (r : Reading) → first_of (count + 1) r ≡ first_of count (with_first g r)
    more g (lists m gs hs) =
        let e : count + 1 + 1 + length gs ≡ count + 1 + suc (length gs) = omega arith in
        rw e
    more g (fault f at) = refl

    parted : (r : Reading) → NoFirst r → second_of (count + 1) (count + 1) r ≡ first_of count r
    parted (lists m gs hs) e = let z : count + 1 ≡ count + 1 + 0 = omega arith in rw (e, ← z)
    parted (fault f at) e = refl

    go : (i : Result Item Fault)
        → check_lines n None (count + 1) ls ≡ first_of (count + 1) (first_list n (count + 1 + 1) ls)
        → continue_check (parting_after i None (count + 1)) (λ q. check_lines n q (count + 1) ls)
        ≡ first_of count (first_item i (count + 1) (first_list n (count + 1 + 1) ls) (second_list n (count + 1 + 1) ls))
    go (Ok (item.Gate g)) rec = rec ∙ more g (first_list n (count + 1 + 1) ls)
    go (Ok item.Parting) rec =
        check_second n (count + 1) (count + 1) ls
        ∙ parted (second_list n (count + 1 + 1) ls) (second_no_first n (count + 1 + 1) ls)
    go (Err f) rec = refl

pub check_loop_start : {n : ℕ} {s rest : Bytes} {a m : ℕ} → m ≡ min a (length s)
    → rest ≡ take (length s - m) (drop m s)
    → CheckLoop n s a rest 1 None
check_loop_start {n} {s} {rest} {a} {m} q e = record {
  small = rw e (omega (arith, length-take-le (length s - m) (drop m s) (omega (arith, length-drop m s))));
  same = ap (λ r. check_lines n None 1 (lines r)) (e ∙ whole);
}
  where
    from_start : drop (min a (length s)) s ≡ drop a s
    from_start = elim (dec_lt a (length s)) [
      | yes k ↦ let z : min a (length s) ≡ a = omega arith in rw z
      | no k ↦ let z : min a (length s) ≡ length s = omega arith in
          rw (z, drop_of_length-le s {i = length s} (omega arith), drop_of_length-le s {i = a} (omega arith)) refl
    ]

    whole : take (length s - m) (drop m s) ≡ drop a s
    whole = take_all (length s - m) (drop m s) (omega (arith, length-drop m s)) ∙ rw q from_start

module _ {n : ℕ} {s : Bytes} {a0 : ℕ} {rest : Bytes} {count : ℕ} {parting : Option ℕ}
    (c : CheckLoop n s a0 rest count parting) where
  module _ {line : Bytes} (part more : Bytes) {i : Result Item Fault} {x : Result (Option ℕ) FaultAt}
      (l : lines rest ≡ line_of part ∷ lines more) (f : line ≡ line_of part) (j : ItemRead n line i)
      (q : x ≡ parting_after i parting (count + 1)) where
    continued : continue_check x (λ p. check_lines n p (count + 1) (lines more))
        ≡ check_lines n None 1 (lines (drop a0 s))
    unfolding check_lines
    continued = rw q (rw (l, ← f, ← j.item) at c.same)

    pub check_loop_next : {p : Option ℕ} → rest ≡ part ++ more → 0 < length part → x ≡ Ok p
        → CheckLoop n s a0 more (count + 1) p
    unfolding continue_check
    check_loop_next e h o =
        record { small = omega (arith, c.small, ap length e, length-append part more, h); same = rw o at continued }

    pub check_loop_fault : {f : FaultAt} → x ≡ Err f → Err f ≡ check_lines n None 1 (lines (drop a0 s))
    unfolding continue_check
    check_loop_fault o = rw o at continued

  pub check_loop_end : length rest ≡ 0 → checked_at_end n parting count ≡ check_lines n None 1 (lines (drop a0 s))
  unfolding check_lines
  check_loop_end h = rw (lines_none rest 0 (omega (arith, h))) at c.same

-- What is said of a text is the definition's, and its n is 1 to 8.

pub checked_none : (s : Bytes) → length s ≡ 0 → TextRead s (faulty BadHeader 1)
unfolding read_text read_lines lines
checked_none s h = record { checked = rw (lines_none s 0 (omega arith)); ranged = tt }

pub checked_bad : {s : Bytes} {e : ℕ} {r : Option ℕ} → (length s ≡ 0 → ⊥) → Ends LF s 0 e → HeaderRead (take e s) r
    → r ≡ None
    → TextRead s (faulty BadHeader 1)
unfolding read_text read_lines after_header
checked_bad {s} {e} h w r q =
    record { checked = rw (lines_first (omega arith) w, part_front s e, ← r.header, q); ranged = tt }

check_ranged : (n : ℕ) (parting : Option ℕ) (count : ℕ) (ls : List Bytes) → 1 ≤ n → n ≤ most_qubits
    → IfOk (check_lines n parting count ls) CheckedInRange
unfolding check_lines checked_at_end continue_check
check_ranged n None count [] h k = tt
check_ranged n (Some p) count [] h k = (h, k)
check_ranged n parting count (line ∷ ls) h k =
    go (parting_after (item_of n line) parting (count + 1)) (λ p. check_ranged n p (count + 1) ls h k)
  where
    go : (x : Result (Option ℕ) FaultAt) → ((p : Option ℕ) → IfOk (check_lines n p (count + 1) ls) CheckedInRange)
        → IfOk (continue_check x (λ p. check_lines n p (count + 1) ls)) CheckedInRange
    go (Ok p) rec = rec p
    go (Err f) rec = tt

first_checked : (r : Reading) → first_of 1 r ≡ checked_of r
first_checked (lists n gs hs) = refl
first_checked (fault f at) = refl

pub checked_of_lem : {s : Bytes} {e n : ℕ} {r : Option ℕ} {x : Result Checked FaultAt} → (length s ≡ 0 → ⊥)
    → Ends LF s 0 e
    → HeaderRead (take e s) r → r ≡ Some n
    → x ≡ check_lines n None 1 (lines (drop (e + 1) s)) → TextRead s x
unfolding read_text read_lines after_header
checked_of_lem {s} {e} {n} {r} {x} h w i q o =
    let ls : List Bytes = lines (drop (e + 1) s) in
    let small : HeaderInRange (Some n) = rw q at i.ranged in
    record {
      checked =
          o ∙ check_first n 1 ls
          ∙ rw (lines_first (omega arith) w, part_front s e, ← i.header, q) (first_checked (first_list n 2 ls));
      ranged = rw o (check_ranged n None 1 ls small.0 small.1);
    }
