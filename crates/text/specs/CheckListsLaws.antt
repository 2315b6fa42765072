-- The lists of a good verdict text, read again line by line.
use Rattle.std.specs.Prelude.{◌≡◌, refl, List, ◌∷◌, [], ◌++◌, ℕ, ◌≤◌, ◌<◌, ◌+◌, length, drop}
use Rattle.std.specs.Prelude.{Option, Some, None, Result, Ok, Err}
use Rattle.text.specs.declared.check.Fault.{Fault}
use Rattle.std.proofs.Common.{ap, ◌∙◌, sym, arith}
use Rattle.std.proofs.Math.Decide.{dec_lt}
use Rattle.text.specs.Text.{Bytes, lines, LF}
use Rattle.text.specs.Check.{items, NextItem, gate_items, Reading, lists, fault, item_of, with_second, second_item}
use Rattle.text.specs.Check.{second_list, with_first, first_item, first_list, NoFirst, GoodText, read_text}
use Rattle.text.specs.Check.{checked_of, good}
use Rattle.text.specs.Check.{header_of, after_header, read_lines}
use Rattle.text.specs.Split.{part, Ends}
use Rattle.text.specs.SplitLaws.{lines_first, lines_none, head_same, tail_same}
use Rattle.text.specs.CheckTextLaws.{second_no_first}
use Rattle.text.specs.declared.check.Item.{Item}
use Rattle.text.specs.declared.check.Checked.{Checked}
use Rattle.text.specs.declared.check.FaultAt.{FaultAt}
use Rattle.diagram.specs.declared.gate.Gate.{Gate}
use Rattle.text.specs.declared.check.Item.TheVariants as item

pub items_next : (n : ℕ) (s : Bytes) (a : ℕ) {i : Result Item Fault} {more : List (Result Item Fault)}
    → items n (lines (drop a s)) ≡ i ∷ more
    → NextItem n s a i more
unfolding items
items_next n s a {i} {more} e = elim (dec_lt a (length s)) [ yes h ↦ there h | no h ↦ absurd (none (omega arith)) ]
  where
    there : a < length s → NextItem n s a i more
    there h = record {
      inside = h;
      here = λ r. head_same (rw (lines_first h r) at e);
      on = λ r. tail_same (rw (lines_first h r) at e);
    }

    none : length s ≤ a → ⊥
    none h = let f : [] ≡ i ∷ more = rw (lines_none s a h) at e in let z : ◌≡◌ {A = ℕ} 0 1 = cc in omega arith

pub gate_next : {n : ℕ} {s : Bytes} {a : ℕ} (g : Gate) (gs : List Gate) (more : List (Result Item Fault))
    → items n (lines (drop a s)) ≡ gate_items (g ∷ gs) ++ more
    → NextItem n s a (Ok (item.Gate g)) (gate_items gs ++ more)
unfolding gate_items
gate_next {n} {s} {a} g gs more e = items_next n s a e

-- A text of two lists: after its first line come the gates of the first list, the `=`, and the gates of the second.
abbrev Second : ℕ → Reading → List (Result Item Fault) → Type 0
Second n (lists m gs hs) is = (m ≡ n) × (is ≡ gate_items hs)
Second n (fault f at) is = Unit

abbrev First : ℕ → Reading → List (Result Item Fault) → Type 0
First n (lists m gs hs) is = (m ≡ n) × (is ≡ gate_items gs ++ (Ok item.Parting ∷ gate_items hs))
First n (fault f at) is = Unit

second_items : (n at : ℕ) (ls : List Bytes) → Second n (second_list n at ls) (items n ls)
unfolding items gate_items second_list second_item with_second
second_items n at [] = (refl, refl)
second_items n at (line ∷ ls) = go (item_of n line) (second_list n (at + 1) ls) (second_items n (at + 1) ls)
  where
    go : (i : Result Item Fault) (r : Reading) → Second n r (items n ls)
        → Second n (second_item i at r) (i ∷ items n ls)
    go (Ok (item.Gate g)) (lists m gs hs) h = (h.0, ap (λ (is : List (Result Item Fault)). Ok (item.Gate g) ∷ is) h.1)
    go (Ok (item.Gate g)) (fault f at') h = tt
    go (Ok item.Parting) r h = tt
    go (Err f) r h = tt

first_items : (n at : ℕ) (ls : List Bytes) → First n (first_list n at ls) (items n ls)
unfolding items gate_items first_list first_item with_first
first_items n at [] = tt
first_items n at (line ∷ ls) =
    go (item_of n line) (first_list n (at + 1) ls) (second_list n (at + 1) ls) (first_items n (at + 1) ls)
    (second_items n (at + 1) ls) (second_no_first n (at + 1) ls)
  where
    go : (i : Result Item Fault) (r q : Reading) → First n r (items n ls) → Second n q (items n ls) → NoFirst q
        → First n (first_item i at r q) (i ∷ items n ls)
    go (Ok (item.Gate g)) (lists m gs hs) q h k z =
        (h.0, ap (λ (is : List (Result Item Fault)). Ok (item.Gate g) ∷ is) h.1)
    go (Ok (item.Gate g)) (fault f at') q h k z = tt
    go (Ok item.Parting) r (lists m gs hs) h k z =
        (k.0, rw z (ap (λ (is : List (Result Item Fault)). Ok item.Parting ∷ is) k.1))
    go (Ok item.Parting) r (fault f at') h k z = tt
    go (Err f) r q h k z = tt

pub good_text : (s : Bytes) {n parting count : ℕ} → good n parting count ≡ checked_of (read_text s)
    → GoodText s n parting count
good_text s {n} {parting} {count} e = go (read_text s) refl e
  where
    same_checked : {x y : Checked} → ◌≡◌ {A = Result Checked FaultAt} (Ok x) (Ok y) → x ≡ y
    same_checked q = cc

    go : (r : Reading) → read_text s ≡ r → good n parting count ≡ checked_of r → GoodText s n parting count
    go (lists m gs hs) p e =
        let same = same_checked e in
        record {
          first = gs;
          second = hs;
          text = p ∙ ap (λ (x : Checked). lists x.n gs hs) (sym same);
          place = ap (λ (x : Checked). x.parting) same;
          last = ap (λ (x : Checked). x.count) same;
        }
    go (fault f at) p e = let z : ◌≡◌ {A = ℕ} 0 1 = cc in absurd (omega arith)

-- and where its items stand
pub text_items : {s : Bytes} {n e : ℕ} {gs hs : List Gate} → read_text s ≡ lists n gs hs → Ends LF s 0 e
    → items n (lines (drop (e + 1) s)) ≡ gate_items gs ++ (Ok item.Parting ∷ gate_items hs)
unfolding read_text read_lines after_header lines
text_items {s} {n} {e} {gs} {hs} t r =
    elim (dec_lt 0 (length s)) [
      | yes h ↦ there (header_of (part s 0 e)) (rw (lines_first h r) at t)
      | no h ↦ absurd (none (omega arith))
    ]
  where
    ls : List Bytes
    ls = lines (drop (e + 1) s)

    listed : (m : ℕ) (x : Reading) → x ≡ lists n gs hs → First m x (items m ls)
        → items n ls ≡ gate_items gs ++ (Ok item.Parting ∷ gate_items hs)
    listed m (lists k gs' hs') q f =
        let same : m ≡ n = sym f.0 ∙ cc in
        let firsts : gs' ≡ gs = cc in
        let seconds : hs' ≡ hs = cc in
        rw (same, firsts, seconds) at f.1
    listed m (fault g at) q f = let z : ◌≡◌ {A = ℕ} 0 1 = cc in absurd (omega arith)

    there : (h : Option ℕ) → after_header h ls ≡ lists n gs hs
        → items n ls ≡ gate_items gs ++ (Ok item.Parting ∷ gate_items hs)
    there None q = let z : ◌≡◌ {A = ℕ} 0 1 = cc in absurd (omega arith)
    there (Some m) q = listed m (first_list m 2 ls) q (first_items m 2 ls)

    none : length s ≤ 0 → ⊥
    none h =
        let f : read_lines []
        ≡ lists n gs hs = rw (lines_none s 0 h) at t in let z : ◌≡◌ {A = ℕ} 0 1 = cc in omega arith
