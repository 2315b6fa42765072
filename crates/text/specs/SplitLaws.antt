-- Laws of Split: lines and fields, one after the other.
use Rattle.std.specs.Prelude.{◌≡◌, refl, List, ◌∷◌, [], ◌++◌, Bool, true, false, cond, ℕ, ◌+◌, ◌-◌, ◌≤◌, zero, suc, ◌<◌}
use Rattle.std.specs.Prelude.{drop, take, get_or, length, eqb, ltb, Option, Some, None}
use Rattle.std.proofs.lemmas.List.{get_or-drop}
use Rattle.std.proofs.lemmas.List.Recursion.{is_position_or_len}
use Rattle.std.specs.List.{position_or_len, slice_split, onto_first}
use Rattle.std.specs.Option.{unwrap_or}
use Rattle.std.specs.Fn.{CalledAt}
use Rattle.std.specs.Slice.Iter.{split_rest, split_done, split_callee, split_steps}
use Rattle.std.specs.Iterator.{Yields}
use Rattle.std.proofs.lemmas.Iterator.{YieldsList}
use Rattle.std.proofs.lemmas.Iterator.Consumers.{YieldsList-at, YieldsList-turn, YieldsList-end}
use Rattle.std.proofs.lemmas.Iterator.Splits.{YieldsList-from_slice_split}
use denote.Param.Members.{Mut}
use denote.Ref.{Bor}
use Rattle.std.proofs.Common.{ap, sym, ◌∙◌, arith, add-one, drop_of_length-le, length-drop, drop-drop, drop-cons}
use Rattle.std.proofs.Common.{take_all}
use borrow.Author.Tests.{lt-ltb, le-ltb}
use Rattle.std.proofs.Math.Decide.{dec_lt}
use Rattle.text.specs.Text.{Bytes, onto, parts, fields, tab, LF, lines, same_bytes}
use Rattle.text.specs.Split.{count_before, end_from, Ends, part, after_tab, fields_after}

-- lists taken apart

pub head_same : {A : Type 0} {x y : A} {s t : List A} → x ∷ s ≡ y ∷ t → x ≡ y
head_same e = cc

pub tail_same : {A : Type 0} {x y : A} {s t : List A} → x ∷ s ≡ y ∷ t → s ≡ t
tail_same e = cc

pub drop_further : {A : Type 0} (a b : ℕ) (x y : List A) → a ≤ b → drop a x ≡ drop a y → drop b x ≡ drop b y
drop_further a b x y h e =
    let q : a + (b - a) ≡ b = omega arith in
    rw (← q, ← drop-drop (b - a) a x, ← drop-drop (b - a) a y, e)

-- the list from n on is x and more

pub drop_take : {A : Type 0} (n m : ℕ) (l : List A) {x : A} {xs : List A} → n < m → drop n l ≡ x ∷ xs
    → drop n (take m l) ≡ x ∷ take (m - (n + 1)) xs
drop_take n zero l h e = absurd (omega arith)
drop_take zero (suc m) l h e = let z : suc m - (0 + 1) ≡ m = omega arith in rw (e, z)
drop_take (suc n) (suc m) [] h e = absurd (let z : ◌≡◌ {A = ℕ} 0 1 = cc in omega arith)
drop_take (suc n) (suc m) (y ∷ l) {xs = xs} h e =
    let z : suc m - (suc n + 1) ≡ m - (n + 1) = omega arith in rw z (drop_take n m l (omega arith) e)

pub take_more : {A : Type 0} (n : ℕ) (l : List A) {x : A} {xs : List A} → drop n l ≡ x ∷ xs
    → take (n + 1) l ≡ take n l ++ (x ∷ [])
take_more zero l e = rw e
take_more (suc n) [] e = absurd (let z : ◌≡◌ {A = ℕ} 0 1 = cc in omega arith)
take_more (suc n) (y ∷ l) e = let z : suc n + 1 ≡ suc (n + 1) = omega arith in rw z (ap (λ k. y ∷ k) (take_more n l e))

pub get_or_next : {A : Type 0} (n : ℕ) (l : List A) (d : A) {x : A} {xs : List A} → drop n l ≡ x ∷ xs → get_or l n d ≡ x
get_or_next n l d e = let z : n + 0 ≡ n = omega arith in rw (z, e) at (sym (get_or-drop n l 0 d))

pub drop_one : {A : Type 0} (n : ℕ) (l : List A) {x : A} {xs : List A} → drop n l ≡ x ∷ xs → drop (n + 1) l ≡ xs
drop_one n l e = rw (← drop-drop 1 n l, e)

-- The first part of a text: up to the first b, or the whole text.

parts_here : (b : ℕ) (none : List Bytes) (s : Bytes) → count_before b s < length s
    → parts b none s ≡ take (count_before b s) s ∷ parts b none (drop (suc (count_before b s)) s)
unfolding parts count_before onto
parts_here b none [] h = absurd (omega arith)
parts_here b none (x ∷ s) h = go (eqb x b) h (parts_here b none s)
  where
    go : (t : Bool) → cond t 0 (suc (count_before b s)) < suc (length s)
        → (count_before b s < length s → parts b none s ≡ take (count_before b s) s ∷ parts b none
        (drop (suc (count_before b s)) s))
        → cond t ([] ∷ parts b none s) (onto x (parts b none s))
        ≡ take (cond t 0 (suc (count_before b s))) (x ∷ s) ∷ parts b none
        (drop (suc (cond t 0 (suc (count_before b s)))) (x ∷ s))
    go true h rec = refl
    go false h rec = rw (rec (omega arith))

-- a text with no b in it is one part
parts_whole : (b : ℕ) (none : List Bytes) → ((x : ℕ) → onto x none ≡ (x ∷ []) ∷ []) → (s : Bytes) → 0 < length s
    → count_before b s ≡ length s
    → parts b none s ≡ s ∷ []
unfolding parts count_before onto
parts_whole b none o [] p h = absurd (omega arith)
parts_whole b none o (x ∷ []) p h = go (eqb x b) h
  where
    go : (t : Bool) → cond t zero (suc zero) ≡ suc zero → cond t ([] ∷ none) (onto x none) ≡ (x ∷ []) ∷ []
    go true h = absurd (omega arith)
    go false h = o x
parts_whole b none o (x ∷ y ∷ s) p h = go (eqb x b) h (parts_whole b none o (y ∷ s) (omega arith))
  where
    go : (t : Bool) → cond t 0 (suc (count_before b (y ∷ s))) ≡ suc (suc (length s))
        → (count_before b (y ∷ s) ≡ suc (length s) → parts b none (y ∷ s) ≡ (y ∷ s) ∷ [])
        → cond t ([] ∷ parts b none (y ∷ s)) (onto x (parts b none (y ∷ s))) ≡ (x ∷ y ∷ s) ∷ []
    go true h rec = absurd (omega arith)
    go false h rec = rw (rec (omega arith))

pub upto_most : (b : ℕ) (s : Bytes) → count_before b s ≤ length s
unfolding count_before
upto_most b [] = omega arith
upto_most b (x ∷ s) = go (eqb x b) (upto_most b s)
  where
    go : (t : Bool) → count_before b s ≤ length s → cond t 0 (suc (count_before b s)) ≤ suc (length s)
    go true h = omega arith
    go false h = omega arith

-- every part has an end
pub ends_from : (b : ℕ) (s : Bytes) (a : ℕ) → a ≤ length s → Ends b s a (end_from b s a)
unfolding end_from
ends_from b s a h =
    record { place = refl; from = omega arith; within = omega (arith, upto_most b (drop a s), length-drop a s) }

-- std's search for the first byte b finds it
pub count_position : (b : ℕ) (s : Bytes) → count_before b s ≡ position_or_len (λ x. eqb x b) s
unfolding count_before
count_position b =
    is_position_or_len (count_before b) (λ x. eqb x b) refl
    (λ x s. ap (cond (eqb x b) 0) {x = suc (count_before b s)} {y = 1 + count_before b s} (omega arith))

pub ends_at : {b : ℕ} {s : Bytes} {a : ℕ} {r : Option ℕ} → a ≤ length s
    → r ≡ cond (ltb (position_or_len (λ x. eqb x b) (drop a s)) (length (drop a s)))
    (Some (position_or_len (λ x. eqb x b) (drop a s))) None
    → Ends b s a (a + unwrap_or r (length (drop a s)))
unfolding end_from
ends_at {b} {s} {a} {r} h e =
    let most = upto_most b (drop a s) in
    let place : unwrap_or r (length (drop a s)) ≡ count_before b (drop a s) =
    rw (e, ← count_position b (drop a s)) (found (count_before b (drop a s)) (length (drop a s)) most) in
    record { place = rw place; from = omega arith; within = rw place (omega (arith, most, length-drop a s)) }
  where
    found : (n m : ℕ) → n ≤ m → unwrap_or (cond (ltb n m) (Some n) None) m ≡ n
    found n m h = elim (dec_lt n m) [ yes p ↦ rw (lt-ltb n m p) | no p ↦ rw (le-ltb n m (omega arith)) (omega arith) ]

-- the part that begins at a, where it ends before the text's end
parts_at : {b : ℕ} {s : Bytes} {a e : ℕ} (none : List Bytes) → Ends b s a e → e < length s
    → parts b none (drop a s) ≡ part s a e ∷ parts b none (drop (e + 1) s)
unfolding end_from
parts_at {b} {s} {a} {e} none r h =
    let n : ℕ = count_before b (drop a s) in
    let p : e - a ≡ n = omega arith in
    let q : a + suc n ≡ e + 1 = omega arith in
    rw (parts_here b none (drop a s) (omega (arith, length-drop a s)), p, ← q, drop-drop (suc n) a s)

-- .. and where it is the text's last
parts_end : {b : ℕ} {s : Bytes} {a e : ℕ} (none : List Bytes) → ((x : ℕ) → onto x none ≡ (x ∷ []) ∷ []) → Ends b s a e
    → a < length s → length s ≤ e
    → parts b none (drop a s) ≡ part s a e ∷ []
unfolding end_from
parts_end {b} {s} {a} {e} none o r h n =
    rw (take_all (e - a) (drop a s) (omega (arith, length-drop a s)))
    (parts_whole b none o (drop a s) (omega (arith, length-drop a s)) (omega (arith, length-drop a s)))

-- the part at the front, `&s[..e]`
pub part_front : (s : Bytes) (e : ℕ) → part s 0 e ≡ take e s
part_front s e = let z : e - 0 ≡ e = omega arith in rw z

-- a part is a word, as `==` says it
pub same_word : (s : Bytes) {w x : Bytes} {b : Bool} → b ≡ same_bytes s x → x ≡ w → same_bytes s w ≡ b
same_word s p q = sym (rw q at p)

pub rest_none : (s : Bytes) (e : ℕ) → length s ≤ e → fields_after s e ≡ []
unfolding fields_after after_tab
rest_none s e h = rw (drop_of_length-le s h)

onto_same : (x : ℕ) (ps : List Bytes) → onto x ps ≡ onto_first x ps
unfolding onto
onto_same x [] = refl
onto_same x (p ∷ ps) = refl

-- the parts that std's `split` gives are the fields
pub fields_split : (s : Bytes) → fields s ≡ slice_split (λ x. eqb x tab) s
unfolding fields parts
fields_split [] = refl
fields_split (x ∷ s) = rw (← fields_split s, ← onto_same x (fields s))

pub rest_more : (s : Bytes) (e : ℕ) → e < length s → fields_after s e ≡ fields (drop (e + 1) s)
unfolding fields_after after_tab
rest_more s e h = rw (add-one e, drop-cons s e 0 h)

-- what std's `split` at tabs yields of the bytes after the field that ends at e
pub fields_yielded : {F : Type 0} {s t : _} (g : Mut F (Bor ℕ × Unit {0}) Bool) {f : F} (l : Bytes) (e : ℕ)
    → e < length l
    → t ≡ s
    → split_rest s ≡ take (length l - (e + 1)) (drop (e + 1) l)
    → split_done s ≡ false
    → split_callee s ≡ f
    → ((x : ℕ) (b : Bool) (q : F) → CalledAt g f x b q → (q ≡ f) × (b ≡ eqb x tab))
    → YieldsList (split_steps g) (λ x. x.now) t (fields_after l e)
fields_yielded g l e h q r d k o =
    let whole = take_all (length l - (e + 1)) (drop (e + 1) l) (omega (arith, length-drop (e + 1) l)) in
    rw (rest_more l e h, fields_split (drop (e + 1) l))
    (YieldsList-at q (YieldsList-from_slice_split g (λ x. eqb x tab) (drop (e + 1) l) (r ∙ whole) d k o))

-- .. one after the other, of which xs have come
module _ {F : Type 0} {s t : _} (g : Mut F (Bor ℕ × Unit {0}) Bool) {f : F} (l : Bytes) (e : ℕ) (h : e < length l)
    (q : t ≡ s) (r : split_rest s ≡ take (length l - (e + 1)) (drop (e + 1) l)) (d : split_done s ≡ false)
    (k : split_callee s ≡ f) (same : (x : ℕ) (b : Bool) (q : F) → CalledAt g f x b q → (q ≡ f) × (b ≡ eqb x tab))
    (xs : List (Bor Bytes)) (u : _) (y : Yields (split_steps g) t xs u) where
  pub field_turn : {o : Option (Bor Bytes)} (w : _) (x : Bor Bytes) → o ≡ Some x → split_steps g u o w
      → (length xs < length (fields_after l e)) × (x.now ≡ get_or (fields_after l e) (length xs) x.now)
  field_turn w x is c = YieldsList-turn (fields_yielded g l e h q r d k same) xs u y _ _ x is c

  pub field_end : {o : Option (Bor Bytes)} (w : _) → o ≡ None → split_steps g u o w
      → length xs ≡ length (fields_after l e)
  field_end w is c = (YieldsList-end (fields_yielded g l e h q r d k same) xs u y _ _ is c).1

-- The fields from a on are the one that begins there and those after it.
pub fields_first : {s : Bytes} {a e : ℕ} → a ≤ length s → Ends tab s a e
    → fields (drop a s) ≡ part s a e ∷ fields_after s e
unfolding fields onto parts
fields_first {s} {a} {e} h r =
    elim (dec_lt e (length s)) [
      | yes p ↦ more p
      | no p ↦ elim (dec_lt a (length s)) [ yes q ↦ last (omega arith) q | no q ↦ empty (omega arith) (omega arith) ]
    ]
  where
    more : e < length s → fields (drop a s) ≡ part s a e ∷ fields_after s e
    more p = rw (rest_more s e p) (parts_at ([] ∷ []) r p)

    last : length s ≤ e → a < length s → fields (drop a s) ≡ part s a e ∷ fields_after s e
    last p q = rw (rest_none s e p) (parts_end ([] ∷ []) (λ x. refl) r q p)

    empty : length s ≤ e → length s ≤ a → fields (drop a s) ≡ part s a e ∷ fields_after s e
    empty p q =
        rw (rest_none s e p, take_all (e - a) (drop a s) (omega (arith, length-drop a s)), drop_of_length-le s q)

-- The fields after the one that ends at e, where there are any.
pub rest_first : {s : Bytes} {e f : ℕ} → e < length s → Ends tab s (e + 1) f
    → fields_after s e ≡ part s (e + 1) f ∷ fields_after s f
rest_first {s} {e} {f} h r = rest_more s e h ∙ fields_first (omega arith) r

-- The lines from a on are the one that begins there and those after it.
pub lines_first : {s : Bytes} {a e : ℕ} → a < length s → Ends LF s a e
    → lines (drop a s) ≡ part s a e ∷ lines (drop (e + 1) s)
unfolding lines onto parts
lines_first {s} {a} {e} h r = elim (dec_lt e (length s)) [ yes p ↦ parts_at [] r p | no p ↦ last (omega arith) ]
  where
    last : length s ≤ e → lines (drop a s) ≡ part s a e ∷ lines (drop (e + 1) s)
    last p = rw (drop_of_length-le s {i = e + 1} (omega arith)) (parts_end [] (λ x. refl) r h p)

pub lines_none : (s : Bytes) (a : ℕ) → length s ≤ a → lines (drop a s) ≡ []
unfolding lines parts
lines_none s a h = rw (drop_of_length-le s h)

onto_length : (x : ℕ) (ps : List Bytes) → length (onto x ps) ≤ suc (length ps)
unfolding onto
onto_length x [] = omega arith
onto_length x (p ∷ ps) = omega arith

-- A text has no more lines than bytes.
pub lines_count : (s : Bytes) → length (lines s) ≤ length s
unfolding lines parts
lines_count [] = omega arith
lines_count (x ∷ s) = go (eqb x LF) (lines_count s)
  where
    go : (t : Bool) → length (parts LF [] s) ≤ length s
        → length (cond t ([] ∷ parts LF [] s) (onto x (parts LF [] s))) ≤ suc (length s)
    go true h = omega arith
    go false h = omega (arith, onto_length x (parts LF [] s))
