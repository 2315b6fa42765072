-- A long line reads as its squeezed one.
use Rattle.std.specs.Prelude.{◌≡◌, ◌≢◌, Bool, true, false, cond, take, length, eqb, ltb}
use Rattle.std.specs.Prelude.{Option, Some, None, Result}
use Rattle.std.proofs.Math.Path.{refl, sym, ap}
use Rattle.std.proofs.Common.{◌∙◌, arith, take_all, length-take-le}
use mathlib.Core.List.{◌∷◌, List, []}
use Prim.Native.Nat.{ℕ, suc, ◌-◌, ◌≤◌, ◌<◌, zero, ◌+◌}
use Rattle.std.proofs.Math.Decide.{ℕ_discrete, dec_lt}
use borrow.Author.Tests.{eq-eqb, ne_eqb, lt-ltb, le-ltb, ltb-true}
use Rattle.std.proofs.Math.Seq.{take-nil}
use Rattle.text.specs.Text.{Bytes, tab, onto, parts, fields, same_bytes, bytes, known}
use Rattle.text.specs.Limits.{most_digits}
use Rattle.text.specs.Number.{number_of}
use Rattle.text.specs.Words.{word_of}
use Rattle.text.specs.Args.{push_number, numbers, by_count}
use Rattle.text.specs.Names.{one_qubit, two_qubits}
use Rattle.text.specs.Call.{known_call, malformed}
use Rattle.text.specs.Gate.{gate_call_of, gate_call_fields}
use Rattle.text.specs.Line.{call_fields, read_line}
use Rattle.text.specs.Squeeze.{squeezed_from, trimmed, squeezed}
use Rattle.text.specs.NumberLaws.{number_long}
use Rattle.text.specs.declared.args.Args.{Args}
use Rattle.text.specs.declared.args.Args.TheVariants.{Zero, One, Two, Three, Four}
use Rattle.text.specs.declared.call.Call.{Call}
use Rattle.text.specs.declared.call.Refusal.{Refusal}
use Rattle.text.specs.declared.words.Word.{Word}

-- One byte: a tab after one of the first five fields, a later tab, a byte of a field, one too many.

module _ (t w : ℕ) {x : ℕ} (s : Bytes) where
  pub from_tab : x ≡ tab → t < 5 → squeezed_from t w (x ∷ s) ≡ x ∷ squeezed_from (suc t) 0 s
  unfolding squeezed_from
  from_tab e h = rw (eq-eqb x tab e, lt-ltb t 5 h)

  pub from_last : x ≡ tab → 5 ≤ t → squeezed_from t w (x ∷ s) ≡ squeezed_from t 9 s
  unfolding squeezed_from
  from_last e h = rw (eq-eqb x tab e, le-ltb t 5 h)

  pub from_byte : x ≢ tab → w < 9 → squeezed_from t w (x ∷ s) ≡ x ∷ squeezed_from t (suc w) s
  unfolding squeezed_from
  from_byte e h = rw (ne_eqb x tab e, lt-ltb w 9 h)

  pub from_full : x ≢ tab → 9 ≤ w → squeezed_from t w (x ∷ s) ≡ squeezed_from t w s
  unfolding squeezed_from
  from_full e h = rw (ne_eqb x tab e, le-ltb w 9 h)

-- the present field cut to w bytes, and n fields after it
abbrev trimmed_from : ℕ → ℕ → List Bytes → List Bytes
trimmed_from w n [] = []
trimmed_from w n (f ∷ fs) = take w f ∷ trimmed n fs

trimmed_next : (n : ℕ) (l : List Bytes) → trimmed_from 9 n l ≡ trimmed (suc n) l
trimmed_next n [] = refl
trimmed_next n (f ∷ fs) = refl

trimmed_onto : (x w n : ℕ) (l : List Bytes) → onto x (trimmed_from w n l) ≡ trimmed_from (suc w) n (onto x l)
unfolding onto
trimmed_onto x w n [] = rw (take-nil {A = ℕ} w)
trimmed_onto x w n (f ∷ fs) = refl

trimmed_full : (x n : ℕ) (l : List Bytes) → 1 ≤ length l → trimmed_from 0 n l ≡ trimmed_from 0 n (onto x l)
unfolding onto
trimmed_full x n [] h = absurd (omega arith)
trimmed_full x n (f ∷ fs) h = refl

trimmed_last : (w : ℕ) (l : List Bytes) → 1 ≤ length l → trimmed_from 0 0 l ≡ trimmed_from w 0 ([] ∷ l)
trimmed_last w [] h = absurd (omega arith)
trimmed_last w (f ∷ fs) h = go fs
  where
    go : (l : List Bytes) → [] ∷ trimmed 0 l ≡ take w [] ∷ []
    go [] = rw (take-nil {A = ℕ} w)
    go (f ∷ fs) = rw (take-nil {A = ℕ} w)

onto_some : (x : ℕ) (l : List Bytes) → 1 ≤ length (onto x l)
unfolding onto
onto_some x [] = omega arith
onto_some x (f ∷ fs) = omega arith

-- a line has a field
fields_some : (s : Bytes) → 1 ≤ length (fields s)
unfolding fields parts
fields_some [] = omega arith
fields_some (x ∷ s) = go (eqb x tab)
  where
    go : (u : Bool) → 1 ≤ length (cond u ([] ∷ fields s) (onto x (fields s)))
    go true = omega arith
    go false = onto_some x (fields s)

fields_tab : (x : ℕ) (s : Bytes) → x ≡ tab → fields (x ∷ s) ≡ [] ∷ fields s
unfolding fields parts
fields_tab x s e = rw (eq-eqb x tab e)

fields_byte : (x : ℕ) (s : Bytes) → x ≢ tab → fields (x ∷ s) ≡ onto x (fields s)
unfolding fields parts
fields_byte x s e = rw (ne_eqb x tab e)

some_left : (m k : ℕ) → k < m → m - k ≡ suc (m - suc k)
some_left m k h = omega arith

none_left : (m k : ℕ) → m ≤ k → m - k ≡ 0
none_left m k h = omega arith

from_fields : (s : Bytes) (t w : ℕ) → w ≤ 9 → fields (squeezed_from t w s) ≡ trimmed_from (9 - w) (5 - t) (fields s)
unfolding fields parts squeezed_from
from_fields [] t w q = rw (take-nil {A = ℕ} (9 - w))
from_fields (x ∷ s) t w q =
    elim (ℕ_discrete x tab) [
      | yes e ↦ elim (dec_lt t 5) [
        | yes h ↦ rw (
          from_tab t w s e h,
          fields_tab x (squeezed_from (suc t) 0 s) e,
          fields_tab x s e,
          from_fields s (suc t) 0 (omega arith),
        )
            (rw (some_left 5 t h, take-nil {A = ℕ} (9 - w), trimmed_next (5 - suc t) (fields s)))
        | no h ↦ rw (
          from_last t w s e (omega arith),
          fields_tab x s e,
          from_fields s t 9 (omega arith),
          none_left 5 t (omega arith),
        )
            (trimmed_last (9 - w) (fields s) (fields_some s))
      ]
      | no e ↦ elim (dec_lt w 9) [
        | yes h ↦ rw (
          from_byte t w s e h,
          fields_byte x (squeezed_from t (suc w) s) e,
          fields_byte x s e,
          from_fields s t (suc w) (omega arith),
        )
            (rw (some_left 9 w h) (trimmed_onto x (9 - suc w) (5 - t) (fields s)))
        | no h ↦ rw (
          from_full t w s e (omega arith),
          fields_byte x s e,
          from_fields s t w q,
          none_left 9 w (omega arith),
        )
            (trimmed_full x (5 - t) (fields s) (fields_some s))
      ]
    ]

-- what `squeezed` does, in terms of fields
pub squeezed_fields : (s : Bytes) → fields (squeezed s) ≡ trimmed 6 (fields s)
unfolding squeezed
squeezed_fields s = from_fields s 0 0 (omega arith) ∙ trimmed_next 5 (fields s)

-- A field cut reads as the field does.

same_cut : (n : ℕ) (s t : Bytes) → length t < n → same_bytes (take n s) t ≡ same_bytes s t
same_cut zero s t h = absurd (omega arith)
same_cut (suc n) [] t h = refl
same_cut (suc n) (x ∷ s) [] h = refl
same_cut (suc n) (x ∷ s) (y ∷ t) h = rw (same_cut n s t (omega arith))

-- with the test as an equation, which `simp` proves where the word is a literal
known_cut : (s t : Bytes) → ltb (length t) 9 ≡ true → same_bytes (take 9 s) t ≡ same_bytes s t
known_cut s t h = same_cut 9 s t (ltb-true (length t) 9 h)

word_cut : (s : Bytes) → word_of (take 9 s) ≡ word_of s
unfolding word_of
word_cut s = simp known_cut

number_cut : (s : Bytes) → number_of most_digits (take 9 s) ≡ number_of most_digits s
number_cut s =
    elim (dec_lt 9 (length s)) [
      | yes h ↦ sym (number_long 8 (take 9 s) (omega (arith, length-take-le 9 s (omega arith))))
          ∙ number_long 8 s (omega arith)
      | no h ↦ rw (take_all 9 s (omega arith))
    ]

-- More numbers than a call has are malformed, so the fields after six do not matter.

-- how many numbers there are; none are refused as five are, which no call has
abbrev arg_count : Option Args → ℕ
arg_count None = 5
arg_count (Some Zero) = 0
arg_count (Some (One a)) = 1
arg_count (Some (Two a b)) = 2
arg_count (Some (Three a b c)) = 3
arg_count (Some (Four a b c d)) = 4

count_with : (args : Option Args) (x : Option ℕ) (m k : ℕ) → m ≤ 5 → m ≤ arg_count args + suc k
    → m ≤ arg_count (push_number args x) + k
count_with None x m k p h = omega arith
count_with (Some args) None m k p h = omega arith
count_with (Some Zero) (Some v) m k p h = omega arith
count_with (Some (One a)) (Some v) m k p h = omega arith
count_with (Some (Two a b)) (Some v) m k p h = omega arith
count_with (Some (Three a b c)) (Some v) m k p h = omega arith
count_with (Some (Four a b c d)) (Some v) m k p h = omega arith

count_numbers : (args : Option Args) (fs : List Bytes) (m : ℕ) → m ≤ 5 → m ≤ arg_count args
    → m ≤ arg_count (numbers most_digits args fs)
unfolding numbers
count_numbers args [] m p h = h
count_numbers args (f ∷ fs) m p h =
    count_numbers (push_number args (number_of most_digits f)) fs m p
    (omega (arith, count_with args (number_of most_digits f) m 0 p (omega arith)))

-- What refuses m or more numbers does not ask for fields after the first n, where those bring the numbers to m.
module _ {A : Type 0} (says : Option Args → A) (m : ℕ) (most : m ≤ 5)
    (same : (x : Option Args) → m ≤ arg_count x → says x ≡ says None) where
  numbers_cut : (n : ℕ) (args : Option Args) (fs : List Bytes) → m ≤ arg_count args + n
      → says (numbers most_digits args (trimmed n fs)) ≡ says (numbers most_digits args fs)
  unfolding numbers
  numbers_cut n args [] h = refl
  numbers_cut zero args (f ∷ fs) h =
      same args (omega arith)
      ∙ sym (same (numbers most_digits args (f ∷ fs)) (count_numbers args (f ∷ fs) m most (omega arith)))
  numbers_cut (suc n) args (f ∷ fs) h =
      ap (λ (x : Option ℕ). says (numbers most_digits (push_number args x) (trimmed n fs))) (number_cut f)
      ∙ numbers_cut n (push_number args (number_of most_digits f)) fs
      (count_with args (number_of most_digits f) m n most h)

call_wrong : (w : Option Word) (x : Option Args) → 5 ≤ arg_count x → known_call w x ≡ known_call w None
call_wrong w None h = refl
call_wrong w (Some Zero) h = absurd (omega arith)
call_wrong w (Some (One a)) h = absurd (omega arith)
call_wrong w (Some (Two a b)) h = absurd (omega arith)
call_wrong w (Some (Three a b c)) h = absurd (omega arith)
call_wrong w (Some (Four a b c d)) h = absurd (omega arith)

abbrev says_gate : Option ℕ → Bytes → Option Args → Result Call Refusal
says_gate d name x = known malformed d (λ r. known malformed x (gate_call_of r name))

gate_wrong : (d : Option ℕ) (name : Bytes) (x : Option Args) → 3 ≤ arg_count x
    → says_gate d name x ≡ says_gate d name None
unfolding by_count
gate_wrong None name x h = refl
gate_wrong (Some d) name None h = refl
gate_wrong (Some d) name (Some Zero) h = absurd (omega arith)
gate_wrong (Some d) name (Some (One a)) h = absurd (omega arith)
gate_wrong (Some d) name (Some (Two a b)) h = absurd (omega arith)
gate_wrong (Some d) name (Some (Three a b c)) h = refl
gate_wrong (Some d) name (Some (Four a b c d')) h = refl

name_cut : (d : Option ℕ) (name : Bytes) (x : Option Args) → says_gate d (take 9 name) x ≡ says_gate d name x
unfolding one_qubit two_qubits
name_cut None name x = refl
name_cut (Some d) name x = simp known_cut

gate_cut : (fs : List Bytes) → gate_call_fields (trimmed 5 fs) ≡ gate_call_fields fs
unfolding gate_call_fields
gate_cut [] = refl
gate_cut (d ∷ []) = refl
gate_cut (d ∷ name ∷ qubits) =
    rw (number_cut d)
    (name_cut (number_of most_digits d) name (numbers most_digits (Some Zero) (trimmed 3 qubits))
    ∙ numbers_cut (says_gate (number_of most_digits d) name) 3 (omega arith)
    (gate_wrong (number_of most_digits d) name) 3
    (Some Zero) qubits (omega arith))

call_cut : (fs : List Bytes) → call_fields (trimmed 6 fs) ≡ call_fields fs
unfolding call_fields
call_cut [] = refl
call_cut (f ∷ fs) =
    let args =
    numbers_cut (known_call (word_of f)) 5 (omega arith) (call_wrong (word_of f)) 5 (Some Zero) fs (omega arith) in
    rw (known_cut f (bytes "gate") refl, gate_cut fs, word_cut f, args)

pub read_line_squeezed : (s : Bytes) → read_line (squeezed s) ≡ read_line s
unfolding read_line
read_line_squeezed s = rw (squeezed_fields s) (call_cut (fields s))
