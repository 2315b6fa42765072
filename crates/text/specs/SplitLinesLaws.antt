-- Laws of Split: the lines of a text by std's `split_inclusive`, and its first line.
use Rattle.std.specs.Prelude.{◌≡◌, refl, ◌∷◌, [], ◌++◌, Bool, true, false, cond, ℕ, ◌+◌, ◌-◌, ◌≤◌, suc, ◌<◌}
use Rattle.std.specs.Prelude.{drop, take, get_or, length, eqb, min, Option, Some, None, MatchOption}
use Rattle.std.proofs.lemmas.List.{get_or_append_left, take-append-le, drop-append-le, append-nil}
use Rattle.std.proofs.lemmas.List.{nil_from_length, length-append}
use Rattle.std.proofs.lemmas.List.Sums.{position_or_len_is}
use Rattle.std.proofs.lemmas.Fn.{always_returns_same}
use Rattle.std.specs.List.{IsFirstMatchOrLen}
use Rattle.std.specs.Option.{unwrap_or}
use Rattle.std.specs.Fn.{CalledAt, ComputesKey}
use denote.Param.Members.{Mut}
use denote.Ref.{Bor}
use Rattle.std.proofs.Common.{ap, sym, ◌∙◌, arith, add-one, drop_of_length-le, length-drop, drop-cons}
use Rattle.std.proofs.Common.{take_all, length-take-le}
use borrow.Author.Tests.{eqb-true}
use Rattle.std.proofs.Math.Decide.{dec_lt}
use Rattle.text.specs.Text.{Bytes, LF, lines, same_bytes}
use Rattle.text.specs.Split.{count_before, end_from, Ends, line_of, Without, FirstLine}
use Rattle.text.specs.SplitLaws.{upto_most, count_position, part_front, lines_first}

-- std's `split_inclusive` at LF gives each line with its LF

pub computes_lf : {F : Type 0} (g : Mut F (Bor ℕ × Unit {0}) Bool) {f : F}
    → ((x : ℕ) (b : Bool) (q : F) → CalledAt g f x b q → (q ≡ f) × (b ≡ eqb x LF))
    → ComputesKey g (λ x. eqb x LF) f
computes_lf g {f} tests =
    always_returns_same g (λ a r. r ≡ eqb a.0.now LF) f
    (λ a r q k. let m = tests a.0.now r q (record { shown = a.0; shows = refl; called = k }) in (m.1, m.0))

pub line_stripped : (p : Bor Bytes) (r : Option (Bor Bytes)) {w : Bytes} → w ≡ LF ∷ []
    → MatchOption r (same_bytes (drop (length p.now - length w) p.now) w ≡ false)
    (λ x. (same_bytes (drop (length p.now - length w) p.now) w ≡ true) × (x.now ≡ take (length p.now - length w) p.now)
    × (length x.now + length w ≡ length p.now))
    → (unwrap_or r p).now ≡ line_of p.now
unfolding line_of
line_stripped p None q h = rw (rw q at h)
line_stripped p (Some line) q h = rw (rw q at h.0) (rw q at h.1)

line_ended : (x : Bytes) (i : ℕ) → length x ≡ i + 1 → get_or x i 0 ≡ LF → line_of x ≡ take i x
unfolding line_of
line_ended x i n e =
    let z : length x - 1 ≡ i = omega arith in
    rw (z, drop-cons x i 0 (omega arith), e, drop_of_length-le x {i = suc i} (omega arith)) refl

line_last : (x : Bytes) → 0 < length x → eqb (get_or x (length x - 1) 0) LF ≡ false → line_of x ≡ x
unfolding line_of
line_last x n e =
    rw (drop-cons x (length x - 1) 0 (omega arith), drop_of_length-le x {i = suc (length x - 1)} (omega arith), e) refl

pub lines_inclusive : {s : Bytes} (x t : Bytes) → s ≡ x ++ t → (i : ℕ) → length x ≡ min (i + 1) (length s)
    → IsFirstMatchOrLen (λ y. eqb y LF) s i → 0 < length s → lines s ≡ line_of x ∷ lines t
unfolding end_from
lines_inclusive {s} x t e i n h p = elim (dec_lt i (length s)) [ yes k ↦ ended k | no k ↦ last (omega arith) ]
  where
    first : (j : ℕ) → j ≤ length s → ((m : ℕ) → m < j → eqb (get_or s m 0) LF ≡ false)
        → (j < length s → eqb (get_or s j 0) LF ≡ true) → lines s ≡ take j s ∷ lines (drop (j + 1) s)
    first j le fails passes =
        let place = position_or_len_is (λ y. eqb y LF) s j 0 le fails passes in
        let ends : Ends LF s 0 j =
        record { place = rw (count_position LF s, place) (omega arith); from = omega arith; within = le } in
        rw (← part_front s j) (lines_first p ends)

    ended : i < length s → lines s ≡ line_of x ∷ lines t
    ended k =
        let long : length x ≡ i + 1 = omega (arith, n) in
        let front : take i s ≡ take i x = rw e (take-append-le i x t (omega arith)) in
        let back : drop (i + 1) s ≡ t =
        rw e (drop-append-le (i + 1) x t (omega arith) ∙ rw (drop_of_length-le x {i = i + 1} (omega arith)) refl) in
        let lf : get_or x i 0 ≡ LF = eqb-true _ _ (rw (e, get_or_append_left x t 0 i (omega arith)) at (h.1 k 0)) in
        rw (line_ended x i long lf, ← front, ← back)
        (first i (omega arith) (λ m l. h.0 m 0 (omega arith) l) (λ l. h.1 l 0))

    last : length s ≤ i → lines s ≡ line_of x ∷ lines t
    last k =
        let none : t ≡ [] = nil_from_length t (omega (arith, n, ap length e, length-append x t)) in
        let same : s ≡ x = e ∙ rw none (append-nil x) in
        let whole : lines s ≡ s ∷ lines [] =
        rw (take_all (length s) s (omega arith), drop_of_length-le s {i = length s + 1} (omega arith))
        at (first (length s) (omega arith) (λ m l. h.0 m 0 (omega arith) (omega arith)) (λ l. absurd (omega arith))) in
        rw (none, ← same, line_last s p (h.0 (length s - 1) 0 (omega arith) (omega arith))) whole

-- the first line of a text that has an LF

first_parted : (b : ℕ) (s : Bytes) → count_before b s < length s
    → s ≡ take (count_before b s) s ++ (b ∷ drop (suc (count_before b s)) s)
unfolding count_before
first_parted b [] h = absurd (omega arith)
first_parted b (x ∷ s) h = go (eqb x b) refl h (first_parted b s)
  where
    go : (t : Bool) → eqb x b ≡ t → cond t 0 (suc (count_before b s)) < suc (length s)
        → (count_before b s < length s → s ≡ take (count_before b s) s ++ (b ∷ drop (suc (count_before b s)) s))
        → x ∷ s ≡ take (cond t 0 (suc (count_before b s))) (x ∷ s)
        ++ (b ∷ drop (suc (cond t 0 (suc (count_before b s)))) (x ∷ s))
    go true e h rec = ap (λ y. y ∷ s) (eqb-true x b e)
    go false e h rec = ap (λ k. x ∷ k) (rec (omega arith))

first_plain : (b : ℕ) (s : Bytes) → count_before b (take (count_before b s) s) ≡ count_before b s
unfolding count_before
first_plain b [] = refl
first_plain b (x ∷ s) = go (eqb x b) refl (first_plain b s)
  where
    go : (t : Bool) → eqb x b ≡ t → count_before b (take (count_before b s) s) ≡ count_before b s
        → count_before b (take (cond t 0 (suc (count_before b s))) (x ∷ s)) ≡ cond t 0 (suc (count_before b s))
    go true e rec = refl
    go false e rec = rw e (ap suc rec)

pub no_line : {s : Bytes} {e : ℕ} → Ends LF s 0 e → e ≡ length s → Without LF s
unfolding end_from
no_line r h = omega (arith, r.place)

pub first_line_parted : {s : Bytes} {e : ℕ} → Ends LF s 0 e → e < length s
    → FirstLine s (take e s) (take (length s - (e + 1)) (drop (e + 1) s))
unfolding end_from
first_line_parted {s} {e} r h =
    let n : e ≡ count_before LF s = omega (arith, r.place) in
    let rest : take (length s - (e + 1)) (drop (e + 1) s) ≡ drop (e + 1) s =
    take_all _ _ (omega (arith, length-drop (e + 1) s)) in
    record {
      is = rw (rest, n, add-one (count_before LF s)) (first_parted LF s (omega arith));
      plain = rw n (first_plain LF s ∙ sym (length-take-le _ s (upto_most LF s)));
    }
