-- Laws of texts that are taken from an input: part after part, and that they are its pieces between one end and the
-- next.
use Rattle.std.specs.Prelude.{◌≡◌, ◌≢◌, refl, ◌++◌, [], ◌∷◌, ℕ, ◌+◌, ◌-◌, ◌<◌, ◌≤◌, ◌&&◌, cond, eqb, ltb, nat_lt}
use Rattle.std.specs.Prelude.{not, Bool, true, false, Option, Some, None, min}
use Rattle.std.specs.Prelude.{List, All, length, take, drop, slice_index}
use Rattle.std.specs.Io.KnownBytes.{prepend_known, Keeps, Consumes, IsAtEnd}
use Rattle.std.specs.Io.BufRead.{take_through, drop_through, ends_with_byte, strip_last, first_piece}
use Rattle.std.proofs.Common.{◌∙◌, sym, ap, arith, length-append, append-nil, append_assoc, eq-eqb, ne_eqb}
use Rattle.std.proofs.Common.{add-one, take-suc, take-append-drop, length-take}
use Rattle.std.proofs.KnownBytes.{Consumes-trans, Consumes-kept}
use Rattle.std.proofs.BufReadLemmas.{take_through-append, drop_through-append}
use Rattle.std.proofs.Math.Seq.{take-append_seam, get_or-append_seam, take-nil}
use Rattle.std.proofs.lemmas.Bool.{lt-ltb, le-ltb, ltb-true, ltb-false, leb-true, leb-false, eqb-true, eqb-false}
use Rattle.std.proofs.Common.{leb, drop_of_length-le, length-drop}
use Rattle.stdin.specs.declared.parts.Parts.{Parts}
use Rattle.std.proofs.lemmas.List.{drop-drop, drop-take, get_or-take}
use Rattle.std.proofs.lemmas.List.Sums.{passes_at_first, fails_before_first, prefix_len-le-length}
use Rattle.std.specs.List.{position, position_or_len}
use Rattle.std.specs.Option.{unwrap_or}
use Rattle.std.proofs.Math.Decide.{dec_lt}
use Rattle.std.proofs.lemmas.List.Elements.{All-append}
use Rattle.stdin.specs.Parts.{at_hand, FillEnsures, TakesText, PutEnsures, BeforeEnsures, TextComes, Holds}

-- a part up to its first `end`

found_or_len : (n m : ℕ) → n ≤ m → unwrap_or (cond (ltb n m) (Some n) None) m ≡ n
found_or_len n m h =
    elim (dec_lt n m) [ yes p ↦ rw (lt-ltb n m p) refl | no p ↦ rw (le-ltb n m (omega arith)) (omega arith) ]

-- how many bytes stand before it, all of them where it does not come
pub before : (end : ℕ) (part : List ℕ) {r : Option ℕ} {text text' : List ℕ} {len len' count : ℕ}
    → r ≡ position (λ x. eqb x end) part
    → count ≡ unwrap_or r (length part)
    → PutEnsures (take count part) text len text' len'
    → BeforeEnsures end part text len text' count len'
before end part {r} {count = count} e c p =
    let test : ℕ → Bool = λ x. eqb x end in
    let n = position_or_len test part in
    let most : n ≤ length part = prefix_len-le-length (λ x. not (test x)) part in
    let is : n ≡ count = sym (c ∙ rw e (found_or_len n (length part) most)) in
    rw (← is) record {
      within = most;
      before = λ k d h.
          let i : k < n = omega (arith, length-take n part) in
          rw (get_or-take n part k d i) (eqb-false _ end (fails_before_first test part k d i));
      puts = rw is p;
      ended = λ h. eqb-true _ end (passes_at_first test part 0 h);
    }

-- what is at hand

-- its first k bytes are taken
hand_taken : (w : Option (List ℕ)) (xs : List ℕ) (k : ℕ)
    → Consumes (prepend_known xs w) (prepend_known (drop k xs) w) (take k xs)
hand_taken None xs k = tt
hand_taken (Some ys) xs k =
    ap (λ l. l ++ ys) (sym (take-append-drop k xs)) ∙ append_assoc (take k xs) (drop k xs) ys

-- the bytes from `at` to `to`, without the first k
hand_after : (part : List ℕ) (at to k : ℕ) → k ≤ to - at
    → take (to - (at + k)) (drop (at + k) part) ≡ drop k (take (to - at) (drop at part))
hand_after part at to k h =
    let n = to - at - k in
    let rest : to - (at + k) ≡ n = omega arith in
    let all : to - at ≡ k + n = omega arith in
    ap (λ x. take x (drop (at + k) part)) rest ∙ ap (take n) (sym (drop-drop k at part))
    ∙ sym (drop-take k n (drop at part)) ∙ ap (λ x. drop k (take x (drop at part))) (sym all)

hand_none : (part : List ℕ) (at end : ℕ) → min end (length part) ≤ at → take (end - at) (drop at part) ≡ []
hand_none part at end h = go (leb end at) refl
  where
    go : (b : Bool) → leb end at ≡ b → take (end - at) (drop at part) ≡ []
    go true q = let e : end - at ≡ 0 = omega (arith, leb-true end at q) in ap (λ n. take n (drop at part)) e
    go false q =
        let few : length part ≤ at = omega (arith, leb-false end at q, h) in
        ap (take (end - at)) (drop_of_length-le part {i = at} few) ∙ take-nil (end - at)

kept_anew : (w w' : Option (List ℕ)) (hand came : List ℕ) → hand ≡ [] → Consumes w w' came
    → Keeps (prepend_known hand w) (prepend_known came w')
kept_anew None w' hand came e p = tt
kept_anew (Some xs) None hand came e p = absurd p
kept_anew (Some xs) (Some ys) hand came e p = sym p ∙ ap (λ l. l ++ xs) (sym e)

end_anew : (w : Option (List ℕ)) (came : List ℕ) → came ≡ [] → IsAtEnd w → IsAtEnd (prepend_known came w)
end_anew None came e p = tt
end_anew (Some ys) came e p = rw (e, p) refl

-- a read where nothing was at hand
pub read_fills : {R : Type 0} {remaining : R → Option (List ℕ)} {p q : Parts R} {n : ℕ}
    → min p.end (length p.part.now) ≤ p.at
    → Consumes (remaining p.input) (remaining q.input) (take n q.part.now)
    → (n ≡ 0 → 0 < length q.part.now → IsAtEnd (remaining q.input))
    → n ≤ length q.part.now
    → length q.part.now ≡ length p.part.now
    → q.at ≡ 0
    → q.end ≡ n
    → FillEnsures remaining p q (nat_lt 0 n)
read_fills {remaining = remaining} {p} {q} {n} h k ended within long at end =
    let all : q.end - q.at ≡ n = omega (arith, at, end) in
    let hand : at_hand q ≡ take n q.part.now =
    ap (λ x. take x (drop q.at q.part.now)) all ∙ ap (λ i. take n (drop i q.part.now)) at in record {
      kept = rw hand (kept_anew (remaining p.input) (remaining q.input) _ _ (hand_none p.part.now p.at p.end h) k);
      within = rw end within;
      some = λ e. rw (at, end) (ltb-true 0 n e);
      none = λ e r.
          let z : n ≡ 0 = omega (arith, ltb-false 0 n e) in
          rw hand (end_anew (remaining q.input) _ (ap (λ x. take x q.part.now) z) (ended z (rw long r)));
    }

-- the text so far, and a part of which `count` bytes are put

hand_length : (part : List ℕ) (at to : ℕ) → to ≤ length part → length (take (to - at) (drop at part)) ≡ to - at
hand_length part at to h = length-take (to - at) (drop at part) ∙ omega (arith, length-drop at part)

-- .. before its end
pub text_ended : {end room count len len' : ℕ} {v w' : Option (List ℕ)} {s t t' : List ℕ} (at to : ℕ)
    (w : Option (List ℕ)) (part : List ℕ)
    → TextComes end v w' s t len
    → Keeps w' (prepend_known (take (to - at) (drop at part)) w)
    → BeforeEnsures end (take (to - at) (drop at part)) t len t' count len'
    → count < to - at
    → to ≤ length part
    → TakesText end room v (prepend_known (take (to - (at + (count + 1))) (drop (at + (count + 1)) part)) w) s t'
    (Some len')
text_ended {end} {count = count} {v = v} {w'} at to w part c k b h r =
    let hand = take (to - at) (drop at part) in
    let long : length hand ≡ to - at = hand_length part at to r in
    let within : count < length hand = omega (arith, long) in
    let front : take (count + 1) hand ≡ take count hand ++ end ∷ [] =
    rw (add-one count) (take-suc hand count 0 within) ∙ ap (λ x. take count hand ++ x ∷ []) (b.ended within) in
    let rest = hand_after part at to (count + 1) (omega arith) in
    let both = Consumes-trans v (prepend_known hand w) (prepend_known (drop (count + 1) hand) w) c.came
    (take (count + 1) hand) (Consumes-kept v w' (prepend_known hand w) c.came c.consumes k)
    (hand_taken w hand (count + 1)) in
    record {
      long = b.puts.long ∙ c.long;
      came = c.came ++ take count hand;
      whole = All-append (λ x. x ≢ end) c.came (take count hand) c.whole b.before;
      taken = (
        b.puts.on c.came c.holds,
        rw (rest, append_assoc c.came (take count hand) (end ∷ []), ← front) both,
      );
    }

-- .. all of them
pub text_goes_on : {end count len len' : ℕ} {v w' : Option (List ℕ)} {s t t' : List ℕ} (at to : ℕ)
    (w : Option (List ℕ)) (part : List ℕ)
    → TextComes end v w' s t len
    → Keeps w' (prepend_known (take (to - at) (drop at part)) w)
    → BeforeEnsures end (take (to - at) (drop at part)) t len t' count len'
    → to - at ≤ count
    → to ≤ length part
    → TextComes end v (prepend_known (take (to - to) (drop to part)) w) s t' len'
text_goes_on {end} {count} {v = v} {w'} at to w part c k b h r =
    let hand = take (to - at) (drop at part) in
    let long : length hand ≡ to - at = hand_length part at to r in
    let none : drop count hand ≡ [] = drop_of_length-le hand {i = count} (omega (arith, long)) in
    let zero : to - to ≡ 0 = omega arith in
    let empty : take (to - to) (drop to part) ≡ drop count hand = ap (λ n. take n (drop to part)) zero ∙ sym none in
    record {
      long = b.puts.long ∙ c.long;
      came = c.came ++ take count hand;
      whole = All-append (λ x. x ≢ end) c.came (take count hand) c.whole b.before;
      holds = b.puts.on c.came c.holds;
      consumes = rw empty (Consumes-trans v (prepend_known hand w) (prepend_known (drop count hand) w) c.came
          (take count hand) (Consumes-kept v w' (prepend_known hand w) c.came c.consumes k) (hand_taken w hand count));
    }

-- where it is known what is left

module _ (end : ℕ) where
  through_end : (came rest : List ℕ) → All (λ b. b ≢ end) came
      → (take_through end (came ++ end ∷ rest) ≡ came ++ end ∷ []) × (drop_through end (came ++ end ∷ rest) ≡ rest)
  through_end came rest h =
      let hit = eq-eqb end end refl in (
        take_through-append end came (end ∷ rest) h
            ∙ ap (λ b. came ++ cond b (end ∷ []) (end ∷ take_through end rest)) hit,
        drop_through-append end came (end ∷ rest) h ∙ ap (λ b. cond b rest (drop_through end rest)) hit,
      )

  last_place : (came : List ℕ) → length (came ++ end ∷ []) - 1 ≡ length came
  last_place came = omega (arith, length-append came (end ∷ []))

  ends_at_end : (came : List ℕ) → ends_with_byte end (came ++ end ∷ []) ≡ true
  ends_at_end came =
      let n = length (came ++ end ∷ []) in
      let some : 0 < n = omega (arith, length-append came (end ∷ [])) in
      let last : slice_index (came ++ end ∷ []) (n - 1) ≡ end =
      ap (λ i. slice_index (came ++ end ∷ []) i) (last_place came) ∙ get_or-append_seam came end [] 0 in
      ap (λ b. b && eqb (slice_index (came ++ end ∷ []) (n - 1)) end) (lt-ltb 0 n some) ∙ eq-eqb _ end last

  stripped : (came : List ℕ) → strip_last end (came ++ end ∷ []) ≡ came
  stripped came =
      let all = came ++ end ∷ [] in
      ap (λ b. cond b (take (length all - 1) all) all) (ends_at_end came) ∙ ap (λ n. take n all) (last_place came)
      ∙ take-append_seam came (end ∷ [])

  -- a text is the first piece of what was left, and what is left is what comes after its end
  pub text_is_piece : {room len : ℕ} {xs : List ℕ} {w' : Option (List ℕ)} {s t : List ℕ}
      → TakesText end room (Some xs) w' s t (Some len)
      → Holds (first_piece end xs) t len × (ends_with_byte end (take_through end xs) ≡ true)
      × (w' ≡ Some (drop_through end xs))
  text_is_piece {w' = None} v = absurd v.taken.1
  text_is_piece {len = len} {xs} {w' = Some ys} {t = t} v =
      let came = v.came in
      let is : came ++ end ∷ ys ≡ xs = sym (v.taken.1 ∙ append_assoc came (end ∷ []) ys) in
      let through = through_end came ys v.whole in
      let taken : take_through end xs ≡ came ++ end ∷ [] = ap (take_through end) (sym is) ∙ through.0 in (
        rw (ap (strip_last end) taken ∙ stripped came) v.taken.0,
        ap (ends_with_byte end) taken ∙ ends_at_end came,
        ap Some (sym (ap (drop_through end) (sym is) ∙ through.1)),
      )

  no_end : (came : List ℕ) → All (λ b. b ≢ end) came → ends_with_byte end came ≡ false
  no_end [] h = refl
  no_end (x ∷ xs) h =
      let all = x ∷ xs in
      ap (λ b. b && eqb (slice_index all (length all - 1)) end) (lt-ltb 0 (length all) (omega arith))
      ∙ ne_eqb _ end (h (length all - 1) 0 (omega arith))

  not_stripped : (came : List ℕ) → All (λ b. b ≢ end) came → strip_last end came ≡ came
  not_stripped came h = ap (λ b. cond b (take (length came - 1) came) came) (no_end came h)

  -- where no text comes, all that was left is the last part, which has no end
  pub last_part_is_none : {room : ℕ} {xs : List ℕ} {w' : Option (List ℕ)} {s t : List ℕ} → 0 < room
      → TakesText end room (Some xs) w' s t None
      → ((len : ℕ) × Holds (first_piece end xs) t len) × (ends_with_byte end (take_through end xs) ≡ false)
      × (w' ≡ Some [])
  last_part_is_none {w' = None} p v = absurd v.taken.1.0
  last_part_is_none {xs = xs} {w' = Some ys} {t = t} p v =
      let came = v.came in
      let none : ys ≡ [] = v.taken.1.1 p in
      let is : xs ≡ came ++ [] = v.taken.1.0 ∙ ap (λ l. came ++ l) none in
      let taken : take_through end xs ≡ came =
      ap (take_through end) is ∙ take_through-append end came [] v.whole ∙ append-nil came in
      let held : Holds (first_piece end xs) t v.taken.0.0 =
      rw (ap (strip_last end) taken ∙ not_stripped came v.whole) v.taken.0.1 in (
        (v.taken.0.0, held),
        ap (ends_with_byte end) taken ∙ no_end came v.whole,
        ap Some none,
      )
