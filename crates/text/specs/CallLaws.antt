-- Laws of Call: what a call carries is in range.
use Rattle.std.specs.Prelude.{◌≡◌, refl, Bool, true, false, cond, ◌&&◌, ◌≢◌, ℕ, ◌%◌, ◌≤◌, ◌<◌, leb, eqb, Result, Ok}
use Rattle.std.specs.Prelude.{Err, Option}
use Rattle.std.proofs.Common.{arith, leb-true, eq-eqb, ne_eqb}
use Rattle.std.proofs.lemmas.Bool.{eqb-false}
use Rattle.diagram.specs.Tensor.{bits, masks}
use Rattle.text.specs.Limits.{last_register, register_count, last_index, last_mask, last_weight, most_qubits}
use Rattle.text.specs.Args.{one_number, two_numbers, three_numbers, four_numbers}
use Rattle.text.specs.Call.{check_register, check_range, check_lowered, malformed, Ranged, check_apart, call_of}
use Rattle.text.specs.Call.{known_call}
use Rattle.text.specs.ArgsLaws.{by_count_lem, known_lem}
use Rattle.text.specs.declared.call.Call.{Call}
use Rattle.text.specs.declared.call.Refusal.{Refusal}
use Rattle.text.specs.declared.call.Refusal.TheVariants.{Register, Range, Equal}
use Rattle.text.specs.declared.call.Call.TheVariants.{Collect}
use Rattle.text.specs.declared.args.Args.{Args}
use Rattle.text.specs.declared.words.Word.{Word}
use Rattle.text.specs.declared.words.Word.TheVariants as word

on_one : (f : ℕ → Result Call Refusal) → ((a : ℕ) → Ranged (f a)) → (x : Args) → Ranged (one_number malformed f x)
on_one f h = by_count_lem Ranged _ f _ _ _ tt h (λ a b. tt) (λ a b c. tt) (λ a b c d. tt)

on_two : (f : ℕ → ℕ → Result Call Refusal) → ((a b : ℕ) → Ranged (f a b)) → (x : Args)
    → Ranged (two_numbers malformed f x)
on_two f h = by_count_lem Ranged _ _ f _ _ tt (λ a. tt) h (λ a b c. tt) (λ a b c d. tt)

on_three : (f : ℕ → ℕ → ℕ → Result Call Refusal) → ((a b c : ℕ) → Ranged (f a b c)) → (x : Args)
    → Ranged (three_numbers malformed f x)
on_three f h = by_count_lem Ranged _ _ _ f _ tt (λ a. tt) (λ a b. tt) h (λ a b c d. tt)

on_four : (f : ℕ → ℕ → ℕ → ℕ → Result Call Refusal) → ((a b c d : ℕ) → Ranged (f a b c d)) → (x : Args)
    → Ranged (four_numbers malformed f x)
on_four f h = by_count_lem Ranged _ _ _ _ f tt (λ a. tt) (λ a b. tt) (λ a b c. tt) h

pub on_register : (d : ℕ) (next : Result Call Refusal) → (d < register_count → Ranged next)
    → Ranged (check_register d next)
on_register d next f = go (leb d last_register) refl
  where
    go : (t : Bool) → leb d last_register ≡ t → Ranged (cond t next (Err Register))
    go true e = f (omega (arith, leb-true d last_register e))
    go false e = tt

pub on_within : (x least most : ℕ) (next : Result Call Refusal) → (least ≤ x → x ≤ most → Ranged next)
    → Ranged (check_range x least most next)
on_within x least most next f = go (leb least x) (leb x most) refl refl
  where
    go : (t u : Bool) → leb least x ≡ t → leb x most ≡ u → Ranged (cond (t && u) next (Err Range))
    go true true p q = f (leb-true least x p) (leb-true x most q)
    go true false p q = tt
    go false u p q = tt

pub lowered_odd : {A : Type 0} (m : ℕ) (next : Result A Refusal) → m % 2 ≡ 1 → Err Range ≡ check_lowered m next
unfolding bits
lowered_odd m next e = rw (eq-eqb (m % 2) 1 e)

pub lowered_even : {A : Type 0} (m : ℕ) (next : Result A Refusal) → m % 2 ≢ 1
    → check_range m 0 last_mask next ≡ check_lowered m next
unfolding bits
lowered_even m next n = rw (ne_eqb (m % 2) 1 n)

on_lowered : (m : ℕ) (next : Result Call Refusal) → (bits m 0 ≡ false → m < masks → Ranged next)
    → Ranged (check_lowered m next)
on_lowered m next f = go (bits m 0) refl
  where
    go : (t : Bool) → bits m 0 ≡ t → Ranged (cond t (Err Range) (check_range m 0 last_mask next))
    go true e = tt
    go false e = on_within m 0 last_mask next (λ l h. f e (omega arith))

pub on_apart : (p q : ℕ) (next : Result Call Refusal) → (p ≢ q → Ranged next) → Ranged (check_apart p q next)
on_apart p q next f = go (eqb p q) refl
  where
    go : (t : Bool) → eqb p q ≡ t → Ranged (cond t (Err Equal) next)
    go true e = tt
    go false e = f (eqb-false p q e)

pub call_ranged : (w : Word) (args : Args) → Ranged (call_of w args)
unfolding call_of
call_ranged word.Put args =
    on_two _ (λ d w. on_register d _ (λ p. on_within w 0 last_weight _ (λ l m. (p, omega arith)))) args
call_ranged word.Unit args =
    on_two _ (λ d n. on_register d _ (λ p. on_within n 1 most_qubits _ (λ l m. (p, (l, m))))) args
call_ranged word.Add args =
    on_three _ (λ d a b. on_register d _ (λ p. on_register a _ (λ q. on_register b _ (λ r. (p, (q, r)))))) args
call_ranged word.Cont args =
    on_four _ (λ d a b m. on_register d _ (λ p. on_register a _ (λ q. on_register b _ (λ r.
    on_within m 0 last_mask _ (λ l h. (p, (q, (r, omega arith)))))))) args
call_ranged word.Low args =
    on_three _ (λ d a k. on_register d _ (λ p. on_register a _
    (λ q. on_within k 1 last_index _ (λ l h. (p, (q, (l, h))))))) args
call_ranged word.Drop args = on_one _ (λ a. on_register a _ (λ p. p)) args
call_ranged word.Collect args =
    by_count_lem Ranged (Ok Collect) _ _ _ _ tt (λ a. tt) (λ a b. tt) (λ a b c. tt) (λ a b c d. tt) args
call_ranged word.At args =
    on_two _ (λ a v. on_register a _ (λ p. on_within v 0 last_mask _ (λ l h. (p, omega arith)))) args
call_ranged word.Cmp args = on_two _ (λ a b. on_register a _ (λ p. on_register b _ (λ q. (p, q)))) args
call_ranged word.On args = on_one _ (λ a. on_register a _ (λ p. p)) args
call_ranged word.Lows args =
    on_three _ (λ d a m. on_register d _ (λ p. on_register a _ (λ q. on_lowered m _ (λ z h. (p, (q, (z, h))))))) args

-- .. and of a word and numbers that were read, or were none
pub known_ranged : (w : Option Word) (args : Option Args) → Ranged (known_call w args)
known_ranged w args = known_lem Ranged _ _ tt (λ w. known_lem Ranged _ _ tt (call_ranged w) args) w
