-- Laws of Session: lines after lines, refused calls, and what fits the capacity.
use Rattle.std.specs.Prelude.{◌≡◌, Bool, ℕ, ◌+◌, ◌-◌, ◌≤◌, suc, length, get_or}
use Rattle.std.specs.Prelude.{Result, Ok, Err, IsErr}
use Rattle.std.proofs.Math.Path.{refl, sym}
use Rattle.std.proofs.Math.Bool.{true, false, cond}
use Rattle.std.proofs.lemmas.Bool.{false≢true}
use mathlib.Core.List.{List, [], ◌∷◌, ◌++◌}
use Rattle.std.proofs.Math.Option.{Option, none, some}
use Rattle.std.proofs.Common.{arith, le-leb, leb-true}
use Rattle.std.proofs.Math.Dec.{leb}
use Rattle.std.proofs.Math.ListN.{set}
use Rattle.diagram.specs.Tensor.{Tensor, bits, depends}
use Rattle.diagram.specs.Lows.{clash}
use Rattle.diagram.specs.Tally.{Set, member, keep_only, collect}
use Rattle.text.specs.Text.{Bytes}
use Rattle.text.specs.Limits.{answer_room}
use Rattle.text.specs.Line.{read_line}
use Rattle.text.specs.Session.{Capacity, answer, answer_read, TallyRun, with_answer, stopped_run, run, Tally}
use Rattle.text.specs.Session.{TallyReply, fits}
use Rattle.text.specs.Session.{accept, refuse, settle, with_tensor, with_register, at_most, unlimited, node_count}
use Rattle.text.specs.declared.call.Refusal.TheVariants.{Full, Depends}
use Rattle.text.specs.declared.call.Call.{Call}
use Rattle.text.specs.declared.call.Refusal.{Refusal}
use Rattle.text.specs.declared.answer.Answer.TheVariants.{Done}
use Rattle.text.specs.declared.call.Call.TheVariants as call

module _ {d : ℕ} (c : Capacity) (room : ℕ) where
  -- a run that has stopped stays as it is
  stopped_stays : (ls : List Bytes) (r : TallyRun d) → leb (length r.output + answer_room) room ≡ false
      → run c room ls (stopped_run r) ≡ stopped_run r
  unfolding run stopped_run
  stopped_stays [] r e = refl
  stopped_stays (l ∷ ls) r e = rw e

  -- lines, and then others
  pub run_append : (ks ls : List Bytes) (r : TallyRun d) → run c room (ks ++ ls) r ≡ run c room ls (run c room ks r)
  unfolding run
  run_append [] ls r = refl
  run_append (k ∷ ks) ls r =
      go (leb (length r.output + answer_room) room) refl
      (run_append ks ls (with_answer r (answer_read c (read_line k) r.tally)))
    where
      go : (b : Bool) → leb (length r.output + answer_room) room ≡ b
          → run c room (ks ++ ls) (with_answer r (answer_read c (read_line k) r.tally))
          ≡ run c room ls (run c room ks (with_answer r (answer_read c (read_line k) r.tally)))
          → cond b (run c room (ks ++ ls) (with_answer r (answer_read c (read_line k) r.tally))) (stopped_run r)
          ≡ run c room ls (cond b (run c room ks (with_answer r (answer_read c (read_line k) r.tally))) (stopped_run r))
      go true e ih = ih
      go false e ih = sym (stopped_stays ls r e)

-- "A refused line leaves set and registers as they were."

abbrev UnchangedIfRefused : {d : ℕ} → Tally d → TallyReply d → Type 0
UnchangedIfRefused t y = IsErr y.0 → y.1 ≡ t

module _ {d : ℕ} (c : Capacity) (t : Tally d) where
  kept_settle : (r : ℕ) (y : Tensor d × Set d) → UnchangedIfRefused t (settle c r y t)
  unfolding settle accept refuse
  kept_settle r y = go (fits c (length y.1))
    where
      go : (b : Bool)
          → UnchangedIfRefused t
          (cond b (accept (record { nodes = y.1; registers = set t.registers r (some y.0) })) (refuse Full t))
      go true e = absurd (false≢true e)
      go false e = refl

  kept_register : (a : ℕ) (f : Tensor d → TallyReply d) → ((T : Tensor d) → UnchangedIfRefused t (f T))
      → UnchangedIfRefused t (with_register t a f)
  unfolding with_register with_tensor refuse
  kept_register a f h = go (get_or t.registers a none)
    where
      go : (o : Option (Tensor d)) → UnchangedIfRefused t (with_tensor o t f)
      go none e = refl
      go (some T) e = h T e

  kept_unless : (b : Bool) (r : ℕ) (y : Tensor d × Set d) → UnchangedIfRefused t
      (cond b (refuse Depends t) (settle c r y t))
  unfolding refuse
  kept_unless true r y = λ e. refl
  kept_unless false r y = kept_settle r y

  pub refused_call_leaves : (x : Call) → IsErr (answer c x t).0 → (answer c x t).1 ≡ t
  unfolding answer accept refuse
  refused_call_leaves (call.Put r w) = kept_settle r _
  refused_call_leaves (call.Gate r g) = kept_settle r _
  refused_call_leaves (call.Unit r n) = kept_settle r _
  refused_call_leaves (call.Add r a b) = kept_register a _ (λ A. kept_register b _ (λ B. kept_settle r _))
  refused_call_leaves (call.Cont r a b m) = kept_register a _ (λ A. kept_register b _ (λ B. kept_settle r _))
  refused_call_leaves (call.Low r a k) = kept_register a _ (λ A. kept_unless (depends (k - 1) A) r _)
  refused_call_leaves (call.Drop a) = kept_register a _ (λ A e. absurd (false≢true e))
  refused_call_leaves call.Collect = λ e. absurd (false≢true e)
  refused_call_leaves (call.At a v) = kept_register a _ (λ A e. refl)
  refused_call_leaves (call.Cmp a b) = kept_register a _ (λ A. kept_register b _ (λ B e. refl))
  refused_call_leaves (call.On a) = kept_register a _ (λ A e. refl)
  refused_call_leaves (call.Lows r a m) = kept_register a _ (λ A. kept_unless (clash (bits m) A) r _)

  -- also a line that its reader refused
  pub refused_leaves : (x : Result Call Refusal) → IsErr (answer_read c x t).0 → (answer_read c x t).1 ≡ t
  unfolding refuse
  refused_leaves (Ok x) = refused_call_leaves x
  refused_leaves (Err r) = λ e. refl

-- The tally's set never exceeds the capacity, so `put`, which puts nothing in, is never refused as full.

fits_fewer : (c : Capacity) (m n : ℕ) → m ≤ n → fits c n ≡ true → fits c m ≡ true
fits_fewer (at_most c) m n p e = le-leb m c (omega (arith, leb-true n c e))
fits_fewer unlimited m n p e = refl

keep_only_fewer : {d : ℕ} (l : List (Tensor d)) (s : Set d) → length (keep_only l s) ≤ length s
unfolding keep_only
keep_only_fewer l [] = omega arith
keep_only_fewer l (x ∷ s) = go (member x l) (keep_only_fewer l s)
  where
    go : (b : Bool) → length (keep_only l s) ≤ length s → length (cond b (x ∷ keep_only l s) (keep_only l s)) ≤ suc
        (length s)
    go true p = omega arith
    go false p = omega arith

module _ {d : ℕ} (c : Capacity) (t : Tally d) (h : fits c (node_count t) ≡ true) where
  abbrev Fit : TallyReply d → Type 0
  Fit y = fits c (node_count y.1) ≡ true

  fit_settle : (r : ℕ) (y : Tensor d × Set d) → Fit (settle c r y t)
  unfolding settle accept refuse node_count
  fit_settle r y = go (fits c (length y.1)) refl
    where
      go : (b : Bool) → fits c (length y.1) ≡ b
          → Fit (cond b (accept (record { nodes = y.1; registers = set t.registers r (some y.0) }))
          (refuse Full t))
      go true e = e
      go false e = h

  fit_register : (a : ℕ) (f : Tensor d → TallyReply d) → ((T : Tensor d) → Fit (f T)) → Fit (with_register t a f)
  unfolding with_register with_tensor refuse
  fit_register a f k = go (get_or t.registers a none)
    where
      go : (o : Option (Tensor d)) → Fit (with_tensor o t f)
      go none = h
      go (some T) = k T

  fit_unless : (b : Bool) (r : ℕ) (y : Tensor d × Set d) → Fit (cond b (refuse Depends t) (settle c r y t))
  unfolding refuse
  fit_unless true r y = h
  fit_unless false r y = fit_settle r y

  pub answer_fits : (x : Call) → fits c (node_count (answer c x t).1) ≡ true
  unfolding answer accept refuse node_count collect
  answer_fits (call.Put r w) = fit_settle r _
  answer_fits (call.Gate r g) = fit_settle r _
  answer_fits (call.Unit r n) = fit_settle r _
  answer_fits (call.Add r a b) = fit_register a _ (λ A. fit_register b _ (λ B. fit_settle r _))
  answer_fits (call.Cont r a b m) = fit_register a _ (λ A. fit_register b _ (λ B. fit_settle r _))
  answer_fits (call.Low r a k) = fit_register a _ (λ A. fit_unless (depends (k - 1) A) r _)
  answer_fits (call.Drop a) = fit_register a _ (λ A. h)
  answer_fits call.Collect = fits_fewer c _ (length t.nodes) (keep_only_fewer _ t.nodes) h
  answer_fits (call.At a v) = fit_register a _ (λ A. h)
  answer_fits (call.Cmp a b) = fit_register a _ (λ A. fit_register b _ (λ B. h))
  answer_fits (call.On a) = fit_register a _ (λ A. h)
  answer_fits (call.Lows r a m) = fit_register a _ (λ A. fit_unless (clash (bits m) A) r _)

  pub read_fits : (x : Result Call Refusal) → fits c (node_count (answer_read c x t).1) ≡ true
  unfolding refuse
  read_fits (Ok x) = answer_fits x
  read_fits (Err r) = h

  -- "`put d w` .. Refuses 1, 2, 4."
  pub put_accepted : (r w : ℕ) → (answer c (call.Put r w) t).0 ≡ Ok (Done (node_count t))
  unfolding answer settle accept node_count
  put_accepted r w = rw h

pub run_fits : {d : ℕ} (c : Capacity) (room : ℕ) (ls : List Bytes) (r : TallyRun d)
    → fits c (node_count r.tally) ≡ true
    → fits c (node_count (run c room ls r).tally) ≡ true
unfolding run with_answer stopped_run
run_fits c room [] r h = h
run_fits c room (l ∷ ls) r h =
    go (leb (length r.output + answer_room) room)
    (run_fits c room ls (with_answer r (answer_read c (read_line l) r.tally)) (read_fits c r.tally h (read_line l)))
  where
    go : (b : Bool)
        → fits c (node_count (run c room ls (with_answer r (answer_read c (read_line l) r.tally))).tally) ≡ true
        → fits c (node_count (cond b (run c room ls (with_answer r (answer_read c (read_line l) r.tally)))
        (stopped_run r)).tally) ≡ true
    go true p = p
    go false p = h
