-- The tally of a session stays complete.
use mathlib.Core.List.{List, [], ◌∷◌}
use Rattle.std.specs.Prelude.{Result, Ok as Read, Err as Refused, IfOk}
use Rattle.std.proofs.Math.Option.{Option, none, some}
use Rattle.std.specs.Prelude.{◌≡◌, refl, Bool, ◌||◌, cond, ℕ, ◌-◌, zero, suc, ◌+◌, get_or, length, leb}
use Rattle.std.proofs.Common.{subst, sym, true≢false, arith}
use Rattle.std.proofs.Math.Bool.{true, false}
use Rattle.std.proofs.Math.ListN.{set}
use Rattle.std.proofs.lemmas.Result.{IfOk-weaker}
use Rattle.diagram.specs.Tensor.{Tensor, same, bits, constant, depends, indices, indices_count, index_count}
use Rattle.diagram.specs.Tally.{Set, member, filled_tensors, collect, Step, sum, cont, low, build, keeps, return}
use Rattle.diagram.specs.Sets.{PrefixOf}
use Rattle.diagram.specs.SetsLaws.{prefix_refl}
use Rattle.diagram.specs.TallyCoverLaws.{covers_prefix, covers_constant}
use Rattle.diagram.specs.Reach.{Covers}
use Rattle.diagram.specs.TensorLaws.{same_eq, same_refl}
use Rattle.diagram.specs.TestLaws.{or_right}
use Rattle.diagram.specs.TallyCollectLaws.{collect_covers, collect_exactly}
use Rattle.diagram.specs.Weights.{to_weight}
use Rattle.diagram.specs.TopFreeLaws.{depends_free}
use Rattle.diagram.specs.SetsNormalLaws.{normal_set_collect, normal_set_empty}
use Rattle.diagram.specs.TallySetAfterLaws.{sum_set_after, cont_set_after, low_set_after, build_set_after}
use Rattle.diagram.specs.TallyStep.{SetAfter}
use Rattle.diagram.specs.Lows.{lows, clash}
use Rattle.diagram.specs.TallyLowsLaws.{lows_set_after}
use Rattle.diagram.specs.Gate.{gate_tensor, unit_tensor}
use Rattle.text.specs.Text.{Bytes}
use Rattle.text.specs.Limits.{answer_room}
use Rattle.text.specs.Call.{InRange}
use Rattle.text.specs.Line.{read_line}
use Rattle.text.specs.Session.{Capacity, fits, Tally, TallyReply, answer, answer_read, accept, refuse, settle}
use Rattle.text.specs.Session.{with_tensor}
use Rattle.text.specs.Session.{with_register, empty_tally, TallyRun, empty_run, with_answer, stopped_run, run}
use Rattle.text.specs.Complete.{AllCovered, LowBelow, Complete}
use Rattle.text.specs.LineLaws.{line_ranged}
use Rattle.text.specs.declared.call.Refusal.TheVariants.{Full, Depends}
use Rattle.text.specs.declared.call.Call.{Call}
use Rattle.text.specs.declared.call.Refusal.{Refusal}
use Rattle.text.specs.declared.call.Call.TheVariants as call

covered_grown : {d : ℕ} {s u : Set d} (l : List (Option (Tensor d))) → PrefixOf s u → AllCovered s l → AllCovered u l
covered_grown [] g c = tt
covered_grown (none ∷ l) g c = covered_grown l g c
covered_grown (some T ∷ l) g c = (covers_prefix T g c.0, covered_grown l g c.1)

covered_set : {d : ℕ} (s : Set d) (l : List (Option (Tensor d))) (r : ℕ) (T : Tensor d) → Covers s T → AllCovered s l
    → AllCovered s (set l r (some T))
covered_set s [] r T h c = tt
covered_set s (none ∷ l) zero T h c = (h, c)
covered_set s (some U ∷ l) zero T h c = (h, c.1)
covered_set s (none ∷ l) (suc r) T h c = covered_set s l r T h c
covered_set s (some U ∷ l) (suc r) T h c = (c.0, covered_set s l r T h c.1)

covered_clear : {d : ℕ} (s : Set d) (l : List (Option (Tensor d))) (r : ℕ) → AllCovered s l
    → AllCovered s (set l r none)
covered_clear s [] r c = tt
covered_clear s (none ∷ l) zero c = c
covered_clear s (some U ∷ l) zero c = c.1
covered_clear s (none ∷ l) (suc r) c = covered_clear s l r c
covered_clear s (some U ∷ l) (suc r) c = (c.0, covered_clear s l r c.1)

covered_at : {d : ℕ} (s : Set d) (l : List (Option (Tensor d))) (a : ℕ) {T : Tensor d} → AllCovered s l
    → get_or l a none ≡ some T → Covers s T
covered_at s [] a c e = absurd (let z : ◌≡◌ {A = ℕ} 0 1 = cc in omega arith)
covered_at s (none ∷ l) zero c e = absurd (let z : ◌≡◌ {A = ℕ} 0 1 = cc in omega arith)
covered_at s (some U ∷ l) zero {T} c e = let q : U ≡ T = cc in subst (Covers s) q c.0
covered_at s (none ∷ l) (suc a) c e = covered_at s l a c e
covered_at s (some U ∷ l) (suc a) c e = covered_at s l a c.1 e

covered_filled : {d : ℕ} (s : Set d) (l : List (Option (Tensor d))) → AllCovered s l → (T : Tensor d)
    → member T (filled_tensors l) ≡ true → Covers s T
unfolding filled_tensors member
covered_filled s [] c T e = absurd (true≢false (sym e))
covered_filled s (none ∷ l) c T e = covered_filled s l c T e
covered_filled s (some U ∷ l) c T e = go (same T U) refl e (covered_filled s l c.1 T)
  where
    go : (b : Bool) → same T U ≡ b → (b || member T (filled_tensors l)) ≡ true
        → (member T (filled_tensors l) ≡ true → Covers s T)
        → Covers s T
    go true q e ih = subst (Covers s) (sym (same_eq T U q)) c.0
    go false q e ih = ih e

covered_collect : {d : ℕ} (f : List (Tensor d)) (s : Set d) (l : List (Option (Tensor d))) → AllCovered s l
    → ((T : Tensor d) → member T (filled_tensors l) ≡ true → member T f ≡ true) → AllCovered (collect f s) l
unfolding filled_tensors member
covered_collect f s [] c h = tt
covered_collect f s (none ∷ l) c h = covered_collect f s l c h
covered_collect f s (some T ∷ l) c h = (
  collect_covers f s T (h T (rw (same_refl T))) c.0,
  covered_collect f s l c.1 (λ U e. h U (or_right (same U T) (member U (filled_tensors l)) e)),
)

-- the pieces of a call

module _ {d : ℕ} (c : Capacity) (t : Tally d) (k : Complete t) where
  settle_complete : (r : ℕ) (f : Step d) → SetAfter t.nodes (f t.nodes)
      → Complete (settle c r (f t.nodes) t).1
  unfolding settle accept refuse
  settle_complete r f a = go (fits c (length (f t.nodes).1))
    where
      go : (b : Bool)
          → Complete
          (cond b (accept (record {
            nodes = (f t.nodes).1;
            registers = set t.registers r (some (f t.nodes).0);
          })) (refuse Full t)).1
      go true = record {
        normal = a.normal k.normal;
        covered =
            covered_set (f t.nodes).1 t.registers r (f t.nodes).0 a.covered
            (covered_grown t.registers a.grown k.covered);
      }
      go false = k

  register_complete : (a : ℕ) (f : Tensor d → TallyReply d) → ((T : Tensor d) → Covers t.nodes T → Complete (f T).1)
      → Complete (with_register t a f).1
  unfolding with_register with_tensor refuse
  register_complete a f h =
      go (get_or t.registers a none) (λ T e. covered_at t.nodes t.registers a k.covered e)
    where
      go : (o : Option (Tensor d)) → ((T : Tensor d) → o ≡ some T → Covers t.nodes T)
          → Complete (with_tensor o t f).1
      go none v = k
      go (some T) v = h T (v T refl)

  -- a step that is not done where the test says 7
  unless_complete : (b : Bool) (r : ℕ) (f : Step d) → (b ≡ false → SetAfter t.nodes (f t.nodes))
      → Complete (cond b (refuse Depends t) (settle c r (f t.nodes) t)).1
  unfolding refuse
  unless_complete true r f h = k
  unless_complete false r f h = settle_complete r f (h refl)

  -- a call whose indices are below d leaves a complete tally complete
  pub answer_complete : (x : Call) → LowBelow d x → Complete (answer c x t).1
  unfolding answer accept refuse return
  answer_complete (call.Put r w) i =
      settle_complete r (return (constant d (to_weight w))) (record {
        grown = prefix_refl t.nodes;
        normal = λ h. h;
        covered = covers_constant t.nodes (to_weight w);
      })
  answer_complete (call.Gate r g) i =
      settle_complete r (build (gate_tensor d g)) (build_set_after t.nodes (gate_tensor d g))
  answer_complete (call.Unit r n) i =
      settle_complete r (build (unit_tensor d n)) (build_set_after t.nodes (unit_tensor d n))
  answer_complete (call.Add r a b) i =
      register_complete a _ (λ A p. register_complete b _
      (λ B q. settle_complete r (sum A B) (sum_set_after t.nodes A B p q)))
  answer_complete (call.Cont r a b m) i =
      register_complete a _ (λ A p. register_complete b _
      (λ B q. settle_complete r (cont A B (bits m)) (cont_set_after t.nodes A B (bits m))))
  answer_complete (call.Low r a j) i =
      register_complete a _ (λ A p. unless_complete (depends (j - 1) A) r (low j A)
      (λ e. low_set_after t.nodes j A i.0 i.1 (depends_free (j - 1) A e) p))
  answer_complete (call.Drop a) i =
      register_complete a _ (λ A p. record {
        normal = k.normal;
        covered = covered_clear t.nodes t.registers a k.covered;
      })
  answer_complete call.Collect i = record {
    normal = normal_set_collect (filled_tensors t.registers) t.nodes k.normal;
    covered = covered_collect (filled_tensors t.registers) t.nodes t.registers k.covered (λ T e. e);
  }
  answer_complete (call.At a v) i = register_complete a _ (λ A p. k)
  answer_complete (call.Cmp a b) i = register_complete a _ (λ A p. register_complete b _ (λ B q. k))
  answer_complete (call.On a) i = register_complete a _ (λ A p. k)
  answer_complete (call.Lows r a m) i =
      register_complete a _ (λ A p. unless_complete (clash (bits m) A) r (lows (bits m) A)
      (λ e. lows_set_after t.nodes (bits m) A))

  -- .. and so does a line that was read; one that is refused leaves the tally as it was
  pub read_complete : (x : Result Call Refusal) → IfOk x (LowBelow d) → Complete (answer_read c x t).1
  unfolding refuse
  read_complete (Read x) i = answer_complete x i
  read_complete (Refused r) i = k

  -- "the set keeps exactly the normal multiples of the nonconstant tensors got from filled registers": a filter loses
  -- nothing that document 01 keeps
  pub collect_keeps_all : (x : Tensor d)
      → member x (collect (filled_tensors t.registers) t.nodes) ≡ member x (keeps d (filled_tensors t.registers))
  collect_keeps_all =
      collect_exactly (filled_tensors t.registers) t.nodes (covered_filled t.nodes t.registers k.covered)

-- "empty at first"
pub start_complete : (d : ℕ) → Complete (empty_tally {d = d})
unfolding empty_tally
start_complete d = record { normal = normal_set_empty; covered = tt }

-- At every point of every run: for all lines, and so for those answered so far.

ranged_low_below : (x : Call) → InRange x → LowBelow index_count x
ranged_low_below (call.Put r w) h = tt
ranged_low_below (call.Gate r g) h = tt
ranged_low_below (call.Unit r n) h = tt
ranged_low_below (call.Add r a b) h = tt
ranged_low_below (call.Cont r a b m) h = tt
ranged_low_below (call.Low r a k) h = (h.1.1.0, omega (arith, h.1.1.1))
ranged_low_below (call.Drop a) h = tt
ranged_low_below call.Collect h = tt
ranged_low_below (call.At a v) h = tt
ranged_low_below (call.Cmp a b) h = tt
ranged_low_below (call.On a) h = tt
ranged_low_below (call.Lows r a m) h = tt

module _ (c : Capacity) (room : ℕ) where
  line_complete : (l : Bytes) (t : Tally indices) → Complete t → Complete (answer_read c (read_line l) t).1
  line_complete l t k =
      read_complete c t k (read_line l)
      (rw indices_count (IfOk-weaker (read_line l) InRange (LowBelow index_count) ranged_low_below (line_ranged l)))

  lines_complete : (ls : List Bytes) (r : TallyRun indices) → Complete r.tally → Complete (run c room ls r).tally
  unfolding run with_answer stopped_run
  lines_complete [] r k = k
  lines_complete (l ∷ ls) r k =
      go (leb (length r.output + answer_room) room)
      (lines_complete ls (with_answer r (answer_read c (read_line l) r.tally)) (line_complete l r.tally k))
    where
      go : (b : Bool) → Complete (run c room ls (with_answer r (answer_read c (read_line l) r.tally))).tally
          → Complete (cond b (run c room ls (with_answer r (answer_read c (read_line l) r.tally)))
          (stopped_run r)).tally
      go true h = h
      go false h = k

  -- its set is normal, no tensor stands in it twice, and it has what its registers need
  pub run_complete : (ls : List Bytes) → Complete (run {d = indices} c room ls empty_run).tally
  unfolding empty_run
  run_complete ls = lines_complete ls empty_run (start_complete indices)

  -- so a `collect` at any point of a run keeps exactly what document 01 says
  pub run_collects : (ls : List Bytes) (x : Tensor indices)
      → member x (collect (filled_tensors (run c room ls empty_run).tally.registers)
      (run c room ls empty_run).tally.nodes)
      ≡ member x (keeps indices (filled_tensors (run c room ls empty_run).tally.registers))
  run_collects ls = collect_keeps_all c (run c room ls empty_run).tally (run_complete ls)
