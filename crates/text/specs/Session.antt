-- The tally of a session (document 01, "The tally" and "Session calls"; document 02, `on` and `lows`): "the plain
-- machine that sessions are compared with. It is fed the session's lines, the capacity and the length of the output,
-- and nothing that the engine holds or answers." d is the number of indices: 24 in the engine, fewer where the checker
-- computes a session.
use Rattle.std.specs.Prelude.{Bool, true, cond, List, [], ◌++◌, ◌∷◌, ℕ, ◌-◌, suc, ◌+◌, leb, replicate, length, set}
use Rattle.std.specs.Prelude.{get_or, Result, Ok, Err}
use Rattle.std.proofs.Math.Option.{Option, none, some}
use Rattle.diagram.specs.Tensor.{Tensor, bits, value, constant, depends}
use Rattle.diagram.specs.Tally.{Set, sum, cont, low, build, collect, filled_tensors}
use Rattle.diagram.specs.Weights.{to_weight}
use Rattle.diagram.specs.Gate.{gate_tensor, unit_tensor}
use Rattle.diagram.specs.Compare.{compared}
use Rattle.diagram.specs.Support.{support_mask}
use Rattle.diagram.specs.Lows.{lows, clash}
use Rattle.text.specs.Text.{lines}
use Rattle.text.specs.Limits.{register_count, answer_room}
use Rattle.text.specs.Line.{read_line}
use Rattle.text.specs.Answer.{printed}
use Rattle.text.specs.declared.answer.Answer.{Answer}
use Rattle.text.specs.declared.answer.Answer.TheVariants.{Done, Compared, Value, Mask}
use Rattle.text.specs.declared.call.Refusal.{Refusal}
use Rattle.text.specs.declared.call.Refusal.TheVariants.{Full, Empty, Depends}
use Rattle.text.specs.declared.call.Call.{Call}
use Rattle.text.specs.declared.call.Call.TheVariants as call

-- At most so many nodes (`capacity` of the lent store, in diagram's Node); or no limit: "A list's tensor is the one its
-- register ends with at unlimited capacity."
pub data Capacity : Type 0 where
  at_most : ℕ → Capacity
  unlimited : Capacity

abbrev pub fits : Capacity → ℕ → Bool
fits (at_most c) n = leb n c
fits unlimited n = true

-- "It holds a set of normal tensors, empty at first, and sixteen registers, each empty or a tensor, all empty at
-- first."
pub record Tally (d : ℕ) : Type 0 where
  pub nodes : Set d
  pub registers : List (Option (Tensor d))

unfoldable pub empty_tally : {d : ℕ} → Tally d
empty_tally = record { nodes = []; registers = replicate register_count none }

-- "The tally's node count is the size of its set."
unfoldable pub node_count : {d : ℕ} → Tally d → ℕ
node_count t = length t.nodes

-- a call answers, and leaves the tally
abbrev pub TallyReply : ℕ → Type 0
TallyReply d = Result Answer Refusal × Tally d

-- "A refused line leaves set and registers as they were." ".. a refused one `no` and its number."
unfoldable pub refuse : {d : ℕ} → Refusal → Tally d → TallyReply d
refuse r t = (Err r, t)

-- "An accepted call that sets or frees answers `ok` and the node count"
unfoldable pub accept : {d : ℕ} → Tally d → TallyReply d
accept t = (Ok (Done (node_count t)), t)

-- register r set to what a step answered. "A call whose set would exceed the capacity is refused as 8 (full), and set
-- and registers are as before it." "Register d is set last, after the operands are read, and may equal one of them."
unfoldable pub settle : {d : ℕ} → Capacity → ℕ → Tensor d × Set d → Tally d → TallyReply d
settle c r (T, s) t =
    cond (fits c (length s)) (accept (record { nodes = s; registers = set t.registers r (some T) })) (refuse Full t)

-- what is done with the tensor of register a; "3 (a .. empty)"
unfoldable pub with_tensor : {d : ℕ} → Option (Tensor d) → Tally d → (Tensor d → TallyReply d) → TallyReply d
with_tensor none t f = refuse Empty t
with_tensor (some T) t f = f T

unfoldable pub with_register : {d : ℕ} → Tally d → ℕ → (Tensor d → TallyReply d) → TallyReply d
with_register t a f = with_tensor (get_or t.registers a none) t f

-- What a call does and answers. Its line was read, so 1, 2, 4, 5 and 6 are past; "3 from the left; 7; 8".
unfoldable pub answer : {d : ℕ} → Capacity → Call → Tally d → TallyReply d
-- "`put d w`: constant w"
answer {d} c (call.Put r w) t = settle c r (constant d (to_weight w), t.nodes) t
-- "`gate d name q`, or with a second qubit: build of the gate."
answer {d} c (call.Gate r g) t = settle c r (build (gate_tensor d g) t.nodes) t
-- "`unit d n`: .. build of the tensor that is 1 where input equals middle for each qubit below n, else 0."
answer {d} c (call.Unit r n) t = settle c r (build (unit_tensor d n) t.nodes) t
-- "`add d a b`: sum."
answer c (call.Add r a b) t = with_register t a (λ A. with_register t b (λ B. settle c r (sum A B t.nodes) t))
-- "`cont d a b m`: bits of m .. are S."
answer c (call.Cont r a b m) t =
    with_register t a (λ A. with_register t b (λ B. settle c r (cont A B (bits m) t.nodes) t))
-- "`low d a k` .. 7 (a depends on k-1)"
answer c (call.Low r a k) t =
    with_register t a (λ A. cond (depends (k - 1) A) (refuse Depends t) (settle c r (low k A t.nodes) t))
-- "`drop a`: empties a."
answer c (call.Drop a) t =
    with_register t a (λ A. accept (record { nodes = t.nodes; registers = set t.registers a none }))
-- "`collect`"
answer c call.Collect t =
    accept (record { nodes = collect (filled_tensors t.registers) t.nodes; registers = t.registers })
-- "`at a v`: answers `v` and the value at assignment v"
answer c (call.At a v) t = with_register t a (λ A. (Ok (Value (value A v).number), t))
-- "`cmp a b`"
answer c (call.Cmp a b) t = with_register t a (λ A. with_register t b (λ B. (Ok (Compared (compared A B)), t)))
-- "`on a` answers `m` and the register's mask": bit k is set exactly when the tensor depends on index k
answer c (call.On a) t = with_register t a (λ A. (Ok (Mask (support_mask A)), t))
-- "`lows d a m` lowers every index of the set m at the same moment. .. A clash is 7, in the place that `low` has it"
answer c (call.Lows r a m) t =
    with_register t a (λ A. cond (clash (bits m) A) (refuse Depends t) (settle c r (lows (bits m) A t.nodes) t))

-- what a line does and answers: its call's, or what its reader refused
abbrev pub answer_read : {d : ℕ} → Capacity → Result Call Refusal → Tally d → TallyReply d
answer_read c (Ok x) t = answer c x t
answer_read c (Err r) t = refuse r t

-- the run so far: "the code (0 or 9), lines answered, bytes written, the node count and the sixteen registers"
pub record TallyRun (d : ℕ) : Type 0 where
  pub code : ℕ
  pub answered : ℕ
  pub output : List ℕ
  pub tally : Tally d

-- "A session starts with no nodes and empty registers."
unfoldable pub empty_run : {d : ℕ} → TallyRun d
empty_run = record { code = 0; answered = 0; output = []; tally = empty_tally }

-- a line answered
unfoldable pub with_answer : {d : ℕ} → TallyRun d → TallyReply d → TallyRun d
with_answer r (a, t) = record { code = 0; answered = suc r.answered; output = r.output ++ printed a; tally = t }

unfoldable pub stopped_run : {d : ℕ} → TallyRun d → TallyRun d
stopped_run r = record { code = 9; answered = r.answered; output = r.output; tally = r.tally }

-- "Before a line, if fewer than 16 output bytes remain, the run stops with 9 and the line is not begun."
unfoldable pub run : {d : ℕ} → Capacity → ℕ → List (List ℕ) → TallyRun d → TallyRun d
run c room [] r = r
run c room (line ∷ ls) r =
    cond (leb (length r.output + answer_room) room)
    (run c room ls (with_answer r (answer_read c (read_line line) r.tally)))
    (stopped_run r)

-- "A text is split at LF": the session of a text, over a store of this capacity and an output of `room` bytes
unfoldable pub session : (d : ℕ) → Capacity → ℕ → List ℕ → TallyRun d
session d c room text = run c room (lines text) empty_run
