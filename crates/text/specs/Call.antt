-- Session calls (document 01, "Session calls"; document 02, `on` and `lows`): a word and its numbers, with the checks
-- that need the line alone.
use Rattle.std.specs.Prelude.{◌≡◌, false, cond, ◌&&◌, ℕ, ◌≤◌, ◌<◌, leb, eqb, Option, Result, Ok, Err}
use Rattle.std.specs.Prelude.{IfOk, List, ◌++◌, codes, decimal}
use Rattle.diagram.specs.Gate.{printed as printed_gate}
use Rattle.diagram.specs.Weights.{modulus}
use Rattle.diagram.specs.Tensor.{bits, masks}
use Rattle.text.specs.Text.{known}
use Rattle.text.specs.Limits.{last_register, last_index, last_mask, last_weight, most_qubits, register_count}
use Rattle.text.specs.Args.{no_numbers, one_number, two_numbers, three_numbers, four_numbers}
use Rattle.text.specs.Names.{Placed}
use Rattle.text.specs.declared.call.Refusal.{Refusal}
use Rattle.text.specs.declared.call.Refusal.TheVariants.{Malformed, Register, Empty, Range, Name, Equal, Depends}
use Rattle.text.specs.declared.call.Refusal.TheVariants.{Full}
use Rattle.text.specs.declared.call.Call.{Call}
use Rattle.text.specs.declared.args.Args.{Args}
use Rattle.text.specs.declared.words.Word.{Word}
use Rattle.text.specs.declared.words.Word.TheVariants.{Put, Unit as UnitWord, Add, Cont, Low, Drop, Collect, At}
use Rattle.text.specs.declared.words.Word.TheVariants.{Cmp, On, Lows}
use Rattle.text.specs.declared.call.Call.TheVariants as call

-- "1 (unknown word, wrong count of fields, malformed number); .. 2 register above 15, 4 out of range, 5 gate name",
-- "6 (both qubits equal)", "3 (a or b empty)", "7 (a depends on k-1)", "8 (full)"
abbrev pub refusal_number : Refusal → ℕ
refusal_number Malformed = 1
refusal_number Register = 2
refusal_number Empty = 3
refusal_number Range = 4
refusal_number Name = 5
refusal_number Equal = 6
refusal_number Depends = 7
refusal_number Full = 8

abbrev pub malformed : {A : Type 0} → Result A Refusal
malformed = Err Malformed

-- "2 register above 15"
abbrev pub check_register : {A : Type 0} → ℕ → Result A Refusal → Result A Refusal
check_register d next = cond (leb d last_register) next (Err Register)

-- "4 out of range"
abbrev pub check_range : {A : Type 0} → ℕ → ℕ → ℕ → Result A Refusal → Result A Refusal
check_range x least most next = cond (leb least x && leb x most) next (Err Range)

-- "Mask bit 0 set, or a mask above 16777215, is 4."
abbrev pub check_lowered : {A : Type 0} → ℕ → Result A Refusal → Result A Refusal
check_lowered m next = cond (bits m 0) (Err Range) (check_range m 0 last_mask next)

-- "6 (both qubits equal)"
abbrev pub check_apart : {A : Type 0} → ℕ → ℕ → Result A Refusal → Result A Refusal
check_apart p q next = cond (eqb p q) (Err Equal) next

-- "Line checks come in this order: 1 (..); then each field from the left (2 register above 15, 4 out of range, 5 gate
-- name); 6; .."
unfoldable pub call_of : Word → Args → Result Call Refusal
-- "`put d w`: constant w, 0 to 65536."
call_of Put = two_numbers malformed (λ d w. check_register d (check_range w 0 last_weight (Ok (call.Put d w))))
-- "`unit d n`: n 1 to 8"
call_of UnitWord = two_numbers malformed (λ d n. check_register d (check_range n 1 most_qubits (Ok (call.Unit d n))))
-- "`add d a b`: sum."
call_of Add =
    three_numbers malformed
    (λ d a b. check_register d (check_register a (check_register b (Ok (call.Add d a b)))))
-- "`cont d a b m`: bits of m, at most 16777215, are S."
call_of Cont =
    four_numbers malformed
    (λ d a b m. check_register d (check_register a (check_register b
    (check_range m 0 last_mask (Ok (call.Cont d a b m))))))
-- "`low d a k`: k 1 to 23."
call_of Low =
    three_numbers malformed
    (λ d a k. check_register d (check_register a (check_range k 1 last_index (Ok (call.Low d a k)))))
-- "`drop a`: empties a."
call_of Drop = one_number malformed (λ a. check_register a (Ok (call.Drop a)))
-- "`collect`: refuses 1."
call_of Collect = no_numbers malformed (Ok call.Collect)
-- "`at a v`: answers `v` and the value at assignment v, at most 16777215."
call_of At = two_numbers malformed (λ a v. check_register a (check_range v 0 last_mask (Ok (call.At a v))))
-- "`cmp a b`"
call_of Cmp = two_numbers malformed (λ a b. check_register a (check_register b (Ok (call.Cmp a b))))
-- "`on a` .. it refuses 1, 2 and 3 like `drop`."
call_of On = one_number malformed (λ a. check_register a (Ok (call.On a)))
-- "The call `lows d a m` .. 1, 2, 3 and 8 are as for `low`."
call_of Lows =
    three_numbers malformed (λ d a m. check_register d (check_register a (check_lowered m (Ok (call.Lows d a m)))))

-- "1 (unknown word, .. malformed number)"
abbrev pub known_call : Option Word → Option Args → Result Call Refusal
known_call word args = known malformed word (λ w. known malformed args (call_of w))

-- What a call carries is in range.
abbrev pub InRange : Call → Type 0
InRange (call.Put d w) = (d < register_count) × (w < modulus)
InRange (call.Gate d g) = (d < register_count) × Placed most_qubits g
InRange (call.Unit d n) = (d < register_count) × ((1 ≤ n) × (n ≤ most_qubits))
InRange (call.Add d a b) = (d < register_count) × ((a < register_count) × (b < register_count))
InRange (call.Cont d a b m) = (d < register_count) × ((a < register_count) × ((b < register_count) × (m < masks)))
InRange (call.Low d a k) = (d < register_count) × ((a < register_count) × ((1 ≤ k) × (k ≤ last_index)))
InRange (call.Drop a) = a < register_count
InRange call.Collect = Unit
InRange (call.At a v) = (a < register_count) × (v < masks)
InRange (call.Cmp a b) = (a < register_count) × (b < register_count)
InRange (call.On a) = a < register_count
InRange (call.Lows d a m) = (d < register_count) × ((a < register_count) × ((bits m 0 ≡ false) × (m < masks)))

-- What a line's call carries is in range, if the line is a call.
abbrev pub Ranged : Result Call Refusal → Type 0
Ranged r = IfOk r InRange

-- a call as a line has it, with spaces between the fields
abbrev then_number : List ℕ → ℕ → List ℕ
then_number s n = s ++ codes " " ++ decimal n

abbrev pub printed_call : Call → List ℕ
printed_call (call.Put d w) = then_number (then_number (codes "put") d) w
printed_call (call.Gate d g) = then_number (codes "gate") d ++ codes " " ++ printed_gate g
printed_call (call.Unit d n) = then_number (then_number (codes "unit") d) n
printed_call (call.Add d a b) = then_number (then_number (then_number (codes "add") d) a) b
printed_call (call.Cont d a b m) = then_number (then_number (then_number (then_number (codes "cont") d) a) b) m
printed_call (call.Low d a k) = then_number (then_number (then_number (codes "low") d) a) k
printed_call (call.Drop a) = then_number (codes "drop") a
printed_call call.Collect = codes "collect"
printed_call (call.At a v) = then_number (then_number (codes "at") a) v
printed_call (call.Cmp a b) = then_number (then_number (codes "cmp") a) b
printed_call (call.On a) = then_number (codes "on") a
printed_call (call.Lows d a m) = then_number (then_number (then_number (codes "lows") d) a) m
