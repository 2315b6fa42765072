-- The numbers that bound what a line says and what is printed (document 01, "The field", "Session calls", "Verdicts").
use Rattle.std.specs.Prelude.{ℕ}

-- "sixteen registers", "2 register above 15"
abbrev pub register_count : ℕ
register_count = 16

abbrev pub last_register : ℕ
last_register = 15

-- weights are "the whole numbers 0 to 65536"
abbrev pub last_weight : ℕ
last_weight = 65536

-- "n 1 to 8"
abbrev pub most_qubits : ℕ
most_qubits = 8

abbrev pub last_qubit : ℕ
last_qubit = 7

-- "bits of m, at most 16777215, are S", "the value at assignment v, at most 16777215": 24 bits
abbrev pub last_mask : ℕ
last_mask = 16777215

-- "k 1 to 23"
abbrev pub last_index : ℕ
last_index = 23

-- "Numbers have 1 to 8 digits and no needless leading zero."
abbrev pub most_digits : ℕ
most_digits = 8

-- "Before a line, if fewer than 16 output bytes remain, the run stops with 9 and the line is not begun."
abbrev pub answer_room : ℕ
answer_room = 16

-- "Fewer than 32 output bytes returns 9 and writes nothing"
abbrev pub verdict_room : ℕ
verdict_room = 32

-- what holds every line as `squeeze` leaves it: six fields of at most 9 bytes, and a tab between two of them
abbrev pub line_room : ℕ
line_room = 64
