-- The result of a session and of a verdict, as words.
use Rattle.std.specs.Prelude.{◌≡◌, cond, List, [], ◌∷◌, ◌++◌, ℕ, zero, suc, ◌+◌, ◌*◌, ◌≤◌, length, get_or}
use Rattle.diagram.specs.Registers.{Register, occupied, edge_of, empty_register}
use Rattle.text.specs.Print.{WriteEnsures}
use Rattle.text.specs.declared.progress.SessionResult.{SessionResult}
use Rattle.text.specs.declared.ruling.VerdictResult.{VerdictResult}

-- how many words a register, the sixteen registers, a session and a verdict have
abbrev pub register_size : ℕ
register_size = 3

abbrev pub registers_size : ℕ
registers_size = 48

abbrev pub session_size : ℕ
session_size = 52

abbrev pub verdict_size : ℕ
verdict_size = 2

-- 1 where a register is filled and 0 where it is empty, its weight, its node
unfoldable pub register_words : Register → List ℕ
register_words r = cond (occupied r) 1 0 ∷ (edge_of r).weight ∷ (edge_of r).node ∷ []

-- the words of the first so many registers
unfoldable pub registers_words : ℕ → List Register → List ℕ
registers_words zero rs = []
registers_words (suc i) rs = registers_words i rs ++ register_words (get_or rs i empty_register)

-- "the code (0 or 9), lines answered, bytes written, the node count and the sixteen registers"
unfoldable pub session_words : SessionResult → List ℕ
session_words s = s.code ∷ s.lines ∷ s.bytes ∷ s.count ∷ registers_words 16 s.registers.all

-- "The result is code and bytes written"
unfoldable pub verdict_words : VerdictResult → List ℕ
verdict_words v = v.code ∷ v.bytes ∷ []

-- used by the proofs alone

-- the loop over the registers: the first i are put, and e is the place after them
pub record RegistersLoop (l : List ℕ) (at : ℕ) (rs : List Register) (l' : List ℕ) (i e : ℕ) : Type 0 where
  pub within : i ≤ 16
  pub wrote : WriteEnsures l at (registers_words i rs) l' e
  pub length : length l' ≡ length l
  pub place : e ≡ at + register_size * i
