-- What the functions promise that judge a text.
use Rattle.std.specs.Prelude.{◌≡◌, List, ℕ, ◌+◌, length, false, Result}
use Rattle.diagram.specs.Node.{capacity}
use Rattle.diagram.specs.Tensor.{indices}
use Rattle.text.specs.Text.{Bytes}
use Rattle.text.specs.Print.{written}
use Rattle.text.specs.Session.{at_most}
use Rattle.text.specs.Ruling.{Ruling, SmallRuling}
use Rattle.text.specs.VerdictSession.{list_calls, ruling_on, verdict_result}
use Rattle.text.specs.List.{ListState, ruling_from_state, next_line, GateList, GateLines, stand, part_of}
use Rattle.diagram.specs.declared.gate.Gate.{Gate}
use Rattle.text.specs.declared.list.Lists.{Lists}
use Rattle.text.specs.declared.check.Item.{Item}
use Rattle.text.specs.declared.check.Fault.{Fault}
use Rattle.text.specs.declared.ruling.VerdictResult.{VerdictResult}

-- the second list was run from here, and the registers compared
pub record SecondEnsures (l : GateList) (s : List ℕ) (a : ListState) (r : Ruling) : Type 0 where
  pub is : (hs : List Gate) (rest : List (Result Item Fault)) → GateLines l (next_line l.text a.place) hs rest
      → r ≡ ruling_from_state (at_most (capacity s)) (list_calls l.register l.qubits (a.line + 1) hs) s a
  pub small : SmallRuling r

abbrev pub JudgesSecond : Lists → ℕ → Ruling → Type 0
JudgesSecond l count r = SecondEnsures (part_of l 1 count) l.engine.diagram.now.store.now (stand false l) r

-- document 01's verdict on the text
pub record JudgeEnsures (text : Bytes) (s : List ℕ) (r : Ruling) : Type 0 where
  pub is : r ≡ ruling_on indices (at_most (capacity s)) text
  pub small : SmallRuling r

-- "The result is code and bytes written; later bytes are untouched": code, bytes and output are document 01's for this
-- text, this store and this output
pub record VerdictEnsures (text : Bytes) (s : List ℕ) (o o' : Bytes) (r : VerdictResult) : Type 0 where
  pub code : r.code ≡ (verdict_result indices (at_most (capacity s)) (length o) text).0
  pub bytes : r.bytes ≡ length (verdict_result indices (at_most (capacity s)) (length o) text).1
  pub output : o' ≡ written o 0 (verdict_result indices (at_most (capacity s)) (length o) text).1
