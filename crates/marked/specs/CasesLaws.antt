-- The table of marked cases holds: it is computed with 3 indices, and a case that touches no others says the same with
-- the engine's 24.
use Rattle.std.specs.Prelude.{◌≡◌, refl, Bool, true, ◌&&◌, List, [], ◌∷◌, ℕ}
use Rattle.std.proofs.Common.{ap, ◌∙◌}
use Rattle.std.proofs.Math.Bool.{xor}
use Rattle.field.specs.Weight as weight
use Rattle.diagram.specs.Tensor as tensor
use Rattle.diagram.specs.Tally as tally
use Rattle.diagram.specs.Gate as diagramGate
use Rattle.diagram.specs.Tabulate as tabulate
use Rattle.diagram.specs.Descend as descend
use Rattle.diagram.specs.Compare as compare
use Rattle.text.specs.GrowSession as growSession
use Rattle.text.specs.Text as text
use Rattle.text.specs.Number as number
use Rattle.text.specs.Names as names
use Rattle.text.specs.Words as words
use Rattle.text.specs.Args as args
use Rattle.text.specs.Call as call
use Rattle.text.specs.Gate as textGate
use Rattle.text.specs.Line as line
use Rattle.text.specs.Print as print
use Rattle.text.specs.Answer as answer
use Rattle.text.specs.Check as check
use Rattle.text.specs.Ruling as ruling
use Rattle.text.specs.Session as session
use Rattle.text.specs.Qubits as qubits
use Rattle.text.specs.VerdictSession as verdictSession
use Rattle.diagram.specs.Tensor.{indices}
use Rattle.diagram.specs.TestLaws.{and_left, and_right}
use Rattle.diagram.specs.GrowLaws.{indices_deeper}
use Rattle.text.specs.Text.{bytes, lines}
use Rattle.text.specs.Session.{at_most, TallyRun}
use Rattle.text.specs.Check.{read_text}
use Rattle.text.specs.GrowSession.{lines_touch, reading_touches, grow_run}
use Rattle.text.specs.GrowSessionLaws.{session_grows, verdict_result_grows}
use Rattle.marked.specs.Cases.{Case, constant_is, product_is, session_prints, verdict_prints, CaseHolds}
use Rattle.marked.specs.Cases.{AllHold, table}

-- does a case touch only the lowest d indices?
unfoldable touching : ℕ → Case → Bool
touching d (constant_is w n) = true
touching d (product_is a b c) = true
touching d (session_prints capacity text out) = lines_touch d (lines (bytes text))
touching d (verdict_prints capacity text out) = reading_touches d (read_text (bytes text))

unfoldable all_touching : ℕ → List Case → Bool
all_touching d [] = true
all_touching d (c ∷ cs) = touching d c && all_touching d cs

-- computed with 3 indices
with_three : AllHold 3 table × (all_touching 3 table ≡ true)
unfolding touching all_touching growSession.qubits_below growSession.touches growSession.all_touch
    growSession.lines_touch
    growSession.reading_touches text.onto text.parts text.lines text.fields number.is_digit
    number.digits_from number.needless number.number_of names.one_qubit names.two_qubits words.word_of
    args.numbers args.by_count call.call_of
    textGate.gate_call_fields
    line.call_fields line.read_line print.digits print.decimal answer.line_of_fields answer.printed check.header_numbers
    check.header_fields check.header_of check.gate_item_of check.gate_item_fields check.item_of
    check.with_first
    check.with_second check.second_item check.second_list check.first_item check.first_list check.after_header
    check.read_lines
    check.read_text ruling.printed_ruling session.empty_tally session.node_count session.refuse session.accept
    session.settle session.with_tensor session.with_register session.answer session.empty_run session.with_answer
    session.stopped_run session.run session.session qubits.middles verdictSession.low_calls verdictSession.gate_calls
    verdictSession.at_line verdictSession.gates_calls verdictSession.list_calls verdictSession.session_calls
    verdictSession.continue_with verdictSession.perform verdictSession.ruling_at_end verdictSession.ruling_of_reading
    verdictSession.ruling_on verdictSession.verdict_result tensor.at tensor.bits tensor.value tensor.same
    tensor.constant
    tensor.top tensor.fix tensor.depends tensor.is_zero tensor.first tensor.joined tensor.scale tensor.normal
    tensor.multiple tensor.plus tensor.top2 tensor.times tensor.members tensor.power2 tensor.assign tally.return
    tally.◌>>=◌ tally.member tally.put tally.join_cases tally.join tally.both tally.sum_cases tally.sum_body tally.sum
    tally.cont_cases tally.cont_body tally.cont tally.halves tally.low_at tally.low_cases tally.low_body tally.low
    tally.build_cases tally.build_body tally.build tally.fix_both tally.cofactors_below tally.normal_at tally.normals
    tally.keeps tally.keep_only tally.collect tally.filled_tensors diagramGate.matrix diagramGate.on_qubit
    diagramGate.entry diagramGate.gate_tensor diagramGate.straight diagramGate.unit_entry diagramGate.unit_tensor
    tabulate.tabulate descend.descend_f descend.descend descend.top_measure descend.on_top descend.on_top2 compare.ratio
    compare.compared weight.to_weight weight.0w weight.1w weight.plus_w weight.times_w weight.negate_w weight.same_w
    weight.ones_power weight.inverse_w weight.eighth_root weight.imaginary_unit weight.root_two weight.inverse_root_two
    xor
with_three = (
  (refl, (refl, (refl, (refl, (refl, (refl, (refl, (refl, (refl, (refl, (refl, (refl, (refl, (refl, (refl, (refl, tt)))))))))))))))),
  refl,
)

-- a case that touches only the lowest 3 indices says the same with the engine's 24
carried : (c : Case) → touching 3 c ≡ true → CaseHolds 3 c → CaseHolds indices c
unfolding touching grow_run
carried (constant_is w n) e h = h
carried (product_is a b c) e h = h
carried (session_prints capacity text out) e h =
    rw indices_deeper (ap (λ (r : TallyRun _). r.output) (session_grows 3 21 (at_most capacity) 4096 (bytes text) e)
    ∙ h)
carried (verdict_prints capacity text out) e h =
    rw indices_deeper (verdict_result_grows 3 21 (at_most capacity) 32 (bytes text) e ∙ h)

carried_all : (cs : List Case) → all_touching 3 cs ≡ true → AllHold 3 cs → AllHold indices cs
unfolding all_touching
carried_all [] e h = tt
carried_all (c ∷ cs) e h =
    (carried c (and_left _ _ e) h.0, carried_all cs (and_right (touching 3 c) (all_touching 3 cs) e) h.1)

-- Document 01's marked cases a to k, and its session printed whole, bytes for bytes.
pub marked : AllHold indices table
marked = carried_all table with_three.1 with_three.0
