-- Laws of Judge: the second list, the comparison, the whole verdict.
use Rattle.std.specs.Prelude.{◌≡◌, refl, false, true, List, [], ◌∷◌, ◌-◌, ℕ, ◌+◌, ◌≤◌, ◌<◌, length, drop}
use Rattle.std.specs.Prelude.{Result, Ok, Err}
use Rattle.std.proofs.Common.{ap, sym, subst, ◌∙◌, append-nil, arith, length-append, lt-ltb, le-ltb}
use Rattle.std.proofs.Math.Decide.{dec_lt}
use Rattle.diagram.specs.Node.{capacity}
use Rattle.diagram.specs.Tensor.{indices}
use Rattle.text.specs.Text.{Bytes, LF}
use Rattle.text.specs.Limits.{most_qubits, verdict_room}
use Rattle.text.specs.Print.{written}
use Rattle.text.specs.Answer.{SmallAnswer}
use Rattle.text.specs.Session.{Capacity, answer, at_most}
use Rattle.text.specs.Check.{lists, read_text, read_lines, gate_items, GoodText, Reading, fault, checked_of}
use Rattle.text.specs.Check.{TextRead, CheckedInRange}
use Rattle.text.specs.Ruling.{Ruling, SmallRuling, RulingWritten, no_at}
use Rattle.text.specs.VerdictSession.{comparison_of, perform, ruling_at_end, list_calls, session_calls}
use Rattle.text.specs.VerdictSession.{ruling_of_reading, ruling_on, verdict_result}
use Rattle.text.specs.Engine.{Reply, tally_of, EngineStartEnsures}
use Rattle.text.specs.declared.engine.Contents.{Contents}
use Rattle.text.specs.Respond.{RespondEnsures}
use Rattle.text.specs.Perform.{ruling_from}
use Rattle.text.specs.List.{ListState, ruling_from_state, next_line, GateList, gate_list, GateLines, ListRequires}
use Rattle.text.specs.List.{ListEnds, ListEnsures}
use Rattle.text.specs.Judge.{SecondEnsures, JudgeEnsures, VerdictEnsures}
use Rattle.text.specs.SplitLaws.{lines_none, ends_from}
use Rattle.text.specs.PrintLaws.{written_none}
use Rattle.text.specs.CheckListsLaws.{items_next, text_items, good_text}
use Rattle.text.specs.ListLaws.{ruling_refused}
use Rattle.text.specs.declared.answer.Answer.{Answer}
use Rattle.diagram.specs.declared.gate.Gate.{Gate}
use Rattle.diagram.specs.declared.compare.Comparison.{Comparison}
use Rattle.text.specs.declared.check.Item.{Item}
use Rattle.text.specs.declared.check.Fault.TheVariants.{Full}
use Rattle.text.specs.declared.call.Refusal.{Refusal}
use Rattle.text.specs.declared.check.Checked.{Checked}
use Rattle.text.specs.declared.check.FaultAt.{FaultAt}
use Rattle.text.specs.declared.check.Fault.{Fault}
use Rattle.text.specs.declared.ruling.VerdictResult.{VerdictResult}
use Rattle.text.specs.declared.answer.Answer.TheVariants as answers
use Rattle.text.specs.declared.call.Call.TheVariants as call
use Rattle.text.specs.declared.check.Item.TheVariants as item

-- comparing

small_ruling : (a : Result Answer Refusal) → SmallAnswer a → SmallRuling (Ok (comparison_of a))
small_ruling (Ok (answers.Compared r)) h = h
small_ruling (Ok (answers.Done n)) h = tt
small_ruling (Ok (answers.Value w)) h = tt
small_ruling (Ok (answers.Mask m)) h = tt
small_ruling (Err r) h = tt

-- the end of a session

ruling_end : (c : Capacity) (s : List ℕ) (x : ListState) → x.refused ≡ false
    → Ok (comparison_of (answer c (call.Cmp 0 1) (tally_of s x.engine)).0) ≡ ruling_from_state c [] s x
unfolding ruling_from_state ruling_from perform ruling_at_end
ruling_end c s x q = rw q

module _ {l : GateList} {s c' s' : List ℕ} {a x : ListState} (w : ListEnsures l s c' s' a x) where
  through : (hs : List Gate) (rest : List (Result Item Fault)) → GateLines l (next_line l.text a.place) hs rest
      → ruling_from_state (at_most (capacity s)) [] s' x
      ≡ ruling_from_state (at_most (capacity s)) (list_calls l.register l.qubits (a.line + 1) hs) s a
  through hs rest ls =
      sym ((w.performs hs rest ls).is [])
      ∙ ap (λ calls. ruling_from_state (at_most (capacity s)) calls s a)
      (append-nil (list_calls l.register l.qubits (a.line + 1) hs))

  pub second_refused : x.refused ≡ true → SecondEnsures l s a (no_at Full x.line)
  second_refused q =
      record {
        is = λ hs rest ls. sym (ruling_refused (at_most (capacity s)) [] s' x q) ∙ through hs rest ls;
        small = tt;
      }

  pub second_ensures : {y : Reply} {r : Comparison} → length s' ≡ length s → x.refused ≡ false
      → RespondEnsures c' s' s' x.engine (call.Cmp 0 1) y → r ≡ comparison_of y.answer
      → SecondEnsures l s a (Ok r)
  second_ensures {y} {r} m q u e = record {
    is = λ hs rest ls. ap Ok e ∙ ap (λ z. Ok (comparison_of z.0)) (sym u.is)
        ∙ (rw m (ruling_end (at_most (capacity s)) s' x q)) ∙ through hs rest ls;
    small = subst (λ z. SmallRuling (Ok z)) (sym e) (small_ruling y.answer u.small);
  }

-- where the run stands, the last line not refused
abbrev going : ListState → ListState
going x = record { refused = false; line = x.line; place = x.place; engine = x.engine }

-- a good text: its first list begins with the header

text_some : (text : Bytes) {n : ℕ} {gs hs : List Gate} → read_text text ≡ lists n gs hs → 0 < length text
unfolding read_text read_lines
text_some text {n} {gs} {hs} t = elim (dec_lt 0 (length text)) [ yes h ↦ h | no h ↦ absurd (none (omega arith)) ]
  where
    none : length text ≤ 0 → ⊥
    none h = let f : read_lines [] ≡ lists n gs hs = rw (lines_none text 0 h) at t in
        let z : ◌≡◌ {A = ℕ} 0 1 = cc in omega arith

module _ {text : Bytes} {n parting count : ℕ} (g : GoodText text n parting count) where
  abbrev tail : List (Result Item Fault)
  tail = Ok item.Parting ∷ gate_items g.second

  abbrev first_gates : GateList
  first_gates = gate_list text n 0 (parting - 2)

  abbrev second_gates : GateList
  second_gates = gate_list text n 1 (count - parting)

  first_lines : GateLines first_gates (next_line text 0) g.first tail
  first_lines = record {
    is = text_items g.text (ends_from LF text 0 (omega arith));
    long = omega (arith, g.place);
  }

  pub first_ahead : {e : Contents}
      → ListRequires first_gates (record { refused = false; line = 0; place = 0; engine = e })
  first_ahead = record {
    ahead = record { not_refused = refl; inside = text_some text g.text; passed = omega arith };
    first = g.first;
    rest = tail;
    are = first_lines;
  }

  module _ {s c₁ s₁ c' s' : List ℕ} {e : Contents} {x : ListState} (b : EngineStartEnsures c₁ s s₁ e)
      (w : ListEnsures first_gates s₁ c' s' (record { refused = false; line = 0; place = 0; engine = e }) x) where
    -- the verdict, from where the first list ends
    whole : ruling_on indices (at_most (capacity s₁)) text
        ≡ ruling_from_state (at_most (capacity s₁)) (list_calls 1 n (length g.first + 2) g.second) s' x
    unfolding ruling_on ruling_of_reading session_calls ruling_from_state ruling_from
    whole = rw (g.text, ← b.is) ((w.performs g.first tail first_lines).is
        (list_calls 1 n (length g.first + 2) g.second))

    pub first_refused : x.refused ≡ true → JudgeEnsures text s (no_at Full x.line)
    first_refused q =
        record { is = rw (← b.long) (sym (whole ∙ ruling_refused (at_most (capacity s₁)) _ s' x q)); small = tt }

    module _ (q : x.refused ≡ false) where
      first_done : ListEnds first_gates (1 + (parting - 2)) tail (record {
        refused = false;
        line = 0;
        place = 0;
        engine = e;
      }) x
      first_done = w.ends g.first tail first_lines q

      second_lines : GateLines second_gates (next_line text x.place) g.second []
      second_lines =
          let i = items_next n text x.place first_done.next in
          record {
            is = i.on (ends_from LF text x.place (omega (arith, i.inside)))
                ∙ sym (append-nil (gate_items g.second));
            long = omega (arith, g.place, g.last);
          }

      pub second_ahead : ListRequires second_gates (going x)
      second_ahead = record {
        ahead = record {
          not_refused = refl;
          inside = (items_next n text x.place first_done.next).inside;
          passed = w.passed;
        };
        first = g.second;
        rest = [];
        are = second_lines;
      }

      pub judge_ensures : {r : Ruling} → length s' ≡ length s₁
          → SecondEnsures second_gates s' (going x) r → JudgeEnsures text s r
      judge_ensures {r} k u =
          let e : x ≡ going x = λ i. record { refused = q i; line = x.line; place = x.place; engine = x.engine } in
          let z : x.line + 1 ≡ length g.first + 2 = omega (arith, first_done.line, g.place) in
          record {
            is = rw (← b.long) ((rw (k, z) at (u.is g.second [] second_lines))
                ∙ ap (λ y.
                ruling_from_state (at_most (capacity s₁)) (list_calls 1 n (length g.first + 2) g.second) s' y)
                (sym e) ∙ sym whole);
            small = u.small;
          }

-- a faulty text

pub judge_faulty : {text : Bytes} {s : List ℕ} {f : FaultAt} {k : Result Checked FaultAt} → TextRead text k → k ≡ Err f
    → JudgeEnsures text s (Err f)
unfolding ruling_on ruling_of_reading
judge_faulty {text} {s} {f} c q = record { is = go (read_text text) refl (sym q ∙ c.checked); small = tt }
  where
    go : (r : Reading) → read_text text ≡ r → Err f ≡ checked_of r
        → Err f ≡ ruling_of_reading indices (at_most (capacity s)) (read_text text)
    go (lists n gs hs) e z = absurd (let o : ◌≡◌ {A = ℕ} 0 1 = cc in omega arith)
    go (fault g at) e z = rw e (let o : f ≡ record { fault = g; line = at } = cc in rw o)

-- a good text

module _ {text : Bytes} {r : Checked} {k : Result Checked FaultAt} (c : TextRead text k) (q : k ≡ Ok r) where
  pub checked_good : GoodText text r.n r.parting r.count
  checked_good = good_text text (sym q ∙ c.checked)

  in_range : CheckedInRange r
  in_range = rw q at c.ranged

  pub checked_least : 1 ≤ r.n
  checked_least = in_range.0

  pub checked_most : r.n ≤ most_qubits
  checked_most = in_range.1

-- the answer

pub verdict_no_room : {text : Bytes} {s : List ℕ} {o : Bytes} → length o < verdict_room
    → VerdictEnsures text s o o (record { code = 9; bytes = 0 })
unfolding verdict_result
verdict_no_room {o = o} h =
    record { code = rw (lt-ltb _ _ h); bytes = rw (lt-ltb _ _ h); output = rw (lt-ltb _ _ h) (sym (written_none o 0)) }

pub verdict_ensures : {text : Bytes} {s : List ℕ} {o o' : Bytes} {r : Ruling} {m : ℕ} → verdict_room ≤ length o
    → JudgeEnsures text s r → RulingWritten o r o' m
    → VerdictEnsures text s o o' (record { code = 0; bytes = m })
unfolding verdict_result
verdict_ensures h j w = record {
  code = rw (le-ltb _ _ h);
  bytes = rw (le-ltb _ _ h, ← j.is) w.count;
  output = rw (le-ltb _ _ h, ← j.is) w.exact;
}

-- `=` is a line of the text
pub parting_within : {text : Bytes} {n parting count : ℕ} → GoodText text n parting count → parting ≤ count
parting_within g = omega (arith, g.place, g.last)

-- the bytes written are bytes of the output
pub verdict_within : {text : Bytes} {s : List ℕ} {o o' : Bytes} {r : VerdictResult} → VerdictEnsures text s o o' r
    → r.bytes ≤ length o'
unfolding written
verdict_within {text} {s} {o} g =
    let b : Bytes = (verdict_result indices (at_most (capacity s)) (length o) text).1 in
    rw g.output (omega (arith, g.bytes, length-append b (drop (0 + length b) o)))
