-- Laws of Gate: its fields as the code finds them; what it carries is in range.
use Rattle.std.specs.Prelude.{◌≡◌, refl, List, [], ◌∷◌, ℕ, ◌≤◌, ◌<◌, length, Option, Some, None, Bool, true, false}
use Rattle.std.specs.Prelude.{cond, not, ◌&&◌, leb, ltb, eqb, Ok, Err}
use Rattle.std.proofs.Common.{arith, ◌∙◌, le-leb, lt-ltb, le-ltb}
use Rattle.std.proofs.Math.Decide.{dec_lt}
use Rattle.std.proofs.lemmas.Bool.{lt-leb}
use Rattle.text.specs.Text.{Bytes, known}
use Rattle.text.specs.Limits.{most_digits, last_qubit, most_qubits, register_count}
use Rattle.text.specs.Number.{number_of}
use Rattle.text.specs.Args.{numbers}
use Rattle.text.specs.Names.{one_qubit, two_qubits}
use Rattle.text.specs.Call.{malformed, Ranged, check_register}
use Rattle.text.specs.Gate.{gate_call_fields, gate_call_of, one_qubit_call, two_qubit_call, named_call}
use Rattle.text.specs.Split.{fields_after, FieldAfter}
use Rattle.text.specs.SplitLaws.{rest_none, rest_first}
use Rattle.text.specs.ArgsLaws.{by_count_lem, known_lem}
use Rattle.text.specs.CallLaws.{on_within, on_apart, on_register}
use Rattle.text.specs.NamesLaws.{one_placed, known_placed, two_placed, one_placed_as, two_placed_as}
use Rattle.text.specs.declared.args.Args.TheVariants.{Zero}
use Rattle.text.specs.declared.args.Args.{Args}
use Rattle.diagram.specs.declared.gate.Gate.{Gate}
use Rattle.text.specs.declared.call.Refusal.TheVariants.{Range, Equal as Equal'}
use Rattle.text.specs.declared.call.Call.TheVariants as call

pub gate_none : (s : Bytes) (e : ℕ) → length s ≤ e → malformed ≡ gate_call_fields (fields_after s e)
unfolding gate_call_fields
gate_none s e h = rw (rest_none s e h)

module _ {s : Bytes} {e : ℕ} {d : Bytes} {f : ℕ} (x : FieldAfter s e d f) where
  pub gate_short : length s ≤ f → malformed ≡ gate_call_fields (fields_after s e)
  unfolding gate_call_fields
  gate_short n = rw (rest_first x.inside x.ends, rest_none s f n)

  pub gate_fields : {name : Bytes} {g : ℕ} → FieldAfter s f name g
      → known malformed (number_of most_digits d)
      (λ d. known malformed (numbers most_digits (Some Zero) (fields_after s g)) (gate_call_of d name))
      ≡ gate_call_fields (fields_after s e)
  unfolding gate_call_fields
  gate_fields y = rw (x.is, y.is, rest_first x.inside x.ends, rest_first y.inside y.ends)

-- the gate of a name: its qubits are checked as `placed_gate` does

-- a qubit from 0 to the last is one below 8
qubit_range : (q : ℕ) → leb 0 q && leb q last_qubit ≡ ltb q most_qubits
qubit_range q = elim (dec_lt q most_qubits) [
  | yes h ↦ rw (lt-ltb _ _ h, le-leb 0 q (omega arith), le-leb q last_qubit (omega arith)) refl
  | no h ↦ rw (le-ltb q most_qubits (omega arith), le-leb 0 q (omega arith), lt-leb q last_qubit (omega arith)) refl
]

module _ (d : ℕ) (s : Bytes) {g : Gate} where
  one_call : (q : ℕ) → one_qubit s q ≡ Some g → named_call d (Some g) ≡ one_qubit_call d q (Some g)
  one_call q e = rw (qubit_range q) (one_placed_as _ _ most_qubits s q e)

  two_call : (p q : ℕ) → two_qubits s p q ≡ Some g → named_call d (Some g) ≡ two_qubit_call d p q (Some g)
  two_call p q e = rw (qubit_range p, qubit_range q)
      (two_placed_as _ _ most_qubits s p q e ∙ go (ltb p most_qubits) (ltb q most_qubits) (eqb p q))
    where
      go : (b c same : Bool)
          → cond b (cond c (cond (not same) (Ok (call.Gate d g)) (Err Equal')) (Err Range)) (Err Range)
          ≡ cond b (cond c (cond same (Err Equal') (Ok (call.Gate d g))) (Err Range)) (Err Range)
      go b c true = refl
      go b c false = refl

module _ (d : ℕ) (s : Bytes) where
  pub one_named : (q : ℕ) → named_call d (one_qubit s q) ≡ one_qubit_call d q (one_qubit s q)
  one_named q = go (one_qubit s q) refl
    where
      go : (name : Option Gate) → one_qubit s q ≡ name → named_call d name ≡ one_qubit_call d q name
      go None e = refl
      go (Some g) e = one_call d s q e

  pub two_named : (p q : ℕ) → named_call d (two_qubits s p q) ≡ two_qubit_call d p q (two_qubits s p q)
  two_named p q = go (two_qubits s p q) refl
    where
      go : (name : Option Gate) → two_qubits s p q ≡ name → named_call d name ≡ two_qubit_call d p q name
      go None e = refl
      go (Some g) e = two_call d s p q e

one_ranged : (d q : ℕ) (name : Bytes) → d < register_count → Ranged (one_qubit_call d q (one_qubit name q))
one_ranged d q name h =
    known_placed Ranged _ _ tt (one_placed 8 name q) (λ g x. on_within q 0 last_qubit _ (λ l m. (h, x (omega arith))))

two_ranged : (d p q : ℕ) (name : Bytes) → d < register_count → Ranged (two_qubit_call d p q (two_qubits name p q))
two_ranged d p q name h =
    known_placed Ranged _ _ tt (two_placed 8 name p q)
    (λ g x. on_within p 0 last_qubit _ (λ l m. on_within q 0 last_qubit _
    (λ l' m'. on_apart p q _ (λ e. (h, x (omega arith, (omega arith, e)))))))

gate_ranged : (d : ℕ) (name : Bytes) (qubits : Args) → Ranged (gate_call_of d name qubits)
gate_ranged d name qubits =
    by_count_lem Ranged _ (λ q. check_register d (one_qubit_call d q (one_qubit name q)))
    (λ p q. check_register d (two_qubit_call d p q (two_qubits name p q))) _ _ tt
    (λ q. on_register d _ (one_ranged d q name)) (λ p q. on_register d _ (two_ranged d p q name)) (λ a b c. tt)
    (λ a b c e. tt) qubits

pub gate_fields_ranged : (fs : List Bytes) → Ranged (gate_call_fields fs)
unfolding gate_call_fields
gate_fields_ranged [] = tt
gate_fields_ranged (d ∷ []) = tt
gate_fields_ranged (d ∷ name ∷ qs) =
    known_lem Ranged _ _ tt (λ r. known_lem Ranged _ _ tt (gate_ranged r name) (numbers most_digits (Some Zero) qs))
    (number_of most_digits d)
