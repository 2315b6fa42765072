-- The bytes of a verdict's answer determine it.
use Rattle.std.specs.Prelude.{cond, ◌≡◌, refl, [], ℕ, ◌^◌, ◌<◌, eqb, Ok, Err}
use Rattle.std.proofs.Common.{ap, sym, ◌∙◌, subst, arith}
use Rattle.text.specs.Text.{LF, tab}
use Rattle.text.specs.Print.{decimal}
use Rattle.text.specs.Answer.{line_of_fields, printed}
use Rattle.text.specs.Ruling.{Ruling, fault_number, printed_ruling, no_at, ShortRuling}
use Rattle.text.specs.VerdictBytes.{same_line, factor_line, differ_line, no_line}
use Rattle.text.specs.SplitLaws.{head_same, tail_same}
use Rattle.text.specs.PrintDecimalLaws.{visible, seam, decimal_exact, decimal_injective}
use Rattle.text.specs.declared.check.Fault.{Fault}
use Rattle.diagram.specs.declared.compare.Comparison.TheVariants.{Same, Factor, Differ}
use Rattle.text.specs.declared.check.Fault.TheVariants as faults

-- the number of a fault determines it

fault_of : ℕ → Fault
fault_of n =
    cond (eqb n 10) faults.Header
    (cond (eqb n 11) faults.Line
    (cond (eqb n 12) faults.Qubit (cond (eqb n 13) faults.Equal (cond (eqb n 14) faults.Parting faults.Full))))

fault_of_number : (f : Fault) → fault_of (fault_number f) ≡ f
unfolding fault_of
fault_of_number faults.Header = refl
fault_of_number faults.Line = refl
fault_of_number faults.Qubit = refl
fault_of_number faults.Equal = refl
fault_of_number faults.Parting = refl
fault_of_number faults.Full = refl

pub fault_number_injective : (f g : Fault) → fault_number f ≡ fault_number g → f ≡ g
fault_number_injective f g e = sym (fault_of_number f) ∙ ap fault_of e ∙ fault_of_number g

fault_number_small : (f : Fault) → fault_number f < 10 ^ 19
fault_number_small faults.Header = omega arith
fault_number_small faults.Line = omega arith
fault_number_small faults.Qubit = omega arith
fault_number_small faults.Equal = omega arith
fault_number_small faults.Parting = omega arith
fault_number_small faults.Full = omega arith

-- What is printed, in VerdictBytes' words

pub prints_same : printed_ruling (Ok Same) ≡ same_line
unfolding printed_ruling printed line_of_fields
prints_same = refl

pub prints_factor : (f : ℕ) → printed_ruling (Ok (Factor f)) ≡ factor_line f
unfolding printed_ruling printed line_of_fields
prints_factor f = refl

pub prints_differ : printed_ruling (Ok Differ) ≡ differ_line
unfolding printed_ruling printed line_of_fields
prints_differ = refl

pub prints_no : (f : Fault) (line : ℕ) → printed_ruling (no_at f line) ≡ no_line f line
unfolding printed_ruling printed line_of_fields
prints_no f line = refl

-- .. and of which ruling it is: the first byte tells the four kinds apart

pub printed_same : (r : Ruling) → printed_ruling r ≡ same_line → r ≡ Ok Same
unfolding printed_ruling printed line_of_fields
printed_same (Ok Same) e = refl
printed_same (Ok (Factor g)) e = absurd (let z : ◌≡◌ {A = ℕ} 102 115 = head_same e in omega arith)
printed_same (Ok Differ) e = absurd (let z : ◌≡◌ {A = ℕ} 100 115 = head_same e in omega arith)
printed_same (Err at) e = absurd (let z : ◌≡◌ {A = ℕ} 110 115 = head_same e in omega arith)

pub printed_differ : (r : Ruling) → printed_ruling r ≡ differ_line → r ≡ Ok Differ
unfolding printed_ruling printed line_of_fields
printed_differ (Ok Same) e = absurd (let z : ◌≡◌ {A = ℕ} 115 100 = head_same e in omega arith)
printed_differ (Ok (Factor g)) e = absurd (let z : ◌≡◌ {A = ℕ} 102 100 = head_same e in omega arith)
printed_differ (Ok Differ) e = refl
printed_differ (Err at) e = absurd (let z : ◌≡◌ {A = ℕ} 110 100 = head_same e in omega arith)

-- a factor, up to its digits
pub printed_factor : (r : Ruling) (f : ℕ) → printed_ruling r ≡ factor_line f
    → (g : ℕ) × (r ≡ Ok (Factor g)) × (decimal g ≡ decimal f)
unfolding printed_ruling printed line_of_fields
printed_factor (Ok Same) f e = absurd (let z : ◌≡◌ {A = ℕ} 115 102 = head_same e in omega arith)
printed_factor (Ok (Factor g)) f e = (
  g,
  refl,
  (seam LF (decimal g) (decimal f) [] [] (omega arith) (visible g) (visible f)
      (tail_same (tail_same (tail_same (tail_same (tail_same (tail_same (tail_same e)))))))).0,
)
printed_factor (Ok Differ) f e = absurd (let z : ◌≡◌ {A = ℕ} 100 102 = head_same e in omega arith)
printed_factor (Err at) f e = absurd (let z : ◌≡◌ {A = ℕ} 110 102 = head_same e in omega arith)

-- a refusal, up to the digits of its line
pub printed_no : (r : Ruling) (f : Fault) (line : ℕ) → printed_ruling r ≡ no_line f line
    → (l : ℕ) × (r ≡ no_at f l) × (decimal l ≡ decimal line)
unfolding printed_ruling printed line_of_fields
printed_no (Ok Same) f line e = absurd (let z : ◌≡◌ {A = ℕ} 115 110 = head_same e in omega arith)
printed_no (Ok (Factor g)) f line e = absurd (let z : ◌≡◌ {A = ℕ} 102 110 = head_same e in omega arith)
printed_no (Ok Differ) f line e = absurd (let z : ◌≡◌ {A = ℕ} 100 110 = head_same e in omega arith)
printed_no (Err at) f line e =
    let p = seam tab (decimal (fault_number at.fault)) (decimal (fault_number f)) _ _ (omega arith)
    (visible (fault_number at.fault)) (visible (fault_number f))
    (tail_same (tail_same (tail_same e))) in
    let q = seam LF (decimal at.line) (decimal line) [] [] (omega arith) (visible at.line) (visible line) p.1 in
    let n = decimal_exact (fault_number at.fault) (fault_number f) (fault_number_small at.fault) p.0 in
    (at.line, ap (λ h. no_at h at.line) (fault_number_injective at.fault f n), q.0)

-- The bytes determine the ruling.
pub printed_injective : (q r : Ruling) → ShortRuling q → ShortRuling r → printed_ruling q ≡ printed_ruling r → q ≡ r
printed_injective q (Ok Same) a b e = printed_same q (e ∙ prints_same)
printed_injective q (Ok (Factor f)) a b e =
    let p = printed_factor q f (e ∙ prints_factor f) in
    p.1 ∙ ap (λ n. Ok (Factor n)) (decimal_injective p.0 f (subst ShortRuling p.1 a) b p.2)
printed_injective q (Ok Differ) a b e = printed_differ q (e ∙ prints_differ)
printed_injective q (Err at) a b e =
    let p = printed_no q at.fault at.line (e ∙ prints_no at.fault at.line) in
    p.1 ∙ ap (no_at at.fault) (decimal_injective p.0 at.line (subst ShortRuling p.1 a) b p.2)
