-- The sentences of VerdictBytes follow from `VerdictEnsures`, which the running code promises: for every text, store
-- and output.
use Rattle.std.specs.Prelude.{◌≡◌, refl, List, ◌≢◌, ◌↔◌, ◌⊎◌, ℕ, ◌^◌, ◌<◌, ◌≤◌, length, Ok, Err}
use Rattle.std.proofs.Common.{sym, subst, ◌∙◌, ap, inl, inr, arith, lt-ltb}
use Rattle.std.proofs.Math.Logic.Iff as Iff
use Rattle.std.proofs.Math.Option.{Option, some}
use Rattle.diagram.specs.Tensor.{indices, Tensor}
use Rattle.diagram.specs.Node.{capacity}
use Rattle.text.specs.Text.{Bytes}
use Rattle.text.specs.Limits.{verdict_room}
use Rattle.text.specs.Print.{decimal}
use Rattle.text.specs.Session.{Capacity, at_most}
use Rattle.text.specs.Check.{Reading, lists, fault, read_text}
use Rattle.text.specs.Ruling.{Ruling, printed_ruling, no_at}
use Rattle.text.specs.VerdictSession.{ruling_on, verdict_result}
use Rattle.text.specs.Agrees.{AgreeEverywhere}
use Rattle.text.specs.Product.{list_matrix}
use Rattle.text.specs.VerdictMeaning.{Meaning, NotFull, IsTimes, EqualMatrices, MatrixIsTimes}
use Rattle.text.specs.VerdictBytes.{ListsAre, same_line, factor_line, differ_line, no_line, OneOfFour, RefusedAt}
use Rattle.text.specs.VerdictBytes.{IsTensorOf, IsMatrixOf, VerdictBytes, VerdictShort}
use Rattle.text.specs.Judge.{VerdictEnsures}
use Rattle.text.specs.PrintLaws.{written_none}
use Rattle.text.specs.PrintDecimalLaws.{decimal_injective, decimal_exact}
use Rattle.text.specs.RulingBytesLaws.{prints_same, prints_factor, prints_differ, prints_no, printed_same}
use Rattle.text.specs.RulingBytesLaws.{printed_factor, printed_differ, printed_no}
use Rattle.text.specs.VerdictMeaningLaws.{verdict_refused, verdict_means, verdict_matrices}
use Rattle.text.specs.VerdictFaultLaws.{verdict_fault}
use Rattle.text.specs.JudgeLaws.{verdict_within}
use Rattle.text.specs.VerdictOutputLaws.{not_full, refused_at_lem, line_most, factor_small, given_code}
use Rattle.text.specs.VerdictOutputLaws.{given_bytes, given_rest}
use Rattle.diagram.specs.declared.gate.Gate.{Gate}
use Rattle.text.specs.declared.check.Fault.{Fault}
use Rattle.text.specs.declared.check.Fault.TheVariants.{Full}
use Rattle.diagram.specs.declared.compare.Comparison.TheVariants.{Same, Factor, Differ}
use Rattle.text.specs.declared.ruling.VerdictResult.{VerdictResult}

-- What two lists stand for, and what the verdict says of it

record Known {X : Type 0} (Of : ℕ → List Gate → X → Type 0) (E : X → X → Type 0) (T : ℕ → X → X → Type 0) (q : Ruling)
    (n : ℕ) (gs hs : List Gate) : Type 0 where
  first : X
  second : X
  first_is : Of n gs first
  second_is : Of n hs second
  first_only : (A : X) → Of n gs A → A ≡ first
  second_only : (A : X) → Of n hs A → A ≡ second
  meaning : Meaning q (E first second) (λ f. T f first second) (λ f. T f second first)

module _ {X : Type 0} (Of : ℕ → List Gate → X → Type 0) (E : X → X → Type 0) (T : ℕ → X → X → Type 0) (c : Capacity)
    (text : Bytes) (known : (n : ℕ) (gs hs : List Gate) → read_text text ≡ lists n gs hs → NotFull c text
    → Known Of E T (ruling_on indices c text) n gs hs) where
  abbrev Shown : (X → X → Type 0) → Type 0
  Shown P = (n : ℕ) (gs hs : List Gate) (k : Known Of E T (ruling_on indices c text) n gs hs) → P k.first k.second

  -- from a ruling to the lists ..
  lists_are : (P : X → X → Type 0) → ((f : Fault) (line : ℕ) → ruling_on indices c text ≢ no_at f line) → Shown P
      → ListsAre Of c text P
  lists_are P h p = go (read_text text) refl
    where
      go : (x : Reading) → read_text text ≡ x → ListsAre Of c text P
      go (lists n gs hs) e =
          let k = known n gs hs e (h Full) in
          record {
            n = n;
            gs = gs;
            hs = hs;
            good = e;
            not_full = λ line q. h Full line ((verdict_refused c text e Full line).1 (refl, q));
            first = k.first;
            second = k.second;
            first_is = k.first_is;
            second_is = k.second_is;
            are = p n gs hs k;
          }
      go (fault f line) e = absurd (h f line (verdict_fault c text e))

  -- .. and back
  ruling_from_lem : (P : X → X → Type 0) (Q : Type 0)
      → ((n : ℕ) (gs hs : List Gate) (k : Known Of E T (ruling_on indices c text) n gs hs) → P k.first k.second
      → Q)
      → ListsAre Of c text P → Q
  ruling_from_lem P Q h a =
      let k = known a.n a.gs a.hs a.good (not_full c text a.good a.not_full) in
      h a.n a.gs a.hs k (subst (λ A. P A k.second) (k.first_only a.first a.first_is)
      (subst (λ B. P a.first B) (k.second_only a.second a.second_is) a.are))

  exactly : (P : X → X → Type 0) (q : Ruling) → ((f : Fault) (line : ℕ) → q ≢ no_at f line)
      → ((n : ℕ) (gs hs : List Gate) (k : Known Of E T (ruling_on indices c text) n gs hs)
      → (ruling_on indices c text ≡ q) ↔ P
      k.first k.second)
      → (ruling_on indices c text ≡ q) ↔ ListsAre Of c text P
  exactly P q h t = (
    λ e. lists_are P (λ f line z. h f line (sym e ∙ z)) (λ n gs hs k. (t n gs hs k).0 e),
    ruling_from_lem P (ruling_on indices c text ≡ q) (λ n gs hs k. (t n gs hs k).1),
  )

  same_ruling : (ruling_on indices c text ≡ Ok Same) ↔ ListsAre Of c text E
  same_ruling =
      exactly E (Ok Same) (λ f line e. let z : ◌≡◌ {A = ℕ} 0 1 = cc in omega arith) (λ n gs hs k. k.meaning.same)

  differ_ruled : (ruling_on indices c text ≡ Ok Differ)
      ↔ ListsAre Of c text (λ A B. (¬ E A B) × (¬ ((f : ℕ) × (T f A B ⊎ T f B A))))
  differ_ruled =
      exactly _ (Ok Differ) (λ f line e. let z : ◌≡◌ {A = ℕ} 0 1 = cc in omega arith) (λ n gs hs k. k.meaning.differ)

  factor_of_ruled : (f : ℕ) → (ruling_on indices c text ≡ Ok (Factor f)) ↔ ListsAre Of c text
      (λ A B. (¬ E A B) × (f ≢ 1) × T f A B)
  factor_of_ruled f =
      exactly _ (Ok (Factor f)) (λ g line e. let z : ◌≡◌ {A = ℕ} 0 1 = cc in omega arith)
      (λ n gs hs k. k.meaning.factor_of f)

  factor_ruled : ((f : ℕ) × (ruling_on indices c text ≡ Ok (Factor f)))
      ↔ ListsAre Of c text (λ A B. (¬ E A B) × ((f : ℕ) × (T f A B ⊎ T f B A)))
  factor_ruled = (
    λ p.
        lists_are _
        (λ g line z.
        let y : Ok (Factor p.0) ≡ no_at g line = sym p.1 ∙ z in let o : ◌≡◌ {A = ℕ} 0 1 = cc in omega arith)
        (λ n gs hs k. k.meaning.factor.0 p),
    ruling_from_lem _ _ (λ n gs hs k. k.meaning.factor.1),
  )

-- The ruling by its bytes

module _ (c : Capacity) (text : Bytes) {W : Bytes} (w : W ≡ printed_ruling (ruling_on indices c text)) where
  bytes_same : (W ≡ same_line) ↔ (ruling_on indices c text ≡ Ok Same)
  bytes_same = (λ e. printed_same (ruling_on indices c text) (sym w ∙ e), λ q. w ∙ ap printed_ruling q ∙ prints_same)

  bytes_differ : (W ≡ differ_line) ↔ (ruling_on indices c text ≡ Ok Differ)
  bytes_differ = (
    λ e. printed_differ (ruling_on indices c text) (sym w ∙ e),
    λ q. w ∙ ap printed_ruling q ∙ prints_differ,
  )

  bytes_factor : (f : ℕ) → (W ≡ factor_line f) ↔ (ruling_on indices c text ≡ Ok (Factor f))
  bytes_factor f = (to, λ q. w ∙ ap printed_ruling q ∙ prints_factor f)
    where
      to : W ≡ factor_line f → ruling_on indices c text ≡ Ok (Factor f)
      to e =
          let p = printed_factor (ruling_on indices c text) f (sym w ∙ e) in
          p.1 ∙ ap (λ n. Ok (Factor n)) (decimal_exact p.0 f (omega (arith, factor_small c text p.0 p.1)) p.2)

  bytes_no : length text < 2 ^ 64 → (f : Fault) (line : ℕ) → line < 10 ^ 20
      → (W ≡ no_line f line) ↔ (ruling_on indices c text ≡ no_at f line)
  bytes_no h f line b = (to, λ q. w ∙ ap printed_ruling q ∙ prints_no f line)
    where
      to : W ≡ no_line f line → ruling_on indices c text ≡ no_at f line
      to e =
          let p = printed_no (ruling_on indices c text) f line (sym w ∙ e) in
          let m = line_most c text f p.0 ((refused_at_lem c text f p.0).0 p.1) in
          p.1 ∙ ap (no_at f) (decimal_injective p.0 line (omega (arith, m, h)) b p.2)

  bytes_digits : (f : Fault) (line : ℕ)
      → (W ≡ no_line f line) ↔ ((l : ℕ) × (decimal l ≡ decimal line) × RefusedAt c text f l)
  bytes_digits f line = (to, from)
    where
      to : W ≡ no_line f line → (l : ℕ) × (decimal l ≡ decimal line) × RefusedAt c text f l
      to e =
          let p = printed_no (ruling_on indices c text) f line
          (sym w ∙ e) in (p.0, p.2, (refused_at_lem c text f p.0).0 p.1)

      from : (l : ℕ) × (decimal l ≡ decimal line) × RefusedAt c text f l → W ≡ no_line f line
      from (l, d, a) = w ∙ ap printed_ruling ((refused_at_lem c text f l).1 a) ∙ prints_no f l ∙ rw d

  bytes_four : OneOfFour W
  bytes_four = go (ruling_on indices c text) refl
    where
      go : (q : Ruling) → ruling_on indices c text ≡ q → OneOfFour W
      go (Ok Same) q = inl (w ∙ ap printed_ruling q ∙ prints_same)
      go (Ok (Factor f)) q = inr (inl (f, w ∙ ap printed_ruling q ∙ prints_factor f))
      go (Ok Differ) q = inr (inr (inl (w ∙ ap printed_ruling q ∙ prints_differ)))
      go (Err at) q = inr (inr (inr (at.fault, at.line, w ∙ ap printed_ruling q ∙ prints_no at.fault at.line)))

some_factor : {A B : ℕ → Type 0} → ((f : ℕ) → A f ↔ B f) → ((f : ℕ) × A f) ↔ ((f : ℕ) × B f)
some_factor h = (λ p. (p.0, (h p.0).0 p.1), λ p. (p.0, (h p.0).1 p.1))

module _ {text s o o' : Bytes} {r : VerdictResult} (room : verdict_room ≤ length o)
    (g : VerdictEnsures text s o o' r) where
  bytes_say : {X : Type 0} (Of : ℕ → List Gate → X → Type 0) (E : X → X → Type 0) (T : ℕ → X → X → Type 0)
      → ((n : ℕ) (gs hs : List Gate) → read_text text ≡ lists n gs hs → NotFull (at_most (capacity s)) text
      → Known Of E T (ruling_on indices (at_most (capacity s)) text) n gs hs)
      → VerdictBytes Of E T text s o o' r
  bytes_say Of E T known =
      let c = at_most (capacity s) in
      let w = given_bytes room g in
      record {
        code = given_code room g;
        within = verdict_within g;
        untouched = given_rest room g;
        same = Iff.trans (bytes_same c text w) (same_ruling Of E T c text known);
        factor = Iff.trans (some_factor (bytes_factor c text w)) (factor_ruled Of E T c text known);
        differ = Iff.trans (bytes_differ c text w) (differ_ruled Of E T c text known);
        factor_of = λ f. Iff.trans (bytes_factor c text w f) (factor_of_ruled Of E T c text known f);
        no = λ h f line b. Iff.trans (bytes_no c text w h f line b) (refused_at_lem c text f line);
        no_line_lem = line_most c text;
        no_digits = bytes_digits c text w;
        one_of_four = bytes_four c text w;
      }

  known_tensors : (n : ℕ) (gs hs : List Gate) → read_text text ≡ lists n gs hs → NotFull (at_most (capacity s)) text
      → Known IsTensorOf AgreeEverywhere IsTimes (ruling_on indices (at_most (capacity s)) text) n gs hs
  known_tensors n gs hs e h =
      let v = verdict_means (at_most (capacity s)) text e h in
      record {
        first = v.first;
        second = v.second;
        first_is = v.first_is;
        second_is = v.second_is;
        first_only = λ A q. only q v.first_is;
        second_only = λ A q. only q v.second_is;
        meaning = record {
          same = v.same;
          factor = v.factor;
          differ = v.differ;
          no_other = v.no_other;
          factor_of = v.factor_of;
        };
      }
    where
      only : {x : Option (Tensor indices)} {A B : Tensor indices} → x ≡ some A → x ≡ some B → A ≡ B
      only p q = cc

  known_matrices : (n : ℕ) (gs hs : List Gate) → read_text text ≡ lists n gs hs → NotFull (at_most (capacity s)) text
      → Known IsMatrixOf EqualMatrices MatrixIsTimes (ruling_on indices (at_most (capacity s)) text) n gs hs
  known_matrices n gs hs e h =
      let v = verdict_matrices (at_most (capacity s)) text e h in
      record {
        first = list_matrix n gs;
        second = list_matrix n hs;
        first_is = refl;
        second_is = refl;
        first_only = λ A q. q;
        second_only = λ A q. q;
        meaning = record {
          same = v.same;
          factor = v.factor;
          differ = v.differ;
          no_other = (verdict_means (at_most (capacity s)) text e h).no_other;
          factor_of = v.factor_of;
        };
      }

  -- Demand 2 down to the bytes: each answer is written exactly where the lists' tensors stand so, or the text is
  -- refused.
  pub verdict_bytes : VerdictBytes IsTensorOf AgreeEverywhere IsTimes text s o o' r
  verdict_bytes = bytes_say IsTensorOf AgreeEverywhere IsTimes known_tensors

  -- The same about the products of the gates' matrices.
  pub verdict_bytes_matrices : VerdictBytes IsMatrixOf EqualMatrices MatrixIsTimes text s o o' r
  verdict_bytes_matrices = bytes_say IsMatrixOf EqualMatrices MatrixIsTimes known_matrices

-- "Fewer than 32 output bytes returns 9 and writes nothing"
pub verdict_bytes_short : {text s o o' : Bytes} {r : VerdictResult} → length o < verdict_room
    → VerdictEnsures text s o o' r
    → VerdictShort o o' r
unfolding verdict_result
verdict_bytes_short {o = o} h g =
    let z = lt-ltb (length o) 32 h in
    record {
      code = rw z at g.code;
      bytes = rw z at g.bytes;
      unchanged = (rw z at g.output) ∙ written_none o 0;
    }
