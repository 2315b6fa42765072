-- Document 01's marked cases a to k, and its session printed whole: one table. (That it holds: CasesLaws.)
use Rattle.std.specs.Prelude.{◌≡◌, List, [], ◌∷◌, ℕ}
use Prim.Native.String.{String}
use Rattle.field.specs.Weight.{Weight, to_weight, times_w, eighth_root, imaginary_unit, root_two, inverse_root_two}
use Rattle.text.specs.Text.{bytes}
use Rattle.text.specs.Session.{at_most, session}
use Rattle.text.specs.VerdictSession.{verdict_result}

-- a named weight and its number; a product of two weights, by their numbers; a session over a store of some capacity,
-- or a verdict: what is fed, and what is printed
pub data Case : Type 0 where
  constant_is : Weight → ℕ → Case
  product_is : ℕ → ℕ → ℕ → Case
  session_prints : ℕ → String → String → Case
  verdict_prints : ℕ → String → String → Case

-- what a case says with d indices: all output fits
abbrev pub CaseHolds : ℕ → Case → Type 0
CaseHolds d (constant_is w n) = w.number ≡ n
CaseHolds d (product_is a b c) = (times_w (to_weight a) (to_weight b)).number ≡ c
CaseHolds d (session_prints capacity text out) = (session d (at_most capacity) 4096 (bytes text)).output ≡ bytes out
CaseHolds d (verdict_prints capacity text out) = verdict_result d (at_most capacity) 32 (bytes text) ≡ (0, bytes out)

abbrev pub AllHold : ℕ → List Case → Type 0
AllHold d [] = Unit {0}
AllHold d (c ∷ cs) = CaseHolds d c × AllHold d cs

abbrev pub table : List Case
table =
    -- "The eighth root is 16, i is 256, root two is 61457, and its inverse h is 63497."
    constant_is eighth_root 16
    ∷ constant_is imaginary_unit 256
    ∷ constant_is root_two 61457
    ∷ constant_is inverse_root_two 63497
    -- "256 times 256 is 65536 (a); 61457 squared is 2 (b); 61457 times 63497 is 1 (c)"
    ∷ product_is 256 256 65536
    ∷ product_is 61457 61457 2
    ∷ product_is 61457 63497 1
    -- "`unit 0 1` needs 3 nodes, full at capacity 2 (d, e)"
    ∷ session_prints 3 "unit\t0\t1\n" "ok\t3\n"
    ∷ session_prints 2 "unit\t0\t1\n" "no\t8\n"
    -- "H fits capacity 2, not 1 (f, g)"
    ∷ session_prints 2 "gate\t0\tH\t0\n" "ok\t2\n"
    ∷ session_prints 1 "gate\t0\tH\t0\n" "no\t8\n"
    -- "Verdicts with n=1 at capacity 2048, ..: H H against nothing `same` (h); T T against S `same` (i);
    --  X Z X against Z `factor 65536` (j); S against Z `differ` (k)."
    ∷ verdict_prints 2048 "lines\t1\nH\t0\nH\t0\n=\n" "same\n"
    ∷ verdict_prints 2048 "lines\t1\nT\t0\nT\t0\n=\nS\t0\n" "same\n"
    ∷ verdict_prints 2048 "lines\t1\nX\t0\nZ\t0\nX\t0\n=\nZ\t0\n" "factor\t65536\n"
    ∷ verdict_prints 2048 "lines\t1\nS\t0\n=\nZ\t0\n" "differ\n"
    -- "A session printed whole"
    ∷ session_prints 2048
    "gate\t0\tH\t0\nadd\t1\t0\t0\ncmp\t1\t0\nat\t0\t6\nlow\t2\t0\t2\ndrop\t0\ncollect\ncmp\t0\t1\n"
    "ok\t2\nok\t2\nfactor\t2\nv\t2040\nno\t7\nok\t2\nok\t2\nno\t3\n"
    ∷ []
