-- Lowering a set together (document 02, request Two). A set of indices is Bits: those with true. Index 0 is in no set:
-- "Mask bit 0 set, .., is 4."
use Rattle.std.specs.Prelude.{Bool, false, cond, not, ◌&&◌, ◌||◌, ℕ, zero, suc, ◌-◌}
use Rattle.diagram.specs.Tensor.{Tensor, Bits, at, depends}
use Rattle.diagram.specs.Tabulate.{tabulate}
use Rattle.diagram.specs.Tally.{Unary, build}

-- where index k goes: an index of m to the one before it
abbrev pub lower_in : Bits → ℕ → ℕ
lower_in m k = cond (m k) (k - 1) k

-- "The call `lows d a m` lowers every index of the set m at the same moment." At an assignment f, the value that T has
-- where each index k of m takes what stands at k-1, and each other index what stands at it.
unfoldable pub lowered_set : {d : ℕ} → Bits → Tensor d → Tensor d
lowered_set {d} m T = tabulate d (λ f. at T (λ k. f (lower_in m k)))

-- "The answer's nodes are put in as build puts them in."
unfoldable pub lows : {d : ℕ} → Bits → Unary d
lows m T = build (lowered_set m T)

-- "An index k in m is free to go where a does not depend on k-1, or where k-1 is in m too."
unfoldable pub free_to_go : {d : ℕ} → Bits → Tensor d → ℕ → Bool
free_to_go m T k = not (depends (k - 1) T) || m (k - 1)

-- is f true of an index below d?
unfoldable pub any_below : ℕ → (ℕ → Bool) → Bool
any_below zero f = false
any_below (suc d) f = f d || any_below d f

-- "A clash is 7": an index of m that is not free to go
unfoldable pub clash : {d : ℕ} → Bits → Tensor d → Bool
clash {d} m T = any_below d (λ k. m k && not (free_to_go m T k))
