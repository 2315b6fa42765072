-- Contraction in the store (document 01, cont): its parts, in the order of the code.
use Rattle.std.specs.Prelude.{◌≡◌, ◌≢◌, cond, ℕ, ◌<◌}
use Rattle.field.specs.Weight.{to_weight, times_w}
use Rattle.field.specs.Field.{Represents}
use Rattle.diagram.specs.Tensor.{bits, without, members, power2, indices, masks}
use Rattle.diagram.specs.Tally.{Binary, join, sum, cont}
use Rattle.diagram.specs.declared.node.Edge.{Edge}

-- edges of which the weights were taken out and not both are constant, and a set of indices
pub record ContractReduced (a b : Edge) (m : ℕ) : Type 0 where
  pub left : a.weight ≡ 1
  pub right : b.weight ≡ 1
  pub some : a.node ≡ 0 → b.node ≢ 0
  pub mask : m < masks

-- "their product times 2 to the count of members in S", of those below k
abbrev pub FactoredEnsures : (v w m k r : ℕ) → Type 0
FactoredEnsures v w m k r = Represents r (times_w (power2 (members k (bits m))) (times_w (to_weight v) (to_weight w)))

-- "S' is S without k, L = cont(A0,B0,S'), H = cont(A1,B1,S')"
abbrev pub cont_without : ℕ → ℕ → Binary indices
cont_without k m X Y = cont X Y (without k (bits m))

-- "sum(L,H) if k is in S, else join(k,L,H)"
abbrev pub combine : ℕ → ℕ → Binary indices
combine k m = cond (bits m k) sum (join k)
