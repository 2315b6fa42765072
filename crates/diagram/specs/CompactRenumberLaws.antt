-- Laws of renumbered registers: the same weights and tensors, their nodes' new numbers.
use Rattle.std.specs.Prelude.{◌≡◌, ◌≢◌, false, length, get_or, set, Some, None}
use Rattle.std.proofs.Math.Path.{refl}
use Rattle.std.proofs.Common.{ap, ap₂, ◌∙◌, arith, add-one}
use mathlib.Core.List.{List, [], ◌∷◌}
use Rattle.std.proofs.Math.Option.{none, some}
use Prim.Native.Nat.{ℕ, zero, suc, ◌+◌, ◌≤◌, ◌<◌}
use Rattle.field.specs.Weight.{to_weight}
use Rattle.diagram.specs.Tensor.{scale}
use Rattle.diagram.specs.Tally.{Set}
use Rattle.diagram.specs.Meaning.{tensor_at, edge_in}
use Rattle.diagram.specs.Mark.{AllMarked}
use Rattle.diagram.specs.Registers.{Register, empty_register, occupied, edge_of, holds, holds_all, weights_of}
use Rattle.diagram.specs.Registers.{edges_of, RegistersValid, AllValid}
use Rattle.diagram.specs.RegistersLaws.{register_empty}
use Rattle.diagram.specs.declared.node.Edge.{Edge}
use Rattle.diagram.specs.Compact.{renumber_first, renumber_registers, renumber_register}

pub renumber_filled : (g : ℕ → ℕ) {n : ℕ} {r : Register} {e : Edge} → r ≡ Some e → n ≡ g e.node
    → Some (record { weight = e.weight; node = n }) ≡ renumber_register g r
unfolding renumber_register
renumber_filled g q n = rw (q, n)

pub renumber_empty : (g : ℕ → ℕ) (r : Register) → occupied r ≡ false → r ≡ renumber_register g r
unfolding renumber_register
renumber_empty g r f = rw (register_empty r f)

renumber_weight : (g : ℕ → ℕ) (r : Register) → (edge_of (renumber_register g r)).weight ≡ (edge_of r).weight
unfolding renumber_register
renumber_weight g None = refl
renumber_weight g (Some e) = refl

pub renumber_start : (g : ℕ → ℕ) (rs : List Register) → rs ≡ renumber_first g 0 rs
unfolding renumber_first
renumber_start g rs = refl

first_at : (g : ℕ → ℕ) (i : ℕ) (rs : List Register)
    → get_or (renumber_first g i rs) i empty_register ≡ get_or rs i empty_register
unfolding renumber_first
first_at g zero rs = refl
first_at g (suc i) [] = refl
first_at g (suc i) (r ∷ rs) = first_at g i rs

pub renumber_ahead : (g : ℕ → ℕ) (i : ℕ) (rs l : List Register) → l ≡ renumber_first g i rs
    → get_or l i empty_register ≡ get_or rs i empty_register
renumber_ahead g i rs l e = rw e (first_at g i rs)

first_set : (g : ℕ → ℕ) (i : ℕ) (rs : List Register) → i < length rs
    → set (renumber_first g i rs) i (renumber_register g (get_or rs i empty_register)) ≡ renumber_first g (suc i) rs
unfolding renumber_first
first_set g i [] p = absurd (omega arith)
first_set g zero (r ∷ rs) p = refl
first_set g (suc i) (r ∷ rs) p = ap (λ l. renumber_register g r ∷ l) (first_set g i rs (omega arith))

pub renumber_on : (g : ℕ → ℕ) (i : ℕ) (rs l : List Register) (x : Register) → i < length rs → l ≡ renumber_first g i rs
    → x ≡ renumber_register g (get_or l i empty_register)
    → set l i x ≡ renumber_first g (i + 1) rs
renumber_on g i rs l x p e q =
    rw (add-one i, q, e, first_at g i rs) (first_set g i rs p)

pub renumber_end : (g : ℕ → ℕ) (i : ℕ) (rs : List Register) → length rs ≤ i
    → renumber_first g i rs ≡ renumber_registers g rs
unfolding renumber_first renumber_registers
renumber_end g zero [] p = refl
renumber_end g zero (r ∷ rs) p = absurd (omega arith)
renumber_end g (suc i) [] p = refl
renumber_end g (suc i) (r ∷ rs) p = ap (λ l. renumber_register g r ∷ l) (renumber_end g i rs (omega arith))

-- no weight changes
pub renumber_weights : (g : ℕ → ℕ) (rs : List Register) → weights_of (renumber_registers g rs) ≡ weights_of rs
unfolding renumber_registers weights_of
renumber_weights g [] = refl
renumber_weights g (r ∷ rs) = ap₂ (λ w l. w ∷ l) (renumber_weight g r) (renumber_weights g rs)

all_length : (g : ℕ → ℕ) (rs : List Register) → length (renumber_registers g rs) ≡ length rs
unfolding renumber_registers
all_length g [] = refl
all_length g (r ∷ rs) = ap suc (all_length g rs)

-- numbers that agree on the marked nodes do the same
pub renumber_ext : (g h : ℕ → ℕ) (a : ℕ → ℕ) (m : ℕ) (rs : List Register) → AllValid m (edges_of rs)
    → AllMarked a (edges_of rs)
    → ((n : ℕ) → n ≤ m → (n ≢ 0 → a n ≢ 0) → g n ≡ h n) → renumber_registers g rs ≡ renumber_registers h rs
unfolding renumber_registers renumber_register edges_of
renumber_ext g h a m [] v p e = refl
renumber_ext g h a m (None ∷ rs) v p e = ap (λ l. None ∷ l) (renumber_ext g h a m rs v p e)
renumber_ext g h a m (Some x ∷ rs) v p e =
    ap₂ (λ n l. Some (record { weight = x.weight; node = n }) ∷ l) (e x.node v.0.within p.0)
    (renumber_ext g h a m rs v.1 p.1 e)

-- where the new numbers have the old tensors, the registers hold what they held
module _ {d : ℕ} (ts us : Set d) (g : ℕ → ℕ) (a : ℕ → ℕ) (m k : ℕ)
    (kept : (n : ℕ) → n ≤ m → (n ≢ 0 → a n ≢ 0) → tensor_at us (g n) ≡ tensor_at ts n)
    (within : (n : ℕ) → n ≤ m → g n ≤ k) (zeroed : g 0 ≡ 0) where
  pub renumber_holds : (rs : List Register) → AllValid m (edges_of rs) → AllMarked a (edges_of rs)
      → holds_all us (renumber_registers g rs) ≡ holds_all ts rs
  unfolding renumber_registers renumber_register edges_of holds_all holds edge_in
  renumber_holds [] v p = refl
  renumber_holds (None ∷ rs) v p = ap (λ l. none ∷ l) (renumber_holds rs v p)
  renumber_holds (Some e ∷ rs) v p =
      ap₂ (λ T l. some (scale (to_weight e.weight) T) ∷ l) (kept e.node v.0.within p.0) (renumber_holds rs v.1 p.1)

  renumber_valid : (rs : List Register) → AllValid m (edges_of rs) → AllValid k (edges_of (renumber_registers g rs))
  unfolding renumber_registers renumber_register edges_of
  renumber_valid [] v = tt
  renumber_valid (None ∷ rs) v = renumber_valid rs v
  renumber_valid (Some e ∷ rs) v = (
    record {
      small = v.0.small;
      within = within e.node v.0.within;
      zero = λ z. (let n : e.node ≡ 0 = v.0.zero z in rw n zeroed);
    },
    renumber_valid rs v.1,
  )

  pub renumber_registers_lem : (rs : List Register) → RegistersValid m rs → RegistersValid k (renumber_registers g rs)
  renumber_registers_lem rs r =
      record { sixteen = all_length g rs ∙ r.sixteen; valid = renumber_valid rs r.valid }
