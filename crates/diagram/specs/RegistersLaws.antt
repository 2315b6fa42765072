-- Laws of registers: set, emptied, and what they hold as nodes are added.
use Rattle.std.specs.Prelude.{◌≡◌, refl, true, false, List, [], ◌∷◌, ◌++◌, ℕ, zero, suc, ◌≤◌, length}
use Rattle.std.specs.Prelude.{get_or, set, Some, None}
use Rattle.std.proofs.Common.{ap, ap₂, sym, subst, ◌∙◌, length-set}
use Rattle.std.proofs.lemmas.Bool.{false≢true}
use Rattle.std.proofs.lemmas.Option.{none-some}
use Rattle.std.proofs.Math.Option.{none, some}
use Rattle.diagram.specs.Tally.{Set, filled_tensors}
use Rattle.diagram.specs.Sets.{PrefixOf}
use Rattle.diagram.specs.Meaning.{edge_in, Valid}
use Rattle.diagram.specs.MeaningLaws.{edge_kept, valid_more}
use Rattle.diagram.specs.Registers.{AllValid, RegistersValid, Register, empty_register, occupied, edge_of}
use Rattle.diagram.specs.Registers.{holds, tensors_of, edges_of, empty_registers, holds_all}
use Rattle.diagram.specs.declared.node.Edge.{Edge}

pub registers_none : (m : ℕ) → RegistersValid m empty_registers
unfolding edges_of
registers_none m = record { sixteen = refl; valid = tt }

-- a register that is not filled is the empty one
pub register_empty : (r : Register) → occupied r ≡ false → r ≡ empty_register
register_empty None e = refl
register_empty (Some x) e = absurd (false≢true (sym e))

pub filled_edges : {d : ℕ} (ts : Set d) (rs : List Register) → filled_tensors (holds_all ts rs) ≡ tensors_of ts
    (edges_of rs)
unfolding filled_tensors holds_all holds edges_of tensors_of
filled_edges ts [] = refl
filled_edges ts (None ∷ rs) = filled_edges ts rs
filled_edges ts (Some e ∷ rs) = ap (λ l. edge_in ts e ∷ l) (filled_edges ts rs)

pub edges_append : (rs ss : List Register) → edges_of (rs ++ ss) ≡ edges_of rs ++ edges_of ss
unfolding edges_of
edges_append [] ss = refl
edges_append (None ∷ rs) ss = edges_append rs ss
edges_append (Some e ∷ rs) ss = ap (λ l. e ∷ l) (edges_append rs ss)

-- a filled register's edge is valid

pub edge_valid : (count : ℕ) (rs : List Register) (i : ℕ) {e : Edge} → AllValid count (edges_of rs)
    → get_or rs i empty_register ≡ Some e → Valid count e
unfolding edges_of
edge_valid count [] i {e} v q = absurd (none-some e q)
edge_valid count (None ∷ rs) zero {e} v q = absurd (none-some e q)
edge_valid count (Some x ∷ rs) zero v q = subst (Valid count) (ap edge_of q) v.0
edge_valid count (None ∷ rs) (suc i) v q = edge_valid count rs i v q
edge_valid count (Some x ∷ rs) (suc i) v q = edge_valid count rs i v.1 q

pub register_valid : (count : ℕ) (rs : List Register) (i : ℕ) → AllValid count (edges_of rs)
    → occupied (get_or rs i empty_register) ≡ true
    → Valid count (edge_of (get_or rs i empty_register))
register_valid count rs i v = go (get_or rs i empty_register) (λ e q. edge_valid count rs i v q)
  where
    go : (r : Register) → ((e : Edge) → r ≡ Some e → Valid count e) → occupied r ≡ true → Valid count (edge_of r)
    go None h p = absurd (false≢true p)
    go (Some e) h p = h e refl

-- reading and setting a register

pub holds_at : {d : ℕ} (ts : Set d) (rs : List Register) (i : ℕ)
    → get_or (holds_all ts rs) i none ≡ holds ts (get_or rs i empty_register)
unfolding holds_all holds
holds_at ts [] i = refl
holds_at ts (r ∷ rs) zero = refl
holds_at ts (r ∷ rs) (suc i) = holds_at ts rs i

pub holds_length : {d : ℕ} (ts : Set d) (rs : List Register) → length (holds_all ts rs) ≡ length rs
unfolding holds_all
holds_length ts [] = refl
holds_length ts (r ∷ rs) = ap suc (holds_length ts rs)

pub holds_set : {d : ℕ} (ts : Set d) (rs : List Register) (i : ℕ) (r : Register)
    → holds_all ts (set rs i r) ≡ set (holds_all ts rs) i (holds ts r)
unfolding holds_all
holds_set ts [] i r = refl
holds_set ts (x ∷ rs) zero r = refl
holds_set ts (x ∷ rs) (suc i) r = ap (λ l. holds ts x ∷ l) (holds_set ts rs i r)

valid_put : (m : ℕ) (rs : List Register) (i : ℕ) (e : Edge) → Valid m e → AllValid m (edges_of rs)
    → AllValid m (edges_of (set rs i (Some e)))
unfolding edges_of
valid_put m [] i e v w = tt
valid_put m (None ∷ rs) zero e v w = (v, w)
valid_put m (Some x ∷ rs) zero e v w = (v, w.1)
valid_put m (None ∷ rs) (suc i) e v w = valid_put m rs i e v w
valid_put m (Some x ∷ rs) (suc i) e v w = (w.0, valid_put m rs i e v w.1)

valid_clear : (m : ℕ) (rs : List Register) (i : ℕ) → AllValid m (edges_of rs)
    → AllValid m (edges_of (set rs i empty_register))
unfolding edges_of
valid_clear m [] i w = tt
valid_clear m (None ∷ rs) zero w = w
valid_clear m (Some x ∷ rs) zero w = w.1
valid_clear m (None ∷ rs) (suc i) w = valid_clear m rs i w
valid_clear m (Some x ∷ rs) (suc i) w = (w.0, valid_clear m rs i w.1)

pub registers_put : {m : ℕ} {rs : List Register} (i : ℕ) {e : Edge} → RegistersValid m rs → Valid m e
    → RegistersValid m (set rs i (Some e))
registers_put {m} {rs} i {e} g v =
    record { sixteen = length-set rs i (Some e) ∙ g.sixteen; valid = valid_put m rs i e v g.valid }

pub registers_clear : {m : ℕ} {rs : List Register} (i : ℕ) → RegistersValid m rs
    → RegistersValid m (set rs i empty_register)
registers_clear {m} {rs} i g =
    record { sixteen = length-set rs i empty_register ∙ g.sixteen; valid = valid_clear m rs i g.valid }

-- more nodes

all_more : (m n : ℕ) (es : List Edge) → m ≤ n → AllValid m es → AllValid n es
all_more m n [] p v = tt
all_more m n (e ∷ es) p v = (valid_more n p v.0, all_more m n es p v.1)

pub registers_more : {m : ℕ} {rs : List Register} (n : ℕ) → m ≤ n → RegistersValid m rs → RegistersValid n rs
registers_more {m} {rs} n p g =
    record { sixteen = g.sixteen; valid = all_more m n (edges_of rs) p g.valid }

pub holds_kept : {d m : ℕ} {ts us : Set d} (rs : List Register) → m ≤ length ts → AllValid m (edges_of rs)
    → PrefixOf ts us → holds_all us rs ≡ holds_all ts rs
unfolding holds_all holds edges_of
holds_kept [] p v g = refl
holds_kept (None ∷ rs) p v g = ap (λ l. none ∷ l) (holds_kept rs p v g)
holds_kept (Some e ∷ rs) p v g = ap₂ (λ T l. some T ∷ l) (edge_kept p v.0 g) (holds_kept rs p v.1 g)
