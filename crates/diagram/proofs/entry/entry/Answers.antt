-- The gates on two qubits by their tables; the others are those that are left.
use mathlib.Core.Path.{◌≡◌, refl}
use Prim.Native.Nat.{ℕ}
use Rattle.diagram.specs.Gate.{shape, first_qubit}
use Rattle.diagram.specs.GateLaws.{cx_table, cz_table, sw_table}
use Rattle.diagram.specs.EntryLaws.{entry_single, entry_pair}
use Rattle.diagram.specs.declared.gate.Gate.{Gate}
use Rattle.diagram.specs.declared.gate.Gate.TheVariants as gate
use Rattle.diagram.specs.declared.gate.Shape.TheVariants.{One}
use borrow.Author.Rules.{rules}
use Rattle.diagram.proofs.entry.entry.Goals as goal

alone : (g : Gate) → ((a b : ℕ) → g ≡ gate.Cx a b → ⊥) → ((a b : ℕ) → g ≡ gate.Cz a b → ⊥)
    → ((a b : ℕ) → g ≡ gate.Sw a b → ⊥) → shape g ≡ One (first_qubit g)
alone (gate.X q) x z w = refl
alone (gate.Y q) x z w = refl
alone (gate.Z q) x z w = refl
alone (gate.H q) x z w = refl
alone (gate.S q) x z w = refl
alone (gate.Sd q) x z w = refl
alone (gate.T q) x z w = refl
alone (gate.Td q) x z w = refl
alone (gate.Cx a b) x z w = absurd (x a b refl)
alone (gate.Cz a b) x z w = absurd (z a b refl)
alone (gate.Sw a b) x z w = absurd (w a b refl)

pub returns-in-Cx : goal.returns-in-Cx
returns-in-Cx c = search (rules, entry_pair, cx_table)

pub returns-in-Cz : goal.returns-in-Cz
returns-in-Cz c = search (rules, entry_pair, cz_table)

pub returns-in-Sw : goal.returns-in-Sw
returns-in-Sw c = search (rules, entry_pair, sw_table)

pub returns-in_default : goal.returns-in_default
returns-in_default c =
    let left = c.in_default in
    entry_single c.args.g c.args.v (alone c.args.g left.not-Cx left.not-Cz left.not-Sw) c.qubits-a.ensures.first
    c.matrix.ensures c.single.ensures
