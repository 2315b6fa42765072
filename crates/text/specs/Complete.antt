-- What holds of the tally at the start and after every call: its set is normal (all its tensors are, and no two
-- are equal), and every nonconstant cofactor of a filled register has its normal multiple there. So `collect`, a
-- filter of the set, keeps exactly what document 01 says.
use Rattle.std.specs.Prelude.{List, [], ◌∷◌, ℕ, ◌≤◌, ◌<◌}
use Rattle.std.proofs.Math.Option.{Option, none, some}
use Rattle.diagram.specs.Tensor.{Tensor}
use Rattle.diagram.specs.Tally.{Set}
use Rattle.diagram.specs.Reach.{Covers}
use Rattle.diagram.specs.Sets.{NormalSet}
use Rattle.text.specs.Session.{Tally}
use Rattle.text.specs.declared.call.Call.{Call}
use Rattle.text.specs.declared.call.Call.TheVariants as call

-- a call's index of `low` is below d; the line's reader ensures it at 24 (InRange)
abbrev pub LowBelow : ℕ → Call → Type 0
LowBelow d (call.Put r w) = Unit {0}
LowBelow d (call.Gate r g) = Unit {0}
LowBelow d (call.Unit r n) = Unit {0}
LowBelow d (call.Add r a b) = Unit {0}
LowBelow d (call.Cont r a b m) = Unit {0}
LowBelow d (call.Low r a k) = (1 ≤ k) × (k < d)
LowBelow d (call.Drop a) = Unit {0}
LowBelow d call.Collect = Unit {0}
LowBelow d (call.At a v) = Unit {0}
LowBelow d (call.Cmp a b) = Unit {0}
LowBelow d (call.On a) = Unit {0}
LowBelow d (call.Lows r a m) = Unit {0}

-- every filled register's cofactors are in the set
abbrev pub AllCovered : {d : ℕ} → Set d → List (Option (Tensor d)) → Type 0
AllCovered s [] = Unit {0}
AllCovered s (none ∷ l) = AllCovered s l
AllCovered s (some T ∷ l) = Covers s T × AllCovered s l

pub record Complete {d : ℕ} (t : Tally d) : Type 0 where
  pub normal : NormalSet t.nodes
  pub covered : AllCovered t.nodes t.registers
