-- Laws of Operate: a call that sets a register unless it is refused by 7 answers as the tally's.
use Rattle.std.specs.Prelude.{◌≡◌, List, Bool, true, false, ℕ, Err}
use Rattle.std.proofs.Math.Path.{refl}
use Rattle.std.proofs.Common.{arith}
use Rattle.diagram.specs.Tensor.{indices}
use Rattle.diagram.specs.Tally.{Step}
use Rattle.text.specs.Session.{refuse}
use Rattle.text.specs.Engine.{Reply, tally_of, SetsRegister, EngineInvariant}
use Rattle.text.specs.declared.engine.Contents.{Contents}
use Rattle.text.specs.Operate.{SetsUnless}
use Rattle.text.specs.RespondLaws.{refused_forgets}
use Rattle.text.specs.declared.call.Refusal.TheVariants.{Depends}

module _ {s : List ℕ} {e : Contents} {d : ℕ} {b test : Bool} {f : Step indices} (told : b ≡ test) where
  pub unless_refused : {c : List ℕ} → EngineInvariant c s e → b ≡ true
      → SetsUnless c s s e d test f (record { answer = Err Depends; engine = e })
  unfolding refuse
  unless_refused p q = record {
    invariant = p;
    small = tt;
    is = rw (← told, q);
    refused = λ no. record { nodes = refl; registers = refl };
    forgets = refused_forgets e Depends (λ z. omega arith);
  }

  pub unless_sets : {c' s' : List ℕ} {r : Reply} → b ≡ false → SetsRegister c' s s' e d f r
      → SetsUnless c' s s' e d test f r
  unfolding tally_of
  unless_sets q g = record {
    invariant = g.invariant;
    small = g.small;
    is = rw (← told, q) g.is;
    refused = g.refused;
    forgets = g.forgets;
  }
