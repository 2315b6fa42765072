-- What holds between two calls: a sound store, a cache that remembers only what is stable, and registers with edges of
-- the store.
use Rattle.std.specs.Prelude.{List, ℕ}
use Rattle.diagram.specs.Store.{Sound}
use Rattle.diagram.specs.Cache.{Remembers}
use Rattle.diagram.specs.Registers.{Register, RegistersValid}
use Rattle.diagram.specs.declared.make.State.{State}

pub record Invariant (c s : List ℕ) (st : State) (rs : List Register) : Type 0 where
  pub sound : Sound s st
  pub cache : Remembers c s st
  pub registers : RegistersValid st.count rs
