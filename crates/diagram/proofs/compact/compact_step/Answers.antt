use Rattle.diagram.specs.CompactLaws.{compact_dead, compact_live}
use mathlib.Core.Path.{sym, ◌∙◌}
use Rattle.diagram.proofs.compact.compact_step.Goals as goal

pub returns-then-mark-eq0 : goal.returns-then-mark-eq0
returns-then-mark-eq0 c = record {
  on = λ a f _ k. compact_dead a f _ _ _ _ k c.requires.0 (sym c.get-mark.ensures.0 ∙ c.if-mark-eq0.true);
}

pub returns : goal.returns
returns c = rw c.shift.ensures.0 record {
  on = λ a f closed k. compact_live a f _ _ _ _ k c.requires.0 closed
      (λ e. c.if-mark-eq0.false
      (c.get-mark.ensures.0 ∙ e)) c.requires.1.0
      c.shift.ensures.1;
}
