use Rattle.std.proofs.Common.{rules, arith}
use Rattle.stdin.specs.PartsLaws.{text_ended, text_goes_on}
use Rattle.stdin.proofs.parts.Parts.read_text.Goals as goal

pub returns-then-count-self-clause-takes : goal.returns-then-count-self-clause-takes
returns-then-count-self-clause-takes g c =
    let filled = c.in_ok-fill.ensures.fills in
    text_ended _ _ _ _ c.loop.invariant.1 filled.kept c.put_before-count.ensures (omega arith) filled.within

pub loop-preserved : goal.loop-preserved
loop-preserved g c =
    let filled = c.in_ok-fill.ensures.fills in (
      search rules,
      text_goes_on _ _ _ _ c.loop.invariant.1 filled.kept c.put_before-count.ensures (omega arith) filled.within,
    )
