use Rattle.diagram.specs.NormaliseLaws.{normalise_high, normalise_low}
use borrow.Author.Rules.{rules}
use Rattle.diagram.proofs.normalise.normalise.Goals as goal

pub returns-then-v-eq0 : goal.returns-then-v-eq0
returns-then-v-eq0 c = search (rules, normalise_high)

pub returns : goal.returns
returns c = search (rules, normalise_low)
