use Rattle.diagram.specs.EdgeLaws.{cofactor_constant, cofactor_above, cofactor_low, cofactor_high, high_small}
use borrow.Author.Rules.{rules}
use Rattle.diagram.proofs.edge.cofactor.Goals as goal

pub returns-then-a-eq0 : goal.returns-then-a-eq0
returns-then-a-eq0 c = search (rules, cofactor_constant)

pub returns-then-x-k : goal.returns-then-x-k
returns-then-x-k c = search (rules, cofactor_above)

pub times-requires : goal.times-requires
times-requires c = search (rules, high_small)

pub returns-then-high : goal.returns-then-high
returns-then-high c = search (rules, cofactor_high)

pub returns : goal.returns
returns c = search (rules, cofactor_low)
