use mathlib.Core.Logic.{inl, inr}
use Rattle.diagram.specs.CompareLaws.{compare_nodes, compare_same, compare_zero, compare_factor}
use borrow.Author.Rules.{rules}
use Rattle.diagram.proofs.compare.compare.Goals as goal

pub returns-then-m-n : goal.returns-then-m-n
returns-then-m-n c = search (rules, compare_nodes)

pub returns-then-v-w : goal.returns-then-v-w
returns-then-v-w c = search (rules, compare_same)

pub returns-then-v-eq0 : goal.returns-then-v-eq0
returns-then-v-eq0 c = search (rules, compare_zero, inl)

pub returns-then-w-eq0 : goal.returns-then-w-eq0
returns-then-w-eq0 c = search (rules, compare_zero, inr)

pub returns : goal.returns
returns c = search (rules, compare_factor)
