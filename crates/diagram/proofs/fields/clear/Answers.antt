use Rattle.diagram.specs.FieldsLaws.{cleared_more}
use borrow.Author.Rules.{rules}
use Rattle.diagram.proofs.fields.clear.Goals as goal

pub loop-i-preserved : goal.loop-i-preserved
loop-i-preserved c = search (rules, cleared_more)
