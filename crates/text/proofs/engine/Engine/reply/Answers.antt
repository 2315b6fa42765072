use Rattle.std.specs.Prelude.{◌≡◌, Err}
use borrow.Author.Rules.{rules}
use Rattle.text.specs.RespondLaws.{reply_refused}
use Rattle.text.proofs.engine.Engine.reply.Goals as goal

pub returns-in_err-read-clause-replies : goal.returns-in_err-read-clause-replies
returns-in_err-read-clause-replies c =
    let read : c.args.read ≡ Err c.in_err-read.field-0.0 = search rules in
    let refused : c.from_residual.result ≡ Err c.in_err-read.field-0.0 = search rules in
    rw refused (reply_refused c.requires.0 read)
