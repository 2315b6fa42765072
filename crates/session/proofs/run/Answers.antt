use Rattle.std.proofs.Common.{rules}
use Rattle.session.specs.InputLaws.{input_start}
use Rattle.session.specs.SessionLaws.{session_ensures, run_whole}
use Rattle.session.proofs.run.Goals as goal

pub receive-received-requires : goal.receive-received-requires
receive-received-requires g c =
    (input_start c.requires.room c.none.ensures c.start.ensures.start c.requires.nothing_written).requires

pub returns-clause-session : goal.returns-clause-session
returns-clause-session g c =
    let v = session_ensures
    (input_start c.requires.room c.none.ensures c.start.ensures.start c.requires.nothing_written)
    c.requires.nothing_written c.receive-received.ensures.receives c.finish.ensures.finishes in
    search (rules, v)

pub returns-clause-whole : goal.returns-clause-whole
returns-clause-whole g c =
    let v = run_whole _ _ _ _ _
    (input_start c.requires.room c.none.ensures c.start.ensures.start c.requires.nothing_written)
    c.requires.nothing_written c.receive-received.ensures.takes c.receive-received.ensures.ended
    c.finish.ensures.finishes in
    search (rules, v)
