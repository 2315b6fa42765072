use Rattle.std.proofs.Common.{rules, refl, arith}
use Rattle.stdin.specs.PartsLaws.{read_fills}
use Rattle.stdin.proofs.parts.Parts.fill.Goals as goal

pub returns-clause-fills : goal.returns-clause-fills
returns-clause-fills g c =
    let came = c.in_ok-self.ensures in
    read_fills (omega (arith, c.min-self.ensures, c.if-self.false)) came.bytes.0 came.bytes.1 came.prefix_len.0
    (search rules) refl refl
