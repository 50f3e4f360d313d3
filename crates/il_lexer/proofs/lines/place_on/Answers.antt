use Rattle.std.proofs.Common.{arith}
use Rattle.il_lexer.proofs.LineLemmas.{place-on}
use Rattle.il_lexer.proofs.lines.place_on.Goals as goal

pub returns-clause-value : goal.returns-clause-value
returns-clause-value c =
    place-on c.args.source.now c.loop-line.line c.args.to c.loop-line.invariant.is c.loop-line.invariant.starts (omega arith)
