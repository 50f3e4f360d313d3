use Rattle.std.proofs.Common.{arith}
use Rattle.il_lexer.proofs.IdParts.{gap-start-is}
use Rattle.il_lexer.proofs.classes.is_gap_start.Goals as goal

pub returns : goal.returns
returns c = gap-start-is c.args.b (omega arith)
