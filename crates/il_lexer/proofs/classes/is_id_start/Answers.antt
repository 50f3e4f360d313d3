use Rattle.std.proofs.Common.{arith}
use Rattle.il_lexer.proofs.IdParts.{id-start-is}
use Rattle.il_lexer.proofs.classes.is_id_start.Goals as goal

pub returns : goal.returns
returns c = id-start-is c.args.b (omega arith)
