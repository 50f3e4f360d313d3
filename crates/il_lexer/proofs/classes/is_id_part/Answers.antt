use Rattle.std.proofs.Common.{arith}
use Rattle.il_lexer.proofs.IdParts.{id-part-is}
use Rattle.il_lexer.proofs.classes.is_id_part.Goals as goal

pub returns : goal.returns
returns c = id-part-is c.args.b (omega arith)
