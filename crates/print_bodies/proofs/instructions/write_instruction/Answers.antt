use Rattle.print_bodies.proofs.Rows.{token_done}
use Rattle.print_bodies.proofs.instructions.write_instruction.Goals as goal

pub returns-in_ok-write_token : goal.returns-in_ok-write_token
returns-in_ok-write_token c =
    token_done c.args.externs.now c.args.code.now c.args.paper.now _ _ c.args.ins.now c.kind_of.result c.is_token.result c.kind_of.ensures c.is_token.ensures
    c.if-is_token.true c.in_ok-word.ensures c.in_ok-write_token.ensures
