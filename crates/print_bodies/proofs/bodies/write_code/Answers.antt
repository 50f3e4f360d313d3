use Rattle.std.proofs.Common.{refl}
use Rattle.print_bodies.proofs.Rows.{code_done}
use Rattle.print_bodies.proofs.bodies.write_code.Goals as goal

pub returns : goal.returns
returns c =
    code_done c.args.externs.now c.args.paper.now _ _ _ c.args.code.now _ c.args.clauses.now c.any_ends_last-ends.result _ _ c.in_ok-offsets.ensures
    c.in_ok-write_instructions.ensures c.any_ends_last-ends.ensures refl c.at.ensures c.in_ok-write_end.ensures c.in_ok-write_clauses.ensures
