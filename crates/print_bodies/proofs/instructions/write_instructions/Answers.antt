use Rattle.print_bodies.proofs.Rows.{instructions_step}
use Rattle.print_bodies.proofs.instructions.write_instructions.Goals as goal

pub loop-ins-preserved : goal.loop-ins-preserved
loop-ins-preserved c =
    instructions_step c.args.externs.now c.args.code.now c.loop-ins.paper _ _ _ c.loop-ins.offset _ c.loop-ins.ins-index c.ins-item.result c.args.all.now
    c.loop-ins-test.true c.ins-item.is c.in_ok-label_line.ensures c.in_ok-write_instruction.ensures c.in_ok-offset.ensures c.loop-ins.invariant
