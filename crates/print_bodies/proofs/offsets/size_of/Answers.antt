use Rattle.print_bodies.proofs.Counting.{size_done}
use Rattle.print_bodies.proofs.offsets.size_of.Goals as goal

pub returns : goal.returns
returns c = size_done c.args.ins.now _ _ c.kind_of.result c.opcode_size.ensures.size c.kind_of.ensures c.in_ok-operand.ensures
