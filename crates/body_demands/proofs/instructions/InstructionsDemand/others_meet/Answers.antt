use Rattle.body_demands.proofs.Meeting.{instructions_past}
use Rattle.body_demands.proofs.instructions.InstructionsDemand.others_meet.Goals as goal

pub returns : goal.returns
returns c table row past = instructions_past c.args.self.now table row _ past
