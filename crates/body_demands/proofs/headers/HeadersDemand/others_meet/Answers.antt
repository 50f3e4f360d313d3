use Rattle.body_demands.proofs.Meeting.{header_past}
use Rattle.body_demands.proofs.headers.HeadersDemand.others_meet.Goals as goal

pub returns : goal.returns
returns c table row past = header_past c.args.self.now table row _ past
