use Rattle.body_demands.proofs.Meeting.{clauses_past}
use Rattle.body_demands.proofs.clauses.ClausesDemand.others_meet.Goals as goal

pub returns : goal.returns
returns c table row past = clauses_past c.args.self.now table row _ past
