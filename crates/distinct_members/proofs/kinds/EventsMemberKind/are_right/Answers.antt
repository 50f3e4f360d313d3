use Rattle.distinct_members.proofs.Liking.{event_named}
use Rattle.distinct_members.proofs.kinds.EventsMemberKind.are_right.Goals as goal

pub returns-clause-names : goal.returns-clause-names
returns-clause-names c = event_named c.args.self.now.image.now c.requires
