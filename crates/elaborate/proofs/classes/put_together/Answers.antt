use Rattle.elaborate.proofs.ClassLemmas.{put}
use Rattle.elaborate.proofs.classes.put_together.Goals as goal

pub returns : goal.returns
returns c s a f h m = put s a f c.args.head c.args.own c.args.nested h m
