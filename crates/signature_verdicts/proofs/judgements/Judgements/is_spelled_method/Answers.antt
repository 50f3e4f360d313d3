use Rattle.signature_verdicts.proofs.Verdicts.{spelled_said}
use Rattle.signature_verdicts.proofs.judgements.Judgements.is_spelled_method.Goals as goal

pub returns : goal.returns
returns g c = rw c.of.ensures (spelled_said c.args.self.now.image.now (g.O.Owners.facts c.args.self.now.owners.now) c.args.index)
