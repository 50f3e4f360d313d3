use Rattle.signature_verdicts.proofs.Verdicts.{type_said}
use Rattle.signature_verdicts.proofs.judgements.Judgements.is_type.Goals as goal

pub returns : goal.returns
returns g c = rw c.of.ensures (type_said c.args.self.now.image.now (g.O.Owners.facts c.args.self.now.owners.now) c.args.index)
