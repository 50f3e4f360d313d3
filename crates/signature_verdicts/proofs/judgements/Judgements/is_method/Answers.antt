use Rattle.signature_verdicts.proofs.Verdicts.{method_said}
use Rattle.signature_verdicts.proofs.judgements.Judgements.is_method.Goals as goal

pub returns : goal.returns
returns g c = rw c.of.ensures (method_said c.args.self.now.image.now (g.O.Owners.facts c.args.self.now.owners.now) c.args.index)
