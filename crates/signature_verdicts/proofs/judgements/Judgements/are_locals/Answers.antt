use Rattle.signature_verdicts.proofs.Verdicts.{locals_said}
use Rattle.signature_verdicts.proofs.judgements.Judgements.are_locals.Goals as goal

pub returns : goal.returns
returns g c = rw c.of.ensures (locals_said c.args.self.now.image.now (g.O.Owners.facts c.args.self.now.owners.now) c.args.index)
