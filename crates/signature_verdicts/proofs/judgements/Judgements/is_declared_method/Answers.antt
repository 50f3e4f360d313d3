use Rattle.signature_verdicts.proofs.Verdicts.{declared_then, declared_else}
use Rattle.signature_verdicts.proofs.judgements.Judgements.is_declared_method.Goals as goal

pub returns-then-verdict : goal.returns-then-verdict
returns-then-verdict g c = declared_then c.args.self.now.image.now (g.O.Owners.facts c.args.self.now.owners.now) c.of-verdict.result c.args.index c.of-verdict.ensures c.if-verdict.true

pub returns-else-verdict : goal.returns-else-verdict
returns-else-verdict g c = declared_else c.args.self.now.image.now (g.O.Owners.facts c.args.self.now.owners.now) c.of-verdict.result c.args.index c.of-verdict.ensures c.if-verdict.false
