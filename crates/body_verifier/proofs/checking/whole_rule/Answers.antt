use Rattle.std.proofs.Common.{sym, ◌∙◌}
use Rattle.std.proofs.lemmas.Bool.{false≢true}
use Rattle.body_verifier.specs.Checking.{unnested}
use Rattle.body_verifier.proofs.checking.whole_rule.Goals as goal

pub nested_rule-requires : goal.nested_rule-requires
nested_rule-requires c = (c.nest.ensures c.args.body.now.clauses c.requires.spans c.requires.forward).0 c.if-nest.true

pub returns : goal.returns
returns c = unnested (λ n. false≢true (sym c.if-nest.false ∙ (c.nest.ensures c.args.body.now.clauses c.requires.spans c.requires.forward).1 n))
