use Rattle.std.proofs.Common.{refl}
use Rattle.std.proofs.lemmas.Bool.{false≢true}
use Rattle.body_tokens.proofs.Searching.{met_other, met_good, unmet_good}
use Rattle.body_tokens.proofs.search.is_met.Goals as goal

pub returns-clause-met : goal.returns-clause-met
returns-clause-met c =
    met_good c.args.image.now c.args.method c.args.state c.in_ok-known.known c.requires.small c.tables-tables.ensures.meets c.requires.there c.requires.state (c.if-not-is_good.ensures.0 refl) c.in_ok-known.ensures

pub returns-clause-unmet : goal.returns-clause-unmet
returns-clause-unmet c =
    unmet_good c.args.image.now c.args.method c.args.state c.in_ok-known.known c.requires.small c.tables-tables.ensures.meets c.requires.there c.requires.state (c.if-not-is_good.ensures.0 refl) c.in_ok-known.ensures

pub returns-then-not-is_good-clause-met : goal.returns-then-not-is_good-clause-met
returns-then-not-is_good-clause-met c = λ e known.
    met_other c.args.image.now c.args.method c.args.state c.requires.there c.requires.state (λ good. false≢true (c.if-not-is_good.ensures.1 good)) known
