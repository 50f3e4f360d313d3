use Rattle.std.proofs.Common.{sym, ◌∙◌}
use Rattle.std.proofs.lemmas.Bool.{false≢true}
use Rattle.value_demands.proofs.Fitting.{method_values, no_generics}
use Rattle.value_demands.proofs.methods.method_has_values.Goals as goal

pub returns-then-not-method_has_generics : goal.returns-then-not-method_has_generics
returns-then-not-method_has_generics g c =
    no_generics c.args.image.now (g.O.Owners.facts c.args.facts.now) c.requires.can c.args.row c.requires.there (λ p. false≢true (sym c.if-not-method_has_generics.true ∙ c.method_has_generics.ensures.1 p))

pub returns : goal.returns
returns g c =
    method_values c.args.image.now (g.O.Owners.facts c.args.facts.now) c.requires.can c.args.row c.requires.there c.fits_signature.result (c.method_has_generics.ensures.0 c.if-not-method_has_generics.false) c.fits_signature.ensures
