use Rattle.std.proofs.Common.{sym, ◌∙◌, ap}
use Rattle.std.specs.Prelude.{bytes_eq, position}
use Rattle.lower_bodies.proofs.LabelPlaces.{at_place, named_at}
use Rattle.lower_bodies.proofs.code_places.token_in.Goals as goal

pub returns-in-Some : goal.returns-in-Some
returns-in-Some c s all =
    let ls = c.args.tokens.now in
    let found = sym c.in-Some.is ∙ c.find.ensures ∙ ap (position (bytes_eq c.args.name.now)) all in
    c.token_at.ensures ∙ ap (at_place ls) found ∙ sym (named_at s c.args.name.now ls)

pub returns-in-None : goal.returns-in-None
returns-in-None c s all =
    let ls = c.args.tokens.now in
    let found = sym c.in-None.is ∙ c.find.ensures ∙ ap (position (bytes_eq c.args.name.now)) all in
    ap (at_place ls) found ∙ sym (named_at s c.args.name.now ls)
