use Rattle.std.proofs.Common.{sym, subst}
use Rattle.body_tokens.specs.Tokens.{AreAllKnown, IsFirstUnknown}
use Rattle.image_model.specs.Faults.{IsImageFault}
use Rattle.image_streams.specs.declared.opened.Unmet.{Unmet}
use Rattle.signature_demands.proofs.Finding.{at_some, at_none}
use Rattle.image_demands.proofs.MethodBodies.{unknown_fails, known_next}
use Rattle.image_demands.proofs.bodies.unknown_token.Goals as goal

pub returns-in-Some : goal.returns-in-Some
returns-in-Some c =
    let image = c.args.image.now in
    let h = at_some (AreAllKnown image) (IsFirstUnknown image) c.in_ok-found.found c.in-Some.row c.in-Some.is c.in_ok-found.ensures in
    subst (λ (u : Unmet). IsImageFault image u.rule u.at) (sym c.at_row.ensures) (unknown_fails image c.tables-tables.ensures.meets c.requires.below c.in-Some.row h)

pub returns-in-None : goal.returns-in-None
returns-in-None c =
    let image = c.args.image.now in
    known_next image c.tables-tables.ensures.meets c.requires.below (at_none (AreAllKnown image) (IsFirstUnknown image) c.in_ok-found.found c.in-None.is c.in_ok-found.ensures)
