use Rattle.std.proofs.Common.{◌≡◌, IsTrue, true, false, sym, ◌∙◌, ap}
use Rattle.metadata_tables.specs.Stream.{cell}
use Rattle.image_model.specs.Columns.{event_type}
use Rattle.member_demands.proofs.ValueParts.{values_of_events}
use Rattle.member_demands.proofs.values.event_has_values.Goals as goal

pub returns-then-of-eq0 : goal.returns-then-of-eq0
returns-then-of-eq0 c names =
    let is : c.cell-of.result ≡ event_type c.args.image.now c.args.row = c.cell-of.ensures ∙ ap (λ stream. cell stream 0x14 c.args.row 2) c.tables.ensures.tables in
    (λ never. cc, λ v. absurd (((values_of_events c.args.image.now names c.args.row c.requires.there).1 v).0 (sym is ∙ c.if-of-eq0.true)))

pub returns : goal.returns
returns c names =
    let is : c.cell-of.result ≡ event_type c.args.image.now c.args.row = c.cell-of.ensures ∙ ap (λ stream. cell stream 0x14 c.args.row 2) c.tables.ensures.tables in
    let parts = values_of_events c.args.image.now names c.args.row c.requires.there in
    (λ yes. parts.0 (λ e. c.if-of-eq0.false (is ∙ e), c.event_has_kinds.ensures.0 yes), λ v. c.event_has_kinds.ensures.1 (parts.1 v).1)
