use Rattle.std.proofs.Common.{◌≡◌, ◌*◌, refl, sym, ◌∙◌, ap}
use Rattle.metadata_tables.specs.declared.coded.Coded.TheVariants.{HasSemantics}
use Rattle.image_model.specs.Rows.{index_of, events_of}
use Rattle.member_demands.proofs.Owned.{event_index, accessors_told, no_accessors, accessors_of_events}
use Rattle.member_demands.proofs.accessors.event_meets.Goals as goal

pub returns-then-accessors-eq0 : goal.returns-then-accessors-eq0
returns-then-accessors-eq0 c =
    let is : index_of HasSemantics 0x14 c.args.row ≡ c.from.result * 2 = event_index c.args.row ∙ ap (λ r. r * 2) (sym c.from.ensures) in
    let rows = c.accessors_of-accessors.result in (
      λ yes. (accessors_of_events c.args.image.now c.args.row c.requires.there).0
          (no_accessors c.args.image.now (events_of c.args.image.now) 0x14 c.args.row (c.from.result * 2) rows.first rows.count is c.accessors_of-accessors.ensures c.if-accessors-eq0.true),
      λ own. refl,
    )

pub returns : goal.returns
returns c =
    let is : index_of HasSemantics 0x14 c.args.row ≡ c.from.result * 2 = event_index c.args.row ∙ ap (λ r. r * 2) (sym c.from.ensures) in
    let rows = c.accessors_of-accessors.result in
    let told = accessors_told c.args.image.now (events_of c.args.image.now) 0x14 c.args.row (c.from.result * 2) rows.first rows.count c.event_type-type_row.result is
    c.accessors_of-accessors.ensures c.event_type-type_row.ensures in
    let own = accessors_of_events c.args.image.now c.args.row c.requires.there in
    (λ yes. own.0 (told.0 (c.are_methods_of.ensures.0 yes)), λ has. c.are_methods_of.ensures.1 (told.1 (own.1 has)))
