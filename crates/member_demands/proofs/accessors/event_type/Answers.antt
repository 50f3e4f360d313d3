use Rattle.std.proofs.Common.{◌≡◌, sym, ◌∙◌, ap, subst}
use Rattle.metadata_tables.specs.Stream.{cell}
use Rattle.image_model.specs.Columns.{event_map_parent}
use Rattle.image_model.specs.Rows.{events_of}
use Rattle.member_demands.specs.Semantics.{IsOwnedBy}
use Rattle.member_demands.proofs.Ordered.{event_maps_rise, event_maps_there, first_event_before, event_map_first, event_type_there}
use Rattle.member_demands.proofs.Owned.{event_owned}
use Rattle.member_demands.proofs.accessors.event_type.Goals as goal

pub owner_of-map-requires-clause-rise : goal.owner_of-map-requires-clause-rise
owner_of-map-requires-clause-rise c = event_maps_rise c.args.image.now c.requires.meets

pub owner_of-map-requires-clause-some : goal.owner_of-map-requires-clause-some
owner_of-map-requires-clause-some c = event_maps_there c.args.image.now c.requires.meets c.args.row c.requires.there

pub owner_of-map-requires-clause-first : goal.owner_of-map-requires-clause-first
owner_of-map-requires-clause-first c = first_event_before c.args.image.now c.requires.meets c.args.row c.requires.there

pub returns : goal.returns
returns c =
    let map = c.owner_of-map.result in
    let owner = c.owner_of-map.ensures in
    let is : c.cell.result ≡ event_map_parent c.args.image.now map = c.cell.ensures ∙ ap (λ stream. cell stream 0x12 map 0) c.tables.ensures.tables in
    subst (IsOwnedBy c.args.image.now (events_of c.args.image.now) c.args.row) (sym is)
    (event_owned c.args.image.now map c.args.row owner.there (event_type_there c.args.image.now c.requires.meets map owner.there)
    (event_map_first c.args.image.now c.requires.meets map owner.there) owner.owns owner.only)
