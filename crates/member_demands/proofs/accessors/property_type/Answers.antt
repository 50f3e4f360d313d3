use Rattle.std.proofs.Common.{◌≡◌, sym, ◌∙◌, ap, subst}
use Rattle.metadata_tables.specs.Stream.{cell}
use Rattle.image_model.specs.Columns.{property_map_parent}
use Rattle.image_model.specs.Rows.{properties_of}
use Rattle.member_demands.specs.Semantics.{IsOwnedBy}
use Rattle.member_demands.proofs.Ordered.{property_maps_rise, property_maps_there, first_property_before, property_map_first, property_type_there}
use Rattle.member_demands.proofs.Owned.{property_owned}
use Rattle.member_demands.proofs.accessors.property_type.Goals as goal

pub owner_of-map-requires-clause-rise : goal.owner_of-map-requires-clause-rise
owner_of-map-requires-clause-rise c = property_maps_rise c.args.image.now c.requires.meets

pub owner_of-map-requires-clause-some : goal.owner_of-map-requires-clause-some
owner_of-map-requires-clause-some c = property_maps_there c.args.image.now c.requires.meets c.args.row c.requires.there

pub owner_of-map-requires-clause-first : goal.owner_of-map-requires-clause-first
owner_of-map-requires-clause-first c = first_property_before c.args.image.now c.requires.meets c.args.row c.requires.there

pub returns : goal.returns
returns c =
    let map = c.owner_of-map.result in
    let owner = c.owner_of-map.ensures in
    let is : c.cell.result ≡ property_map_parent c.args.image.now map = c.cell.ensures ∙ ap (λ stream. cell stream 0x15 map 0) c.tables.ensures.tables in
    subst (IsOwnedBy c.args.image.now (properties_of c.args.image.now) c.args.row) (sym is)
    (property_owned c.args.image.now map c.args.row owner.there (property_type_there c.args.image.now c.requires.meets map owner.there)
    (property_map_first c.args.image.now c.requires.meets map owner.there) owner.owns owner.only)
