use Rattle.image_weights.proofs.type_rows.charge_type.Goals as goal

pub charge_layout-left-requires : goal.charge_layout-left-requires
charge_layout-left-requires g c = c.requires.stands.structure

pub charge_generics-left-requires-clause-meets : goal.charge_generics-left-requires-clause-meets
charge_generics-left-requires-clause-meets g c = c.requires.stands.structure

pub charge_interfaces-left-requires : goal.charge_interfaces-left-requires
charge_interfaces-left-requires g c = c.requires.stands.structure

pub charge_type_methods-left-requires-clause-overrides : goal.charge_type_methods-left-requires-clause-overrides
charge_type_methods-left-requires-clause-overrides g c = c.requires.maps.overrides_are

pub charge_type_properties-left-requires-clause-maps : goal.charge_type_properties-left-requires-clause-maps
charge_type_properties-left-requires-clause-maps g c = c.requires.maps.properties_are

pub charge_type_events-left-requires-clause-maps : goal.charge_type_events-left-requires-clause-maps
charge_type_events-left-requires-clause-maps g c = c.requires.maps.events_are

pub charge_attributes-requires-clause-meets : goal.charge_attributes-requires-clause-meets
charge_attributes-requires-clause-meets g c = c.requires.stands.structure
