use Rattle.image_lightness.proofs.Lighting.{meets_rules}
use Rattle.image_lightness.proofs.maps.is_light_by.Goals as goal

pub is_light-requires-clause-meets : goal.is_light-requires-clause-meets
is_light-requires-clause-meets g c = meets_rules c.args.image.now c.requires.meets c.args.found.now.sizes.now c.requires.sizes

pub is_light-requires-clause-maps : goal.is_light-requires-clause-maps
is_light-requires-clause-maps g c = record { events_are = c.requires.events; properties_are = c.requires.properties; overrides_are = rw c.in_ok-chains.ensures c.requires.bodies }
