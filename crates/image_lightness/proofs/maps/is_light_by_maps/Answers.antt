use Rattle.std.proofs.Common.{ℕ, List, sym, subst}
use Rattle.body_codec.specs.Names.{NameMap}
use Rattle.image_model.specs.Namings.{AreNamings}
use Rattle.image_ready.specs.Laws.{AreDataSizes}
use Rattle.image_lightness.proofs.Lighting.{event_parents, overrides, can_measure, values_hold}
use Rattle.image_lightness.proofs.maps.is_light_by_maps.Goals as goal

pub first_maps-requires-clause-within : goal.first_maps-requires-clause-within
first_maps-requires-clause-within g c = event_parents c.args.image.now c.requires.meets

pub overriders-requires : goal.overriders-requires
overriders-requires g c = overrides c.args.image.now c.requires.meets

pub data_sizes-requires-clause-can : goal.data_sizes-requires-clause-can
data_sizes-requires-clause-can g c = can_measure c.args.image.now c.requires.meets

pub data_sizes-requires-clause-values : goal.data_sizes-requires-clause-values
data_sizes-requires-clause-values g c = values_hold c.args.image.now c.requires.meets

pub is_light_by-requires-clause-sizes : goal.is_light_by-requires-clause-sizes
is_light_by-requires-clause-sizes g c =
    let sizes = rw c.in_ok-events.ensures.1.1.1 at c.data_sizes.ensures in
    subst (λ (s : List ℕ). (names : NameMap) → AreNamings c.args.image.now names → AreDataSizes c.args.image.now names s) (sym c.as_slice-4.ensures.value) sizes
