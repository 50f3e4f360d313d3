-- Properties and events, with their accessors: what each brings, with its rows.
use Rattle.std.proofs.Common.{◌+◌, ◌*◌, ◌≤◌, List, [], ◌∷◌, length, arith}
use Rattle.std.specs.Prelude.{sum_by}
use Rattle.assembly_tree.specs.Weight.{property_weight, event_weight}
use Rattle.assembly_tree.specs.declared.members.Event.{Event}
use Rattle.assembly_tree.specs.declared.members.Property.{Property}
use Rattle.image_rows.specs.EventRows.{event_bytes}
use Rattle.image_rows.specs.PropertyRows.{property_bytes}
use Rattle.laws_tree_weights.proofs.AttributeSums.{property_attributes, event_attributes}
use Rattle.laws_tree_weights.proofs.OwnedSums.{property_constant, property_accessors, event_accessors}
use Rattle.laws_tree_weights.proofs.PartLemmas.{attributes_fit}
use Rattle.laws_tree_weights.proofs.Sums.{sum_each, totals_least}

property_fits : (p : Property) → property_bytes p + 10 + (property_constant p + (property_accessors p + (property_attributes p + 0))) ≤ property_weight p
unfolding property_bytes property_weight
property_fits p = let attributes = attributes_fit p.attributes in omega arith

pub properties_fit : (properties : List Property)
    → sum_by property_bytes properties + 10 * length properties + sum_by property_constant properties + sum_by property_accessors properties
    + sum_by property_attributes properties
    ≤ sum_by property_weight properties
properties_fit properties =
    let rows = sum_each property_bytes 10 properties in
    let all = totals_least ((λ p. property_bytes p + 10) ∷ property_constant ∷ property_accessors ∷ property_attributes ∷ []) property_weight property_fits properties in
    omega arith

event_fits : (e : Event) → event_bytes e + 10 + (event_accessors e + (event_attributes e + 0)) ≤ event_weight e
unfolding event_bytes event_weight
event_fits e = let attributes = attributes_fit e.attributes in omega arith

pub events_fit : (events : List Event)
    → sum_by event_bytes events + 10 * length events + sum_by event_accessors events + sum_by event_attributes events ≤ sum_by event_weight events
events_fit events =
    let rows = sum_each event_bytes 10 events in
    let all = totals_least ((λ e. event_bytes e + 10) ∷ event_accessors ∷ event_attributes ∷ []) event_weight event_fits events in
    omega arith
