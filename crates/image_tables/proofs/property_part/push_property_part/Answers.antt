use Rattle.std.proofs.Common.{◌≡◌, ap, ◌∙◌, subst, ◌<◌, ◌^◌, List, arith}
use Rattle.assembly_tree.specs.declared.members.Event.{Event}
use Rattle.assembly_tree.specs.declared.members.Property.{Property}
use Rattle.image_rows.specs.EventRows.{event_bytes, IsEventRow}
use Rattle.image_members.specs.Lists.{properties_in, events_in}
use Rattle.image_members.specs.Places.{lent}
use Rattle.image_rows.specs.PropertyRows.{property_bytes, IsPropertyRow}
use Rattle.image_members.specs.Pushing.{Pushes}
use Rattle.image_tables.proofs.PropertyPart.{properties_can, events_can, accessors_can, properties_filled}
use Rattle.image_tables.proofs.property_part.push_property_part.Goals as goal

pub push_properties-requires : goal.push_properties-requires
push_properties-requires c =
    properties_can c.args.a.now c.args.classes.now c.args.refs.now c.args.rows.now c.requires.ready (lent c.as_slice.result.now) (ap lent c.as_slice.ensures ∙ c.requires.ordered.properties)

pub push_events-requires : goal.push_events-requires
push_events-requires c =
    let properties : Pushes 0x17 IsPropertyRow property_bytes (properties_in c.args.classes.now) c.args.refs.now c.push_properties.new.refs c.args.rows.now c.push_properties.new.rows =
    subst (λ (ps : List Property). Pushes 0x17 IsPropertyRow property_bytes ps c.args.refs.now c.push_properties.new.refs c.args.rows.now c.push_properties.new.rows)
    (ap lent c.as_slice.ensures ∙ c.requires.ordered.properties) c.in_ok-push_properties.ensures in
    events_can c.args.a.now c.args.classes.now c.args.refs.now c.args.rows.now c.requires.ready c.push_properties.new.refs c.push_properties.new.rows properties
    (lent c.as_slice-2.result.now) (ap lent c.as_slice-2.ensures ∙ c.requires.ordered.events)

pub push_accessor_rows-requires-clause-counted : goal.push_accessor_rows-requires-clause-counted
push_accessor_rows-requires-clause-counted c = let few = c.requires.ready.few.methods_counted in omega arith

pub push_accessor_rows-requires-clause-owners : goal.push_accessor_rows-requires-clause-owners
push_accessor_rows-requires-clause-owners c = let few = c.requires.ready.few.accessor_owners in omega arith

pub push_accessor_rows-requires-clause-can : goal.push_accessor_rows-requires-clause-can
push_accessor_rows-requires-clause-can c =
    let properties : Pushes 0x17 IsPropertyRow property_bytes (properties_in c.args.classes.now) c.args.refs.now c.push_properties.new.refs c.args.rows.now c.push_properties.new.rows =
    subst (λ (ps : List Property). Pushes 0x17 IsPropertyRow property_bytes ps c.args.refs.now c.push_properties.new.refs c.args.rows.now c.push_properties.new.rows)
    (ap lent c.as_slice.ensures ∙ c.requires.ordered.properties) c.in_ok-push_properties.ensures in
    let events : Pushes 0x14 IsEventRow event_bytes (events_in c.args.classes.now) c.push_properties.new.refs c.push_events.new.refs c.push_properties.new.rows c.push_events.new.rows =
    subst (λ (es : List Event). Pushes 0x14 IsEventRow event_bytes es c.push_properties.new.refs c.push_events.new.refs c.push_properties.new.rows c.push_events.new.rows)
    (ap lent c.as_slice-2.ensures ∙ c.requires.ordered.events) c.in_ok-push_events.ensures in
    accessors_can c.args.a.now c.args.classes.now c.args.refs.now c.args.rows.now c.requires.ready c.push_properties.new.refs c.push_properties.new.rows properties c.push_events.new.refs c.push_events.new.rows events

pub returns : goal.returns
returns c =
    let properties : Pushes 0x17 IsPropertyRow property_bytes (properties_in c.args.classes.now) c.args.refs.now c.push_properties.new.refs c.args.rows.now c.push_properties.new.rows =
    subst (λ (ps : List Property). Pushes 0x17 IsPropertyRow property_bytes ps c.args.refs.now c.push_properties.new.refs c.args.rows.now c.push_properties.new.rows)
    (ap lent c.as_slice.ensures ∙ c.requires.ordered.properties) c.in_ok-push_properties.ensures in
    let events : Pushes 0x14 IsEventRow event_bytes (events_in c.args.classes.now) c.push_properties.new.refs c.push_events.new.refs c.push_properties.new.rows c.push_events.new.rows =
    subst (λ (es : List Event). Pushes 0x14 IsEventRow event_bytes es c.push_properties.new.refs c.push_events.new.refs c.push_properties.new.rows c.push_events.new.rows)
    (ap lent c.as_slice-2.ensures ∙ c.requires.ordered.events) c.in_ok-push_events.ensures in
    properties_filled c.args.a.now c.args.classes.now c.args.refs.now c.args.rows.now c.requires.ready c.push_properties.new.refs c.push_properties.new.rows properties c.push_events.new.refs c.push_events.new.rows events
    c.push_accessor_rows.new.rows c.in_ok-push_accessor_rows.ensures
