use Rattle.std.proofs.Common.{ap, sym, ◌∙◌, subst, ℕ, length}
use Rattle.assembly_tree.specs.declared.members.Event.{Event}
use Rattle.assembly_tree.specs.declared.members.Property.{Property}
use Rattle.image_members.specs.Lists.{properties_in, events_in}
use Rattle.image_rows.specs.MapRows.{map_rows, event_count, property_count}
use Rattle.image_members.specs.Places.{lent}
use Rattle.image_members.specs.Pushing.{AddsRows}
use Rattle.image_rows.proofs.FieldLemmas.{lent_long}
use Rattle.image_tables.proofs.TypePart.{bases_ready, few_classes, interfaces_can, few_layouts, few_nested, few_event_maps, few_events, few_properties, few_property_maps, types_filled}
use Rattle.image_tables.proofs.type_part.push_type_part.Goals as goal

pub push_all_types-requires-clause-ready : goal.push_all_types-requires-clause-ready
push_all_types-requires-clause-ready c = bases_ready c.args.a.now c.args.classes.now c.args.refs.now c.args.rows.now c.requires.ready

pub push_all_interfaces-requires-clause-count : goal.push_all_interfaces-requires-clause-count
push_all_interfaces-requires-clause-count c = few_classes c.args.a.now c.args.classes.now c.args.refs.now c.args.rows.now c.requires.ready

pub push_all_interfaces-requires-clause-can : goal.push_all_interfaces-requires-clause-can
push_all_interfaces-requires-clause-can c =
    interfaces_can c.args.a.now c.args.classes.now c.args.refs.now c.args.rows.now c.requires.ready c.push_all_types.new.refs c.push_all_types.new.rows c.in_ok-push_all_types.ensures

pub push_layouts-requires-clause-count : goal.push_layouts-requires-clause-count
push_layouts-requires-clause-count c = few_classes c.args.a.now c.args.classes.now c.args.refs.now c.args.rows.now c.requires.ready

pub push_layouts-requires-clause-few : goal.push_layouts-requires-clause-few
push_layouts-requires-clause-few c =
    few_layouts c.args.a.now c.args.classes.now c.args.refs.now c.args.rows.now c.requires.ready c.push_all_types.new.refs c.push_all_types.new.rows c.in_ok-push_all_types.ensures
    c.push_all_interfaces.new.refs c.push_all_interfaces.new.rows c.in_ok-push_all_interfaces.ensures

pub push_nested-requires-clause-count : goal.push_nested-requires-clause-count
push_nested-requires-clause-count c = few_classes c.args.a.now c.args.classes.now c.args.refs.now c.args.rows.now c.requires.ready

pub push_nested-requires-clause-few : goal.push_nested-requires-clause-few
push_nested-requires-clause-few c =
    few_nested c.args.a.now c.args.classes.now c.args.refs.now c.args.rows.now c.requires.ready c.push_all_types.new.refs c.push_all_types.new.rows c.in_ok-push_all_types.ensures
    c.push_all_interfaces.new.refs c.push_all_interfaces.new.rows c.in_ok-push_all_interfaces.ensures c.push_layouts.new.rows c.in_ok-push_layouts.ensures

pub push_event_runs-requires-clause-count : goal.push_event_runs-requires-clause-count
push_event_runs-requires-clause-count c = few_classes c.args.a.now c.args.classes.now c.args.refs.now c.args.rows.now c.requires.ready

pub push_event_runs-requires-clause-few : goal.push_event_runs-requires-clause-few
push_event_runs-requires-clause-few c =
    few_event_maps c.args.a.now c.args.classes.now c.args.refs.now c.args.rows.now c.requires.ready c.push_all_types.new.refs c.push_all_types.new.rows c.in_ok-push_all_types.ensures
    c.push_all_interfaces.new.refs c.push_all_interfaces.new.rows c.in_ok-push_all_interfaces.ensures c.push_layouts.new.rows c.in_ok-push_layouts.ensures
    c.push_nested.new.rows c.in_ok-push_nested.ensures

pub push_event_runs-requires-clause-runs : goal.push_event_runs-requires-clause-runs
push_event_runs-requires-clause-runs c =
    few_events c.args.a.now c.args.classes.now c.args.refs.now c.args.rows.now c.requires.ready c.push_all_types.new.refs c.push_all_types.new.rows c.in_ok-push_all_types.ensures
    c.push_all_interfaces.new.refs c.push_all_interfaces.new.rows c.in_ok-push_all_interfaces.ensures c.push_layouts.new.rows c.in_ok-push_layouts.ensures
    c.push_nested.new.rows c.in_ok-push_nested.ensures

pub push_property_runs-requires-clause-count : goal.push_property_runs-requires-clause-count
push_property_runs-requires-clause-count c = few_classes c.args.a.now c.args.classes.now c.args.refs.now c.args.rows.now c.requires.ready

pub push_property_runs-requires-clause-few : goal.push_property_runs-requires-clause-few
push_property_runs-requires-clause-few c =
    let events : AddsRows 0x12 (map_rows event_count (length (events_in c.args.classes.now)) 2 1 c.args.classes.now) c.push_nested.new.rows c.push_event_runs.new.rows =
    subst (λ (n : ℕ). AddsRows 0x12 (map_rows event_count n 2 1 c.args.classes.now) c.push_nested.new.rows c.push_event_runs.new.rows)
    (sym (lent_long c.as_slice.result.now) ∙ ap (length {A = Event}) (ap lent c.as_slice.ensures ∙ c.requires.ordered.events)) c.in_ok-push_event_runs.ensures in
    few_property_maps c.args.a.now c.args.classes.now c.args.refs.now c.args.rows.now c.requires.ready c.push_all_types.new.refs c.push_all_types.new.rows c.in_ok-push_all_types.ensures
    c.push_all_interfaces.new.refs c.push_all_interfaces.new.rows c.in_ok-push_all_interfaces.ensures c.push_layouts.new.rows c.in_ok-push_layouts.ensures
    c.push_nested.new.rows c.in_ok-push_nested.ensures c.push_event_runs.new.rows events

pub push_property_runs-requires-clause-runs : goal.push_property_runs-requires-clause-runs
push_property_runs-requires-clause-runs c =
    few_properties c.args.a.now c.args.classes.now c.args.refs.now c.args.rows.now c.requires.ready c.push_all_types.new.refs c.push_all_types.new.rows c.in_ok-push_all_types.ensures
    c.push_all_interfaces.new.refs c.push_all_interfaces.new.rows c.in_ok-push_all_interfaces.ensures c.push_layouts.new.rows c.in_ok-push_layouts.ensures
    c.push_nested.new.rows c.in_ok-push_nested.ensures

pub returns : goal.returns
returns c =
    let events : AddsRows 0x12 (map_rows event_count (length (events_in c.args.classes.now)) 2 1 c.args.classes.now) c.push_nested.new.rows c.push_event_runs.new.rows =
    subst (λ (n : ℕ). AddsRows 0x12 (map_rows event_count n 2 1 c.args.classes.now) c.push_nested.new.rows c.push_event_runs.new.rows)
    (sym (lent_long c.as_slice.result.now) ∙ ap (length {A = Event}) (ap lent c.as_slice.ensures ∙ c.requires.ordered.events)) c.in_ok-push_event_runs.ensures in
    let properties : AddsRows 0x15 (map_rows property_count (length (properties_in c.args.classes.now)) 2 1 c.args.classes.now) c.push_event_runs.new.rows c.push_property_runs.new.rows =
    subst (λ (n : ℕ). AddsRows 0x15 (map_rows property_count n 2 1 c.args.classes.now) c.push_event_runs.new.rows c.push_property_runs.new.rows)
    (sym (lent_long c.as_slice-2.result.now) ∙ ap (length {A = Property}) (ap lent c.as_slice-2.ensures ∙ c.requires.ordered.properties)) c.in_ok-push_property_runs.ensures in
    types_filled c.args.a.now c.args.classes.now c.args.refs.now c.args.rows.now c.requires.ready c.push_all_types.new.refs c.push_all_types.new.rows c.in_ok-push_all_types.ensures
    c.push_all_interfaces.new.refs c.push_all_interfaces.new.rows c.in_ok-push_all_interfaces.ensures c.push_layouts.new.rows c.in_ok-push_layouts.ensures
    c.push_nested.new.rows c.in_ok-push_nested.ensures c.push_event_runs.new.rows events c.push_property_runs.new.rows properties

pub push_event_runs-requires-clause-all : goal.push_event_runs-requires-clause-all
push_event_runs-requires-clause-all c = ap lent c.as_slice.ensures ∙ c.requires.ordered.events

pub push_property_runs-requires-clause-all : goal.push_property_runs-requires-clause-all
push_property_runs-requires-clause-all c = ap lent c.as_slice-2.ensures ∙ c.requires.ordered.properties
