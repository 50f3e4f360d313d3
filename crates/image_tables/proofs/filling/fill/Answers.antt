use Rattle.std.proofs.Common.{◌≡◌, ap, sym, ◌∙◌, subst, ℕ, ◌+◌, ◌≤◌, ◌^◌, List, length, map}
use Rattle.std.specs.Borrow.{Bor}
use Rattle.std.specs.Prelude.{sum_by}
use Rattle.assembly_tree.specs.declared.members.Field.{Field}
use Rattle.image_tokens.proofs.GrowthLemmas.{grows_refl}
use Rattle.image_members.specs.DataRows.{all_data, data_room}
use Rattle.image_members.specs.Places.{lent, all_fields}
use Rattle.image_tables.specs.FieldPart.{FillsFields}
use Rattle.image_tables.specs.Filling.{property_part, Lengthens}
use Rattle.image_tables.proofs.FillLemmas.{fields_can, all_full, all_grown, all_room, all_code}
use Rattle.image_tables.proofs.ReadyLemmas.{manifest_room, bodies_room, data_long, methods_ready, types_ready, fields_ready, properties_ready, owned_ready}
use Rattle.image_tables.proofs.filling.fill.Goals as goal
use Rattle.laws_tree_weights.specs.ImageBytes.{owned_bytes}

pub push_manifest-requires-clause-known : goal.push_manifest-requires-clause-known
push_manifest-requires-clause-known c =
    c.requires.ready.known

pub push_manifest-requires-clause-plain : goal.push_manifest-requires-clause-plain
push_manifest-requires-clause-plain c =
    (c.requires.ready.can c.args.refs.now (grows_refl c.args.refs.now)).manifest

pub push_manifest-requires-clause-externs : goal.push_manifest-requires-clause-externs
push_manifest-requires-clause-externs c =
    (c.requires.ready.can c.args.refs.now (grows_refl c.args.refs.now)).externs

pub push_manifest-requires-clause-few : goal.push_manifest-requires-clause-few
push_manifest-requires-clause-few c =
    c.requires.ready.few.externs

pub push_manifest-requires-clause-lacks : goal.push_manifest-requires-clause-lacks
push_manifest-requires-clause-lacks c =
    c.requires.ready.lacks

pub push_manifest-requires-clause-room : goal.push_manifest-requires-clause-room
push_manifest-requires-clause-room c =
    manifest_room c.args.a.now c.args.classes.now c.args.refs.now c.args.rows.now c.requires.ready

pub push_method_part-requires-clause-ready : goal.push_method_part-requires-clause-ready
push_method_part-requires-clause-ready c =
    methods_ready c.args.a.now c.args.classes.now c.args.refs.now c.args.rows.now c.requires.ready c.push_manifest.new.refs c.push_manifest.new.rows c.in_ok-push_manifest.ensures

pub push_method_part-requires-clause-ordered : goal.push_method_part-requires-clause-ordered
push_method_part-requires-clause-ordered c =
    c.requires.ordered

pub push_method_part-requires-clause-long : goal.push_method_part-requires-clause-long
push_method_part-requires-clause-long c =
    bodies_room c.args.a.now c.args.classes.now c.args.refs.now c.args.rows.now c.requires.ready c.args.code.now c.requires.long

pub push_type_part-requires-clause-ready : goal.push_type_part-requires-clause-ready
push_type_part-requires-clause-ready c =
    types_ready c.args.a.now c.args.classes.now c.args.refs.now c.args.rows.now c.requires.ready c.push_manifest.new.refs c.push_manifest.new.rows c.in_ok-push_manifest.ensures
    c.push_method_part.new.code c.push_method_part.new.refs c.push_method_part.new.rows c.in_ok-push_method_part.ensures.fills

pub push_type_part-requires-clause-ordered : goal.push_type_part-requires-clause-ordered
push_type_part-requires-clause-ordered c =
    c.requires.ordered

pub push_field_part-requires-clause-can : goal.push_field_part-requires-clause-can
push_field_part-requires-clause-can c =
    fields_can c.args.a.now c.args.classes.now (property_part c.args.classes.now + owned_bytes c.args.a.now c.args.classes.now) c.push_type_part.new.refs c.push_type_part.new.rows (lent c.as_slice.result.now) (ap lent c.as_slice.ensures ∙ c.requires.ordered.fields)
    (fields_ready c.args.a.now c.args.classes.now c.args.refs.now c.args.rows.now c.requires.ready c.push_manifest.new.refs c.push_manifest.new.rows c.in_ok-push_manifest.ensures
    c.push_method_part.new.code c.push_method_part.new.refs c.push_method_part.new.rows c.in_ok-push_method_part.ensures.fills
    c.push_type_part.new.refs c.push_type_part.new.rows c.in_ok-push_type_part.ensures)

pub push_field_part-requires-clause-long : goal.push_field_part-requires-clause-long
push_field_part-requires-clause-long c =
    subst (λ (fs : List Field). length c.push_method_part.new.code + sum_by data_room (all_data 1 fs) ≤ 2 ^ 26) (sym (ap lent c.as_slice.ensures ∙ c.requires.ordered.fields))
    (data_long c.args.a.now c.args.classes.now c.args.refs.now c.args.rows.now c.requires.ready c.args.code.now c.push_method_part.new.code c.requires.long c.in_ok-push_method_part.ensures.lengthens)

pub push_property_part-requires-clause-ready : goal.push_property_part-requires-clause-ready
push_property_part-requires-clause-ready c =
    let fields : FillsFields (all_fields c.args.a.now c.args.classes.now) c.push_type_part.new.refs c.push_field_part.new.code c.push_type_part.new.rows c.push_field_part.new.rows =
    subst (λ (fs : List Field). FillsFields fs c.push_type_part.new.refs c.push_field_part.new.code c.push_type_part.new.rows c.push_field_part.new.rows) (ap lent c.as_slice.ensures ∙ c.requires.ordered.fields)
    c.in_ok-push_field_part.ensures.fills in
    properties_ready c.args.a.now c.args.classes.now c.args.refs.now c.args.rows.now c.requires.ready c.push_manifest.new.refs c.push_manifest.new.rows c.in_ok-push_manifest.ensures
    c.push_method_part.new.code c.push_method_part.new.refs c.push_method_part.new.rows c.in_ok-push_method_part.ensures.fills
    c.push_type_part.new.refs c.push_type_part.new.rows c.in_ok-push_type_part.ensures
    c.push_field_part.new.code c.push_field_part.new.rows fields

pub push_property_part-requires-clause-ordered : goal.push_property_part-requires-clause-ordered
push_property_part-requires-clause-ordered c =
    c.requires.ordered

pub push_owned_part-requires-clause-ready : goal.push_owned_part-requires-clause-ready
push_owned_part-requires-clause-ready c =
    let fields : FillsFields (all_fields c.args.a.now c.args.classes.now) c.push_type_part.new.refs c.push_field_part.new.code c.push_type_part.new.rows c.push_field_part.new.rows =
    subst (λ (fs : List Field). FillsFields fs c.push_type_part.new.refs c.push_field_part.new.code c.push_type_part.new.rows c.push_field_part.new.rows) (ap lent c.as_slice.ensures ∙ c.requires.ordered.fields)
    c.in_ok-push_field_part.ensures.fills in
    owned_ready c.args.a.now c.args.classes.now c.args.refs.now c.args.rows.now c.requires.ready c.push_manifest.new.refs c.push_manifest.new.rows c.in_ok-push_manifest.ensures
    c.push_method_part.new.code c.push_method_part.new.refs c.push_method_part.new.rows c.in_ok-push_method_part.ensures.fills
    c.push_type_part.new.refs c.push_type_part.new.rows c.in_ok-push_type_part.ensures
    c.push_field_part.new.code c.push_field_part.new.rows fields c.push_property_part.new.refs c.push_property_part.new.rows c.in_ok-push_property_part.ensures

pub push_owned_part-requires-clause-ordered : goal.push_owned_part-requires-clause-ordered
push_owned_part-requires-clause-ordered c =
    c.requires.ordered

pub push_owned_part-requires-clause-none : goal.push_owned_part-requires-clause-none
push_owned_part-requires-clause-none c =
    c.requires.none

pub returns-clause-full : goal.returns-clause-full
returns-clause-full c =
    let fields : FillsFields (all_fields c.args.a.now c.args.classes.now) c.push_type_part.new.refs c.push_field_part.new.code c.push_type_part.new.rows c.push_field_part.new.rows =
    subst (λ (fs : List Field). FillsFields fs c.push_type_part.new.refs c.push_field_part.new.code c.push_type_part.new.rows c.push_field_part.new.rows) (ap lent c.as_slice.ensures ∙ c.requires.ordered.fields)
    c.in_ok-push_field_part.ensures.fills in
    let longer : Lengthens (sum_by data_room (all_data 1 (all_fields c.args.a.now c.args.classes.now))) c.push_method_part.new.code c.push_field_part.new.code =
    subst (λ (fs : List Field). Lengthens (sum_by data_room (all_data 1 fs)) c.push_method_part.new.code c.push_field_part.new.code) (ap lent c.as_slice.ensures ∙ c.requires.ordered.fields)
    c.in_ok-push_field_part.ensures.lengthens in
    all_full c.args.a.now c.args.classes.now c.args.refs.now c.push_manifest.new.refs c.push_method_part.new.refs c.push_type_part.new.refs c.push_property_part.new.refs c.push_owned_part.new.refs
    c.args.rows.now c.push_manifest.new.rows c.push_method_part.new.rows c.push_type_part.new.rows c.push_field_part.new.rows c.push_property_part.new.rows c.push_owned_part.new.rows
    c.args.code.now c.push_method_part.new.code c.push_field_part.new.code c.requires.ready c.in_ok-push_manifest.ensures c.in_ok-push_method_part.ensures.fills c.in_ok-push_type_part.ensures fields
    c.in_ok-push_property_part.ensures c.in_ok-push_owned_part.ensures longer

pub returns-clause-grows : goal.returns-clause-grows
returns-clause-grows c =
    let fields : FillsFields (all_fields c.args.a.now c.args.classes.now) c.push_type_part.new.refs c.push_field_part.new.code c.push_type_part.new.rows c.push_field_part.new.rows =
    subst (λ (fs : List Field). FillsFields fs c.push_type_part.new.refs c.push_field_part.new.code c.push_type_part.new.rows c.push_field_part.new.rows) (ap lent c.as_slice.ensures ∙ c.requires.ordered.fields)
    c.in_ok-push_field_part.ensures.fills in
    let longer : Lengthens (sum_by data_room (all_data 1 (all_fields c.args.a.now c.args.classes.now))) c.push_method_part.new.code c.push_field_part.new.code =
    subst (λ (fs : List Field). Lengthens (sum_by data_room (all_data 1 fs)) c.push_method_part.new.code c.push_field_part.new.code) (ap lent c.as_slice.ensures ∙ c.requires.ordered.fields)
    c.in_ok-push_field_part.ensures.lengthens in
    all_grown c.args.a.now c.args.classes.now c.args.refs.now c.push_manifest.new.refs c.push_method_part.new.refs c.push_type_part.new.refs c.push_property_part.new.refs c.push_owned_part.new.refs
    c.args.rows.now c.push_manifest.new.rows c.push_method_part.new.rows c.push_type_part.new.rows c.push_field_part.new.rows c.push_property_part.new.rows c.push_owned_part.new.rows
    c.args.code.now c.push_method_part.new.code c.push_field_part.new.code c.requires.ready c.in_ok-push_manifest.ensures c.in_ok-push_method_part.ensures.fills c.in_ok-push_type_part.ensures fields
    c.in_ok-push_property_part.ensures c.in_ok-push_owned_part.ensures longer

pub returns-clause-room : goal.returns-clause-room
returns-clause-room c =
    let fields : FillsFields (all_fields c.args.a.now c.args.classes.now) c.push_type_part.new.refs c.push_field_part.new.code c.push_type_part.new.rows c.push_field_part.new.rows =
    subst (λ (fs : List Field). FillsFields fs c.push_type_part.new.refs c.push_field_part.new.code c.push_type_part.new.rows c.push_field_part.new.rows) (ap lent c.as_slice.ensures ∙ c.requires.ordered.fields)
    c.in_ok-push_field_part.ensures.fills in
    let longer : Lengthens (sum_by data_room (all_data 1 (all_fields c.args.a.now c.args.classes.now))) c.push_method_part.new.code c.push_field_part.new.code =
    subst (λ (fs : List Field). Lengthens (sum_by data_room (all_data 1 fs)) c.push_method_part.new.code c.push_field_part.new.code) (ap lent c.as_slice.ensures ∙ c.requires.ordered.fields)
    c.in_ok-push_field_part.ensures.lengthens in
    all_room c.args.a.now c.args.classes.now c.args.refs.now c.push_manifest.new.refs c.push_method_part.new.refs c.push_type_part.new.refs c.push_property_part.new.refs c.push_owned_part.new.refs
    c.args.rows.now c.push_manifest.new.rows c.push_method_part.new.rows c.push_type_part.new.rows c.push_field_part.new.rows c.push_property_part.new.rows c.push_owned_part.new.rows
    c.args.code.now c.push_method_part.new.code c.push_field_part.new.code c.requires.ready c.in_ok-push_manifest.ensures c.in_ok-push_method_part.ensures.fills c.in_ok-push_type_part.ensures fields
    c.in_ok-push_property_part.ensures c.in_ok-push_owned_part.ensures longer

pub returns-clause-lengthens : goal.returns-clause-lengthens
returns-clause-lengthens c =
    let fields : FillsFields (all_fields c.args.a.now c.args.classes.now) c.push_type_part.new.refs c.push_field_part.new.code c.push_type_part.new.rows c.push_field_part.new.rows =
    subst (λ (fs : List Field). FillsFields fs c.push_type_part.new.refs c.push_field_part.new.code c.push_type_part.new.rows c.push_field_part.new.rows) (ap lent c.as_slice.ensures ∙ c.requires.ordered.fields)
    c.in_ok-push_field_part.ensures.fills in
    let longer : Lengthens (sum_by data_room (all_data 1 (all_fields c.args.a.now c.args.classes.now))) c.push_method_part.new.code c.push_field_part.new.code =
    subst (λ (fs : List Field). Lengthens (sum_by data_room (all_data 1 fs)) c.push_method_part.new.code c.push_field_part.new.code) (ap lent c.as_slice.ensures ∙ c.requires.ordered.fields)
    c.in_ok-push_field_part.ensures.lengthens in
    all_code c.args.a.now c.args.classes.now c.args.refs.now c.push_manifest.new.refs c.push_method_part.new.refs c.push_type_part.new.refs c.push_property_part.new.refs c.push_owned_part.new.refs
    c.args.rows.now c.push_manifest.new.rows c.push_method_part.new.rows c.push_type_part.new.rows c.push_field_part.new.rows c.push_property_part.new.rows c.push_owned_part.new.rows
    c.args.code.now c.push_method_part.new.code c.push_field_part.new.code c.requires.ready c.in_ok-push_manifest.ensures c.in_ok-push_method_part.ensures.fills c.in_ok-push_type_part.ensures fields
    c.in_ok-push_property_part.ensures c.in_ok-push_owned_part.ensures longer
    c.in_ok-push_method_part.ensures.lengthens
