use Rattle.std.proofs.Common.{◌≡◌, ℕ, ◌+◌, ◌<◌, ◌≤◌, ◌∷◌, List, map, length, arith}
use Rattle.std.proofs.lemmas.Result.{on_ok_weaker}
use Rattle.assembly_tree.specs.declared.members.Field.{Field}
use Rattle.image_members.specs.DeclaredMembers.{owned, class_fields, IsFieldOf, field_bytes, IsFieldDeclarable}
use Rattle.image_members.proofs.DeclaredLemmas.{members_both, owned_count, sum_owned, each_still, field_kept, field_still}
use Rattle.image_members.proofs.declared_members.declare_fields.Goals as goal

pub fields_of_classes-requires-clause-known : goal.fields_of_classes-requires-clause-known
fields_of_classes-requires-clause-known c = c.in_ok-fields_of.ensures.known

pub fields_of_classes-requires-clause-each : goal.fields_of_classes-requires-clause-each
fields_of_classes-requires-clause-each c = each_still IsFieldDeclarable field_still class_fields c.args.refs.now c.fields_of.new.refs c.in_ok-fields_of.ensures.grows c.args.classes.now c.requires.each

pub fields_of_classes-requires-clause-few : goal.fields_of_classes-requires-clause-few
fields_of_classes-requires-clause-few c =
    let count = owned_count IsFieldOf field_bytes field_kept 1 c.args.globals.now c.args.refs.now c.fields_of.new.refs c.args.rows.now c.fields_of.new.rows c.in_ok-fields_of.ensures in
    let few = c.requires.few in
    omega arith

pub fields_of_classes-requires-clause-room : goal.fields_of_classes-requires-clause-room
fields_of_classes-requires-clause-room c =
    let its = sum_owned field_bytes 1 c.args.globals.now in
    let first = c.in_ok-fields_of.ensures.room in
    let room = c.requires.room in
    omega arith

pub returns : goal.returns
returns c =
    on_ok_weaker c.fields_of_classes.result (λ h. members_both IsFieldOf field_bytes field_kept (map (λ (x : Field). (1, x)) c.args.globals.now) (owned 2 (map class_fields c.args.classes.now))
    c.args.refs.now c.fields_of.new.refs c.fields_of_classes.new.refs c.args.rows.now c.fields_of.new.rows c.fields_of_classes.new.rows c.in_ok-fields_of.ensures h) c.fields_of_classes.ensures
