use Rattle.std.proofs.Common.{◌≡◌, ◌∙◌, ap, sym, subst, ℕ, ◌+◌, ◌≤◌, List, [], ◌∷◌, map, arith}
use Rattle.std.specs.Prelude.{sum_by}
use Rattle.std.specs.List.{AllByRecursion}
use Rattle.assembly_tree.specs.declared.members.Field.{Field}
use Rattle.assembly_tree.specs.declared.members.Method.{Method}
use Rattle.image_members.specs.DeclaredMembers.{owned, class_fields, class_methods, field_bytes, method_bytes, DeclaresFields, DeclaresMethods, IsMethodDeclarable}
use Rattle.image_tokens.specs.References.{size}
use Rattle.image_tokens.specs.declared.row_set.Cells.{Cells}
use Rattle.image_members.proofs.DeclaredLemmas.{all_still, each_still, method_still, sum_all, has_members}
use Rattle.image_members.proofs.declared_members.declare_members.Goals as goal

pub declare_methods-requires-clause-globals : goal.declare_methods-requires-clause-globals
declare_methods-requires-clause-globals c =
    subst (λ (ms : List Method). AllByRecursion (IsMethodDeclarable c.declare_fields.new.refs) ms) (sym c.as_slice-2.ensures)
    (all_still IsMethodDeclarable method_still c.args.refs.now c.declare_fields.new.refs (rw c.make_room.ensures at c.in_ok-declare_fields.ensures.grows) c.args.a.now.methods c.requires.declarable.methods)

pub declare_methods-requires-clause-each : goal.declare_methods-requires-clause-each
declare_methods-requires-clause-each c =
    each_still IsMethodDeclarable method_still class_methods c.args.refs.now c.declare_fields.new.refs (rw c.make_room.ensures at c.in_ok-declare_fields.ensures.grows) c.args.classes.now c.requires.declarable.own_methods

pub declare_methods-requires-clause-room : goal.declare_methods-requires-clause-room
declare_methods-requires-clause-room c =
    let lent = ap (sum_by method_bytes) c.as_slice-2.ensures in
    let also = ap (sum_by field_bytes) c.as_slice.ensures in
    let all = sum_all field_bytes class_fields c.as_slice.result.now c.args.classes.now in
    let still = ap size c.make_room.ensures in
    let first = c.in_ok-declare_fields.ensures.room in
    let room = c.requires.room in
    omega arith

pub returns : goal.returns
returns c =
    let a = c.args.a.now in
    let classes = c.args.classes.now in
    let fields : DeclaresFields (owned 1 (a.fields ∷ map class_fields classes)) c.args.refs.now c.declare_fields.new.refs [] c.declare_fields.new.rows =
    subst (λ (rows : List Cells). DeclaresFields (owned 1 (a.fields ∷ map class_fields classes)) c.args.refs.now c.declare_fields.new.refs rows c.declare_fields.new.rows) c.new-fields.ensures
    (subst (λ (fs : List Field). DeclaresFields (owned 1 (fs ∷ map class_fields classes)) c.args.refs.now c.declare_fields.new.refs c.new-fields.result c.declare_fields.new.rows) c.as_slice.ensures
    (rw c.make_room.ensures at c.in_ok-declare_fields.ensures)) in
    let methods : DeclaresMethods (owned 1 (a.methods ∷ map class_methods classes)) c.declare_fields.new.refs c.declare_methods.new.refs [] c.declare_methods.new.rows =
    subst (λ (rows : List Cells). DeclaresMethods (owned 1 (a.methods ∷ map class_methods classes)) c.declare_fields.new.refs c.declare_methods.new.refs rows c.declare_methods.new.rows) c.in_ok-methods.ensures
    (subst (λ (ms : List Method). DeclaresMethods (owned 1 (ms ∷ map class_methods classes)) c.declare_fields.new.refs c.declare_methods.new.refs c.in_ok-methods.methods c.declare_methods.new.rows) c.as_slice-2.ensures
    c.in_ok-declare_methods.ensures) in
    has_members a classes c.args.refs.now c.declare_fields.new.refs c.declare_methods.new.refs c.put_rows.new.refs c.declare_fields.new.rows c.declare_methods.new.rows c.requires.declarable fields methods
    c.put_rows.ensures
