use Rattle.std.proofs.Common.{◌≡◌, ◌∙◌, ap, sym, ◌+◌, ◌≤◌, ◌∷◌, drop, drop_of_length-le, arith}
use Rattle.std.proofs.lemmas.List.{drop_more}
use Rattle.assembly_tree.specs.declared.members.Field.{Field}
use Rattle.image_members.specs.DeclaredMembers.{IsFieldOf, field_bytes, IsFieldDeclarable}
use Rattle.image_members.proofs.DeclaredLemmas.{owned_begin, owned_can, owned_few, owned_room, owned_on, owned_end, field_kept, field_still}
use Rattle.image_members.proofs.declared_members.fields_of.Goals as goal

pub loop-field-init : goal.loop-field-init
loop-field-init c =
    owned_begin IsFieldOf field_bytes field_kept IsFieldDeclarable field_still c.args.row c.args.refs.now c.args.rows.now c.args.fields.now c.requires.known c.requires.each c.requires.few c.requires.room

pub declare_field-requires-clause-known : goal.declare_field-requires-clause-known
declare_field-requires-clause-known c = c.loop-field.invariant.known

pub declare_field-requires-clause-declarable : goal.declare_field-requires-clause-declarable
declare_field-requires-clause-declarable c =
    let xs = c.args.fields.now in
    let i = c.loop-field.field-index in
    let x = c.field-item.result in
    let here : drop i xs ≡ x ∷ drop (i + 1) xs = drop_more xs i x (omega arith) ∙ ap (λ (y : Field). y ∷ drop (i + 1) xs) (sym c.field-item.is) in
    owned_can IsFieldOf field_bytes field_kept IsFieldDeclarable field_still c.args.row c.args.refs.now c.loop-field.refs c.args.rows.now c.loop-field.rows xs (drop i xs) (drop (i + 1) xs) x here c.loop-field.invariant

pub declare_field-requires-clause-few : goal.declare_field-requires-clause-few
declare_field-requires-clause-few c =
    let xs = c.args.fields.now in
    let i = c.loop-field.field-index in
    let x = c.field-item.result in
    let here : drop i xs ≡ x ∷ drop (i + 1) xs = drop_more xs i x (omega arith) ∙ ap (λ (y : Field). y ∷ drop (i + 1) xs) (sym c.field-item.is) in
    owned_few IsFieldOf field_bytes field_kept IsFieldDeclarable field_still c.args.row c.args.refs.now c.loop-field.refs c.args.rows.now c.loop-field.rows xs (drop i xs) (drop (i + 1) xs) x here c.loop-field.invariant

pub declare_field-requires-clause-room : goal.declare_field-requires-clause-room
declare_field-requires-clause-room c =
    let xs = c.args.fields.now in
    let i = c.loop-field.field-index in
    let x = c.field-item.result in
    let here : drop i xs ≡ x ∷ drop (i + 1) xs = drop_more xs i x (omega arith) ∙ ap (λ (y : Field). y ∷ drop (i + 1) xs) (sym c.field-item.is) in
    owned_room IsFieldOf field_bytes field_kept IsFieldDeclarable field_still c.args.row c.args.refs.now c.loop-field.refs c.args.rows.now c.loop-field.rows xs (drop i xs) (drop (i + 1) xs) x here c.loop-field.invariant

pub loop-field-preserved : goal.loop-field-preserved
loop-field-preserved c =
    let xs = c.args.fields.now in
    let i = c.loop-field.field-index in
    let x = c.field-item.result in
    let here : drop i xs ≡ x ∷ drop (i + 1) xs = drop_more xs i x (omega arith) ∙ ap (λ (y : Field). y ∷ drop (i + 1) xs) (sym c.field-item.is) in
    owned_on IsFieldOf field_bytes field_kept IsFieldDeclarable field_still c.args.row c.args.refs.now c.loop-field.refs c.declare_field.new.refs c.args.rows.now c.loop-field.rows c.declare_field.new.rows xs (drop i xs) (drop (i + 1) xs) x
    here c.loop-field.invariant c.in_ok-declare_field.ensures

pub returns : goal.returns
returns c =
    let xs = c.args.fields.now in
    let i = c.loop-field.field-index in
    owned_end IsFieldOf field_bytes field_kept IsFieldDeclarable field_still c.args.row c.args.refs.now c.loop-field.refs c.args.rows.now c.loop-field.rows xs (drop i xs)
    (drop_of_length-le xs {i = i} (omega arith)) c.loop-field.invariant
