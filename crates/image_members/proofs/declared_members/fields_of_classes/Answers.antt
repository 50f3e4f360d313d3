use Rattle.std.proofs.Common.{◌≡◌, ◌∙◌, ap, sym, subst, ℕ, ◌+◌, ◌<◌, ◌≤◌, List, ◌∷◌, map, drop, drop_of_length-le, length, arith}
use Rattle.std.specs.Prelude.{sum_by}
use Rattle.std.specs.List.{AllByRecursion}
use Rattle.std.proofs.lemmas.List.{drop_more}
use Rattle.assembly_tree.specs.declared.members.Field.{Field}
use Rattle.image_members.specs.DeclaredMembers.{class_fields, IsFieldOf, field_bytes, IsFieldDeclarable, DeclaresFields}
use Rattle.image_members.specs.declared.classes.Class.{Class}
use Rattle.image_members.proofs.DeclaredLemmas.{classes_begin, classes_can, classes_few, classes_room, classes_next, classes_on, classes_end, field_kept, field_still}
use Rattle.image_members.proofs.declared_members.fields_of_classes.Goals as goal

pub loop-class-init : goal.loop-class-init
loop-class-init c =
    classes_begin IsFieldOf field_bytes field_kept IsFieldDeclarable field_still class_fields c.args.refs.now c.args.rows.now c.args.classes.now c.requires.known c.requires.each c.requires.few c.requires.room c.requires.count

pub fields_of-requires-clause-known : goal.fields_of-requires-clause-known
fields_of-requires-clause-known c = c.loop-class.invariant.known

pub fields_of-requires-clause-each : goal.fields_of-requires-clause-each
fields_of-requires-clause-each c =
    let xs = c.args.classes.now in
    let i = c.loop-class.class-index in
    let x = c.class-item.result in
    let here : drop i xs ≡ x ∷ drop (i + 1) xs = drop_more xs i x (omega arith) ∙ ap (λ (y : Class). y ∷ drop (i + 1) xs) (sym c.class-item.is) in
    subst (λ (ys : List Field). AllByRecursion (IsFieldDeclarable c.loop-class.refs) ys) (sym c.as_slice.ensures) (classes_can IsFieldOf field_bytes field_kept IsFieldDeclarable field_still class_fields c.loop-class.row c.args.refs.now c.loop-class.refs c.args.rows.now c.loop-class.rows xs (drop i xs) (drop (i + 1) xs) x here c.loop-class.invariant)

pub fields_of-requires-clause-few : goal.fields_of-requires-clause-few
fields_of-requires-clause-few c =
    let xs = c.args.classes.now in
    let i = c.loop-class.class-index in
    let x = c.class-item.result in
    let here : drop i xs ≡ x ∷ drop (i + 1) xs = drop_more xs i x (omega arith) ∙ ap (λ (y : Class). y ∷ drop (i + 1) xs) (sym c.class-item.is) in
    let few = classes_few IsFieldOf field_bytes field_kept IsFieldDeclarable field_still class_fields c.loop-class.row c.args.refs.now c.loop-class.refs c.args.rows.now c.loop-class.rows xs (drop i xs) (drop (i + 1) xs) x here c.loop-class.invariant in
    let long = ap (length {A = Field}) c.as_slice.ensures in
    omega arith

pub fields_of-requires-clause-room : goal.fields_of-requires-clause-room
fields_of-requires-clause-room c =
    let xs = c.args.classes.now in
    let i = c.loop-class.class-index in
    let x = c.class-item.result in
    let here : drop i xs ≡ x ∷ drop (i + 1) xs = drop_more xs i x (omega arith) ∙ ap (λ (y : Class). y ∷ drop (i + 1) xs) (sym c.class-item.is) in
    let room = classes_room IsFieldOf field_bytes field_kept IsFieldDeclarable field_still class_fields c.loop-class.row c.args.refs.now c.loop-class.refs c.args.rows.now c.loop-class.rows xs (drop i xs) (drop (i + 1) xs) x here c.loop-class.invariant in
    let heavy = ap (sum_by field_bytes) c.as_slice.ensures in
    omega arith

pub overflow_add-row : goal.overflow_add-row
overflow_add-row c =
    let next = classes_next IsFieldOf field_bytes field_kept IsFieldDeclarable field_still class_fields c.loop-class.row c.args.refs.now c.loop-class.refs c.args.rows.now c.loop-class.rows c.args.classes.now (drop c.loop-class.class-index c.args.classes.now) c.loop-class.invariant in
    omega arith

pub loop-class-preserved : goal.loop-class-preserved
loop-class-preserved c =
    let xs = c.args.classes.now in
    let i = c.loop-class.class-index in
    let x = c.class-item.result in
    let here : drop i xs ≡ x ∷ drop (i + 1) xs = drop_more xs i x (omega arith) ∙ ap (λ (y : Class). y ∷ drop (i + 1) xs) (sym c.class-item.is) in
    let refs = c.loop-class.refs in
    let done = c.fields_of.new.refs in
    let from = c.loop-class.rows in
    let to = c.fields_of.new.rows in
    let its : DeclaresFields (map (λ (y : Field). (c.loop-class.row, y)) (class_fields x)) refs done from to =
    subst (λ (ys : List Field). DeclaresFields (map (λ (y : Field). (c.loop-class.row, y)) ys) refs done from to) c.as_slice.ensures c.in_ok-fields_of.ensures in
    classes_on IsFieldOf field_bytes field_kept IsFieldDeclarable field_still class_fields c.loop-class.row c.args.refs.now refs done c.args.rows.now from to xs (drop i xs) (drop (i + 1) xs) x here c.loop-class.invariant its

pub returns : goal.returns
returns c =
    let xs = c.args.classes.now in
    let i = c.loop-class.class-index in
    classes_end IsFieldOf field_bytes field_kept IsFieldDeclarable field_still class_fields c.loop-class.row c.args.refs.now c.loop-class.refs c.args.rows.now c.loop-class.rows xs (drop i xs)
    (drop_of_length-le xs {i = i} (omega arith)) c.loop-class.invariant
