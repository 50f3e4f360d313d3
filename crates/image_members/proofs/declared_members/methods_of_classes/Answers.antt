use Rattle.std.proofs.Common.{◌≡◌, ◌∙◌, ap, sym, subst, ℕ, ◌+◌, ◌<◌, ◌≤◌, List, ◌∷◌, map, drop, drop_of_length-le, length, arith}
use Rattle.std.specs.Prelude.{sum_by}
use Rattle.std.specs.List.{AllByRecursion}
use Rattle.std.proofs.lemmas.List.{drop_more}
use Rattle.assembly_tree.specs.declared.members.Method.{Method}
use Rattle.image_members.specs.DeclaredMembers.{class_methods, IsMethodOf, method_bytes, IsMethodDeclarable, DeclaresMethods}
use Rattle.image_members.specs.declared.classes.Class.{Class}
use Rattle.image_members.proofs.DeclaredLemmas.{classes_begin, classes_can, classes_few, classes_room, classes_next, classes_on, classes_end, method_kept, method_still}
use Rattle.image_members.proofs.declared_members.methods_of_classes.Goals as goal

pub loop-class-init : goal.loop-class-init
loop-class-init c =
    classes_begin IsMethodOf method_bytes method_kept IsMethodDeclarable method_still class_methods c.args.refs.now c.args.rows.now c.args.classes.now c.requires.known c.requires.each c.requires.few c.requires.room c.requires.count

pub methods_of-requires-clause-known : goal.methods_of-requires-clause-known
methods_of-requires-clause-known c = c.loop-class.invariant.known

pub methods_of-requires-clause-each : goal.methods_of-requires-clause-each
methods_of-requires-clause-each c =
    let xs = c.args.classes.now in
    let i = c.loop-class.class-index in
    let x = c.class-item.result in
    let here : drop i xs ≡ x ∷ drop (i + 1) xs = drop_more xs i x (omega arith) ∙ ap (λ (y : Class). y ∷ drop (i + 1) xs) (sym c.class-item.is) in
    subst (λ (ys : List Method). AllByRecursion (IsMethodDeclarable c.loop-class.refs) ys) (sym c.as_slice.ensures) (classes_can IsMethodOf method_bytes method_kept IsMethodDeclarable method_still class_methods c.loop-class.row c.args.refs.now c.loop-class.refs c.args.rows.now c.loop-class.rows xs (drop i xs) (drop (i + 1) xs) x here c.loop-class.invariant)

pub methods_of-requires-clause-few : goal.methods_of-requires-clause-few
methods_of-requires-clause-few c =
    let xs = c.args.classes.now in
    let i = c.loop-class.class-index in
    let x = c.class-item.result in
    let here : drop i xs ≡ x ∷ drop (i + 1) xs = drop_more xs i x (omega arith) ∙ ap (λ (y : Class). y ∷ drop (i + 1) xs) (sym c.class-item.is) in
    let few = classes_few IsMethodOf method_bytes method_kept IsMethodDeclarable method_still class_methods c.loop-class.row c.args.refs.now c.loop-class.refs c.args.rows.now c.loop-class.rows xs (drop i xs) (drop (i + 1) xs) x here c.loop-class.invariant in
    let long = ap (length {A = Method}) c.as_slice.ensures in
    omega arith

pub methods_of-requires-clause-room : goal.methods_of-requires-clause-room
methods_of-requires-clause-room c =
    let xs = c.args.classes.now in
    let i = c.loop-class.class-index in
    let x = c.class-item.result in
    let here : drop i xs ≡ x ∷ drop (i + 1) xs = drop_more xs i x (omega arith) ∙ ap (λ (y : Class). y ∷ drop (i + 1) xs) (sym c.class-item.is) in
    let room = classes_room IsMethodOf method_bytes method_kept IsMethodDeclarable method_still class_methods c.loop-class.row c.args.refs.now c.loop-class.refs c.args.rows.now c.loop-class.rows xs (drop i xs) (drop (i + 1) xs) x here c.loop-class.invariant in
    let heavy = ap (sum_by method_bytes) c.as_slice.ensures in
    omega arith

pub overflow_add-row : goal.overflow_add-row
overflow_add-row c =
    let next = classes_next IsMethodOf method_bytes method_kept IsMethodDeclarable method_still class_methods c.loop-class.row c.args.refs.now c.loop-class.refs c.args.rows.now c.loop-class.rows c.args.classes.now (drop c.loop-class.class-index c.args.classes.now) c.loop-class.invariant in
    omega arith

pub loop-class-preserved : goal.loop-class-preserved
loop-class-preserved c =
    let xs = c.args.classes.now in
    let i = c.loop-class.class-index in
    let x = c.class-item.result in
    let here : drop i xs ≡ x ∷ drop (i + 1) xs = drop_more xs i x (omega arith) ∙ ap (λ (y : Class). y ∷ drop (i + 1) xs) (sym c.class-item.is) in
    let refs = c.loop-class.refs in
    let done = c.methods_of.new.refs in
    let from = c.loop-class.rows in
    let to = c.methods_of.new.rows in
    let its : DeclaresMethods (map (λ (y : Method). (c.loop-class.row, y)) (class_methods x)) refs done from to =
    subst (λ (ys : List Method). DeclaresMethods (map (λ (y : Method). (c.loop-class.row, y)) ys) refs done from to) c.as_slice.ensures c.in_ok-methods_of.ensures in
    classes_on IsMethodOf method_bytes method_kept IsMethodDeclarable method_still class_methods c.loop-class.row c.args.refs.now refs done c.args.rows.now from to xs (drop i xs) (drop (i + 1) xs) x here c.loop-class.invariant its

pub returns : goal.returns
returns c =
    let xs = c.args.classes.now in
    let i = c.loop-class.class-index in
    classes_end IsMethodOf method_bytes method_kept IsMethodDeclarable method_still class_methods c.loop-class.row c.args.refs.now c.loop-class.refs c.args.rows.now c.loop-class.rows xs (drop i xs)
    (drop_of_length-le xs {i = i} (omega arith)) c.loop-class.invariant
