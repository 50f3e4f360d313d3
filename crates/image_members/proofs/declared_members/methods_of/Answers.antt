use Rattle.std.proofs.Common.{◌≡◌, ◌∙◌, ap, sym, ◌+◌, ◌≤◌, ◌∷◌, drop, drop_of_length-le, arith}
use Rattle.std.proofs.lemmas.List.{drop_more}
use Rattle.assembly_tree.specs.declared.members.Method.{Method}
use Rattle.image_members.specs.DeclaredMembers.{IsMethodOf, method_bytes, IsMethodDeclarable}
use Rattle.image_members.proofs.DeclaredLemmas.{owned_begin, owned_can, owned_few, owned_room, owned_on, owned_end, method_kept, method_still}
use Rattle.image_members.proofs.declared_members.methods_of.Goals as goal

pub loop-method-init : goal.loop-method-init
loop-method-init c =
    owned_begin IsMethodOf method_bytes method_kept IsMethodDeclarable method_still c.args.row c.args.refs.now c.args.rows.now c.args.methods.now c.requires.known c.requires.each c.requires.few c.requires.room

pub declare_method-requires-clause-known : goal.declare_method-requires-clause-known
declare_method-requires-clause-known c = c.loop-method.invariant.known

pub declare_method-requires-clause-declarable : goal.declare_method-requires-clause-declarable
declare_method-requires-clause-declarable c =
    let xs = c.args.methods.now in
    let i = c.loop-method.method-index in
    let x = c.method-item.result in
    let here : drop i xs ≡ x ∷ drop (i + 1) xs = drop_more xs i x (omega arith) ∙ ap (λ (y : Method). y ∷ drop (i + 1) xs) (sym c.method-item.is) in
    owned_can IsMethodOf method_bytes method_kept IsMethodDeclarable method_still c.args.row c.args.refs.now c.loop-method.refs c.args.rows.now c.loop-method.rows xs (drop i xs) (drop (i + 1) xs) x here c.loop-method.invariant

pub declare_method-requires-clause-few : goal.declare_method-requires-clause-few
declare_method-requires-clause-few c =
    let xs = c.args.methods.now in
    let i = c.loop-method.method-index in
    let x = c.method-item.result in
    let here : drop i xs ≡ x ∷ drop (i + 1) xs = drop_more xs i x (omega arith) ∙ ap (λ (y : Method). y ∷ drop (i + 1) xs) (sym c.method-item.is) in
    owned_few IsMethodOf method_bytes method_kept IsMethodDeclarable method_still c.args.row c.args.refs.now c.loop-method.refs c.args.rows.now c.loop-method.rows xs (drop i xs) (drop (i + 1) xs) x here c.loop-method.invariant

pub declare_method-requires-clause-room : goal.declare_method-requires-clause-room
declare_method-requires-clause-room c =
    let xs = c.args.methods.now in
    let i = c.loop-method.method-index in
    let x = c.method-item.result in
    let here : drop i xs ≡ x ∷ drop (i + 1) xs = drop_more xs i x (omega arith) ∙ ap (λ (y : Method). y ∷ drop (i + 1) xs) (sym c.method-item.is) in
    owned_room IsMethodOf method_bytes method_kept IsMethodDeclarable method_still c.args.row c.args.refs.now c.loop-method.refs c.args.rows.now c.loop-method.rows xs (drop i xs) (drop (i + 1) xs) x here c.loop-method.invariant

pub loop-method-preserved : goal.loop-method-preserved
loop-method-preserved c =
    let xs = c.args.methods.now in
    let i = c.loop-method.method-index in
    let x = c.method-item.result in
    let here : drop i xs ≡ x ∷ drop (i + 1) xs = drop_more xs i x (omega arith) ∙ ap (λ (y : Method). y ∷ drop (i + 1) xs) (sym c.method-item.is) in
    owned_on IsMethodOf method_bytes method_kept IsMethodDeclarable method_still c.args.row c.args.refs.now c.loop-method.refs c.declare_method.new.refs c.args.rows.now c.loop-method.rows c.declare_method.new.rows xs (drop i xs) (drop (i + 1) xs) x
    here c.loop-method.invariant c.in_ok-declare_method.ensures

pub returns : goal.returns
returns c =
    let xs = c.args.methods.now in
    let i = c.loop-method.method-index in
    owned_end IsMethodOf method_bytes method_kept IsMethodDeclarable method_still c.args.row c.args.refs.now c.loop-method.refs c.args.rows.now c.loop-method.rows xs (drop i xs)
    (drop_of_length-le xs {i = i} (omega arith)) c.loop-method.invariant
