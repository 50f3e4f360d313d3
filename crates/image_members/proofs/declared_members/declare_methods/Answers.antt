use Rattle.std.proofs.Common.{◌≡◌, ℕ, ◌+◌, ◌<◌, ◌≤◌, ◌∷◌, List, map, length, arith}
use Rattle.std.proofs.lemmas.Result.{on_ok_weaker}
use Rattle.assembly_tree.specs.declared.members.Method.{Method}
use Rattle.image_members.specs.DeclaredMembers.{owned, class_methods, IsMethodOf, method_bytes, IsMethodDeclarable}
use Rattle.image_members.proofs.DeclaredLemmas.{members_both, owned_count, sum_owned, each_still, method_kept, method_still}
use Rattle.image_members.proofs.declared_members.declare_methods.Goals as goal

pub methods_of_classes-requires-clause-known : goal.methods_of_classes-requires-clause-known
methods_of_classes-requires-clause-known c = c.in_ok-methods_of.ensures.known

pub methods_of_classes-requires-clause-each : goal.methods_of_classes-requires-clause-each
methods_of_classes-requires-clause-each c = each_still IsMethodDeclarable method_still class_methods c.args.refs.now c.methods_of.new.refs c.in_ok-methods_of.ensures.grows c.args.classes.now c.requires.each

pub methods_of_classes-requires-clause-few : goal.methods_of_classes-requires-clause-few
methods_of_classes-requires-clause-few c =
    let count = owned_count IsMethodOf method_bytes method_kept 1 c.args.globals.now c.args.refs.now c.methods_of.new.refs c.args.rows.now c.methods_of.new.rows c.in_ok-methods_of.ensures in
    let few = c.requires.few in
    omega arith

pub methods_of_classes-requires-clause-room : goal.methods_of_classes-requires-clause-room
methods_of_classes-requires-clause-room c =
    let its = sum_owned method_bytes 1 c.args.globals.now in
    let first = c.in_ok-methods_of.ensures.room in
    let room = c.requires.room in
    omega arith

pub returns : goal.returns
returns c =
    on_ok_weaker c.methods_of_classes.result (λ h. members_both IsMethodOf method_bytes method_kept (map (λ (x : Method). (1, x)) c.args.globals.now) (owned 2 (map class_methods c.args.classes.now))
    c.args.refs.now c.methods_of.new.refs c.methods_of_classes.new.refs c.args.rows.now c.methods_of.new.rows c.methods_of_classes.new.rows c.in_ok-methods_of.ensures h) c.methods_of_classes.ensures
