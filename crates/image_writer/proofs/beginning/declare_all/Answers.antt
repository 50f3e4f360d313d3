use Rattle.std.proofs.Common.{◌≡◌, ap, ◌∙◌, subst, ℕ, ◌+◌, ◌-◌, ◌<◌, ◌≤◌, ◌^◌, List, length, arith}
use Rattle.std.specs.List.{AllByRecursion}
use Rattle.assembly_tree.specs.declared.members.Method.{Method}
use Rattle.image_members.specs.Places.{lent}
use Rattle.image_writer.proofs.BeginLemmas.{members_declarable, all_declared, members_room}
use Rattle.image_writer.proofs.ContentsLemmas.{can_declare, begun_room}
use Rattle.image_writer.proofs.beginning.declare_all.Goals as goal
use Rattle.laws_writable_trees.specs.Ranges.{IsMethodInRange}

pub declare_members-requires-clause-known : goal.declare_members-requires-clause-known
declare_members-requires-clause-known c = c.requires.begun.types.known

pub declare_members-requires-clause-declarable : goal.declare_members-requires-clause-declarable
declare_members-requires-clause-declarable c =
    let b = c.requires.begun in
    members_declarable c.args.a.now c.args.classes.now c.args.refs.now.heaps.user c.args.refs.now b.types
    (can_declare c.args.a.now c.args.classes.now c.args.refs.now.heaps.user c.formed_can_fill.ensures c.requires.formed c.requires.weight c.requires.classes b.loaded b.short
    (subst (λ (ms : List Method). AllByRecursion IsMethodInRange ms) (ap lent c.as_slice.ensures ∙ c.requires.ordered.methods) c.methods_in_range.ensures))

pub declare_members-requires-clause-count : goal.declare_members-requires-clause-count
declare_members-requires-clause-count c =
    let few = (c.rows_are_few.ensures c.args.a.now c.args.classes.now c.requires.weight c.requires.classes).classes_few in omega arith

pub declare_members-requires-clause-few_fields : goal.declare_members-requires-clause-few_fields
declare_members-requires-clause-few_fields c =
    let few = (c.rows_are_few.ensures c.args.a.now c.args.classes.now c.requires.weight c.requires.classes).fields_counted in omega arith

pub declare_members-requires-clause-few_methods : goal.declare_members-requires-clause-few_methods
declare_members-requires-clause-few_methods c =
    let few = (c.rows_are_few.ensures c.args.a.now c.args.classes.now c.requires.weight c.requires.classes).methods_counted in omega arith

pub declare_members-requires-clause-room : goal.declare_members-requires-clause-room
declare_members-requires-clause-room c =
    let b = c.requires.begun in
    members_room c.args.a.now c.args.classes.now c.args.refs.now.heaps.user c.args.refs.now b.types
    (can_declare c.args.a.now c.args.classes.now c.args.refs.now.heaps.user c.formed_can_fill.ensures c.requires.formed c.requires.weight c.requires.classes b.loaded b.short
    (subst (λ (ms : List Method). AllByRecursion IsMethodInRange ms) (ap lent c.as_slice.ensures ∙ c.requires.ordered.methods) c.methods_in_range.ensures))
    (begun_room c.args.a.now c.args.classes.now (c.weight_is_enough.ensures c.args.a.now c.args.classes.now c.requires.classes) c.requires.weight c.args.refs.now.heaps.user b.loaded)

pub returns : goal.returns
returns c =
    let b = c.requires.begun in
    all_declared c.args.a.now c.args.classes.now c.args.refs.now.heaps.user c.args.refs.now b.types
    (can_declare c.args.a.now c.args.classes.now c.args.refs.now.heaps.user c.formed_can_fill.ensures c.requires.formed c.requires.weight c.requires.classes b.loaded b.short
    (subst (λ (ms : List Method). AllByRecursion IsMethodInRange ms) (ap lent c.as_slice.ensures ∙ c.requires.ordered.methods) c.methods_in_range.ensures))
    c.declare_members.new.refs b.loaded c.in_ok-declare_members.ensures
