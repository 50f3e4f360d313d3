use Rattle.std.proofs.Common.{◌≡◌, ℕ, ◌<◌, ◌≤◌, ◌^◌, length, subst, sym, arith}
use Rattle.image_tokens.specs.declared.references.References.{References}
use Rattle.image_writer.specs.Beginning.{HasBegun}
use Rattle.image_writer.proofs.BeginLemmas.{has_begun}
use Rattle.image_writer.proofs.ContentsLemmas.{types_room}
use Rattle.image_writer.proofs.finishing.write_classes.Goals as goal

pub begin_types-requires-clause-types : goal.begin_types-requires-clause-types
begin_types-requires-clause-types c = c.types_are_declarable.ensures c.args.a.now c.args.classes.now c.requires.formed c.requires.classes

pub begin_types-requires-clause-few : goal.begin_types-requires-clause-few
begin_types-requires-clause-few c = (c.rows_are_few.ensures c.args.a.now c.args.classes.now c.requires.weight c.requires.classes).classes_few

pub begin_types-requires-clause-room : goal.begin_types-requires-clause-room
begin_types-requires-clause-room c = types_room c.args.a.now c.args.classes.now (c.weight_is_enough.ensures c.args.a.now c.args.classes.now c.requires.classes) c.requires.weight

pub finish-requires-clause-begun : goal.finish-requires-clause-begun
finish-requires-clause-begun c =
    subst (λ (r : References). HasBegun c.args.a.now c.args.classes.now r) (sym c.deref_mut.ensures.value)
    (has_begun c.args.a.now c.args.classes.now c.len.result c.args.user c.in_ok-refs.refs.value c.in_ok-refs.ensures c.len.ensures c.requires.loaded c.requires.room)

pub overflow_cast-len : goal.overflow_cast-len
overflow_cast-len c = let few = (c.rows_are_few.ensures c.args.a.now c.args.classes.now c.requires.weight c.requires.classes).externs in omega arith
