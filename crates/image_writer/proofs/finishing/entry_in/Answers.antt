use Rattle.std.proofs.Common.{◌≡◌, ap, ◌∙◌, ℕ, ◌<◌, ◌≤◌, ◌^◌, length, arith}
use Rattle.assembly_tree.specs.declared.members.Method.{Method}
use Rattle.image_rows.specs.Filled.{entry_from}
use Rattle.image_members.specs.Places.{lent}
use Rattle.image_rows.proofs.FieldLemmas.{lent_long}
use Rattle.image_writer.proofs.finishing.entry_in.Goals as goal

pub entry_of-requires : goal.entry_of-requires
entry_of-requires c =
    let few = (c.rows_are_few.ensures c.args._a.now c.args._classes.now c.requires.weight c.requires.classes).methods in
    let same = ap (length {A = Method}) (ap lent c.as_slice.ensures ∙ c.requires.ordered.methods) in
    let long = lent_long c.as_slice.result.now in
    omega arith

pub returns : goal.returns
returns c = c.entry_of.ensures ∙ ap (entry_from 1) (ap lent c.as_slice.ensures ∙ c.requires.ordered.methods)
