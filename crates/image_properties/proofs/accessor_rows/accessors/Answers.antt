use Rattle.std.specs.Prelude.{Contains}
use Rattle.image_model.specs.Columns.{semantics_association, semantics_method}
use Rattle.image_model.specs.Rows.{methods_of}
use Rattle.row_parts.proofs.Orders.{semantics_ascend}
use Rattle.row_parts.proofs.OwnedRows.{all_owned}
use Rattle.image_properties.proofs.accessor_rows.accessors.Goals as goal

pub read_owned-requires-clause-order : goal.read_owned-requires-clause-order
read_owned-requires-clause-order c = semantics_ascend c.args.image.now c.requires.meets

pub read_owned-requires-clause-there : goal.read_owned-requires-clause-there
read_owned-requires-clause-there c = λ row there e.
    (there, c.requires.bytes, c.first_method-first.ensures, all_owned (λ k. Contains (methods_of c.args.image.now c.args.type_row) (semantics_method c.args.image.now k)) c.args.image.now 0x18 semantics_association c.args.index row c.requires.own there e)
