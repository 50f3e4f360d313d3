use Rattle.assembly_tree.specs.declared.members.Constant.{Constant}
use Rattle.image_model.specs.Columns.{constant_parent}
use Rattle.image_model.specs.Members.{ConstantIs}
use Rattle.row_parts.proofs.Orders.{constants_ascend}
use Rattle.row_parts.proofs.OwnedRows.{all_owned}
use Rattle.image_fields.proofs.constant_rows.constant.Goals as goal

pub read_given-requires-clause-order : goal.read_given-requires-clause-order
read_given-requires-clause-order c = constants_ascend c.args.image.now c.requires.meets

pub read_given-requires-clause-there : goal.read_given-requires-clause-there
read_given-requires-clause-there c = λ row there e.
    (there, c.requires.meets, all_owned (λ k. (x : Constant) × ConstantIs c.args.image.now k x) c.args.image.now 0x0B constant_parent c.args.index row c.requires.each there e)
