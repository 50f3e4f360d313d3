use Rattle.std.proofs.Common.{ℕ, subst, IfOk}
use Rattle.std.specs.List.{AllZip}
use Rattle.image_model.specs.Columns.{interface_class, interface_type}
use Rattle.image_model.specs.Reading.{OwnerIs}
use Rattle.image_model.specs.Rows.{rows_with}
use Rattle.image_source.specs.Names.{names_of}
use Rattle.row_parts.proofs.Orders.{interfaces_ascend}
use Rattle.image_types.proofs.interface_rows.each_interface.Goals as goal

pub read_owned-requires-clause-order : goal.read_owned-requires-clause-order
read_owned-requires-clause-order c = interfaces_ascend c.args.source.now.image.now c.requires.structure

pub read_owned-requires-clause-there : goal.read_owned-requires-clause-there
read_owned-requires-clause-there c = λ row there e. (there, c.requires)

pub returns : goal.returns
returns c =
    let image = c.args.source.now.image.now in
    subst (λ (value : ℕ). IfOk c.read_owned.result (AllZip (λ k. OwnerIs image (names_of c.args.source.now.kept.now) (interface_type image k)) (rows_with image 0x09 interface_class value))) c.from.ensures c.read_owned.ensures
