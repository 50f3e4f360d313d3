use Rattle.std.specs.Option.{option_copied}
use Rattle.print_methods.proofs.ParamRows.{parameter_done}
use Rattle.print_methods.proofs.params.write_parameter.Goals as goal

pub returns : goal.returns
returns c =
    parameter_done c.args.externs.now c.args.paper.now _ _ _ (option_copied c.args.row) c.args.of.now c.in_ok-write_row_flags.ensures
    c.in_ok-write_type.ensures c.in_ok-write_row_name.ensures
