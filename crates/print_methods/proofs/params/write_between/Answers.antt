use Rattle.std.specs.Option.{option_copied}
use Rattle.print_methods.proofs.ParamRows.{parameters_step}
use Rattle.print_methods.proofs.params.write_between.Goals as goal

pub loop-place-preserved : goal.loop-place-preserved
loop-place-preserved c =
    parameters_step c.args.externs.now c.args.rows.now c.loop-place.paper _ _ _ c.loop-place.place (option_copied c.row_at-in-loop-place.result)
    c.index-more-place.result _ c.loop-place-test.true c.index-more-place.is c.row_at-in-loop-place.ensures c.in_ok-word.ensures
    c.in_ok-write_parameter-2.ensures c.loop-place.invariant
