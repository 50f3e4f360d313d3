use Rattle.std.proofs.Common.{◌++◌}
use Rattle.source_model.specs.OutOfRange.{constant_out_of_range, data_number_out_of_range, flags_out_of_range, layout_number_out_of_range, manifest_number_out_of_range}
use Rattle.check_names.proofs.ArrayLemmas.{next_rule}
use Rattle.check_names.proofs.out_of_range.declared_number.Goals as goal

pub returns : goal.returns
returns c s n r p below =
    let manifest = manifest_number_out_of_range s n in
    let flags = flags_out_of_range s n in
    let constants = constant_out_of_range s n in
    let layouts = layout_number_out_of_range s n in
    next_rule c.sooner.result c.sooner-to_layout.result c.data_number.result (manifest ++ flags ++ constants ++ layouts) (data_number_out_of_range s n) c.sooner.ensures
    (next_rule c.sooner-to_layout.result c.sooner-to_constant.result c.layout_number.result (manifest ++ flags ++ constants) layouts c.sooner-to_layout.ensures
    (next_rule c.sooner-to_constant.result c.sooner-to_flags.result c.constant_number.result (manifest ++ flags) constants c.sooner-to_constant.ensures
    (next_rule c.sooner-to_flags.result c.manifest_number-manifest.result c.flags_number.result manifest flags c.sooner-to_flags.ensures
    (c.manifest_number-manifest.ensures s n r p below) (c.flags_number.ensures s n r p below))
    (c.constant_number.ensures s n r p below))
    (c.layout_number.ensures s n r p below))
    (c.data_number.ensures s n r p below)
