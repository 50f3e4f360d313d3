use Rattle.std.proofs.Common.{◌++◌}
use Rattle.source_model.specs.TypeRules.{arguments_out_of_range, generic_number_out_of_range, index_out_of_range, second_ellipsis}
use Rattle.check_names.specs.ArrayNumbers.{array_number}
use Rattle.check_names.proofs.ArrayLemmas.{next_rule}
use Rattle.check_names.proofs.out_of_range.number_in_signature.Goals as goal

pub returns : goal.returns
returns c s n r p below =
    let index = index_out_of_range s n in
    let arrays = array_number s n in
    let generic = generic_number_out_of_range s n in
    let arguments = arguments_out_of_range n in
    let ellipsis = second_ellipsis n in
    next_rule c.sooner-to_ellipsis.result c.sooner-to_argument.result c.second_ellipsis.result (index ++ arrays ++ generic ++ arguments) ellipsis c.sooner-to_ellipsis.ensures
    (next_rule c.sooner-to_argument.result c.sooner-to_generic.result c.argument_past_most.result (index ++ arrays ++ generic) arguments c.sooner-to_argument.ensures
    (next_rule c.sooner-to_generic.result c.sooner-to_array.result c.generic_number.result (index ++ arrays) generic c.sooner-to_generic.ensures
    (next_rule c.sooner-to_array.result c.index_number.result c.in_ok-array.array index arrays c.sooner-to_array.ensures
    (c.index_number.ensures s n r p below) (c.in_ok-array.ensures s n r p below))
    (c.generic_number.ensures s n r p below))
    (c.argument_past_most.ensures n p below))
    (c.second_ellipsis.ensures n p below)
