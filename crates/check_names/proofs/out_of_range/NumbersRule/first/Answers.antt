use Rattle.std.proofs.Common.{◌++◌}
use Rattle.source_model.specs.OutOfRange.{barred_arguments, barred_in_property, data_too_long, param_out_of_range}
use Rattle.source_model.specs.TypeRules.{typars_out_of_range}
use Rattle.check_names.specs.ArrayNumbers.{declared_number, number_in_type}
use Rattle.check_names.proofs.ArrayLemmas.{next_rule}
use Rattle.check_names.proofs.out_of_range.NumbersRule.first.Goals as goal

pub returns : goal.returns
returns c s n r node derived =
    let p = node.production-is in
    let below = node.below-is in
    let declared = declared_number s n in
    let long = data_too_long s n in
    let param = param_out_of_range s n in
    let arguments = barred_arguments n in
    let property = barred_in_property n in
    let typed = number_in_type s n in
    next_rule c.sooner.result c.sooner-to_type.result c.typar_past_most.result (declared ++ long ++ param ++ arguments ++ property ++ typed) (typars_out_of_range n) c.sooner.ensures
    (next_rule c.sooner-to_type.result c.sooner-to_property.result c.in_ok-typed.typed (declared ++ long ++ param ++ arguments ++ property) typed c.sooner-to_type.ensures
    (next_rule c.sooner-to_property.result c.sooner-to_argument.result c.barred_of_property.result (declared ++ long ++ param ++ arguments) property c.sooner-to_property.ensures
    (next_rule c.sooner-to_argument.result c.sooner-to_param.result c.barred_argument.result (declared ++ long ++ param) arguments c.sooner-to_argument.ensures
    (next_rule c.sooner-to_param.result c.sooner-to_long.result c.param_number.result (declared ++ long) param c.sooner-to_param.ensures
    (next_rule c.sooner-to_long.result c.declared_number-declared.result c.in_ok-long.long declared long c.sooner-to_long.ensures
    (c.declared_number-declared.ensures s n r p below) (c.in_ok-long.ensures s n r p below derived.bodies))
    (c.param_number.ensures s n r node derived.parameters))
    (c.barred_argument.ensures n p below))
    (c.barred_of_property.ensures n p below))
    (c.in_ok-typed.ensures s n r p below))
    (c.typar_past_most.ensures n p below)
