use Rattle.source_model.specs.TypeRules.{parameter_flags_out_of_range}
use Rattle.check_names.specs.ArrayNumbers.{number_in_signature}
use Rattle.check_names.proofs.ArrayLemmas.{next_rule}
use Rattle.check_names.proofs.out_of_range.number_in_type.Goals as goal

pub returns : goal.returns
returns c s n r p below =
    next_rule c.sooner.result c.in_ok-signature.signature c.parameter_flags_number.result (number_in_signature s n) (parameter_flags_out_of_range s n)
    c.sooner.ensures (c.in_ok-signature.ensures s n r p below) (c.parameter_flags_number.ensures s n r p below)
