use Rattle.member_demands.proofs.ValueParts.{values_of_params}
use Rattle.member_demands.proofs.values.param_has_values.Goals as goal

pub returns : goal.returns
returns c names =
    let parts = values_of_params c.args.image.now names c.args.row c.requires.there in
    (λ yes. parts.0 (c.param_has_constants.ensures.0 yes), λ v. c.param_has_constants.ensures.1 (parts.1 v))
