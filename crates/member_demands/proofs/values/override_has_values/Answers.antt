use Rattle.member_demands.proofs.ValueParts.{values_of_overrides}
use Rattle.member_demands.proofs.values.override_has_values.Goals as goal

pub returns : goal.returns
returns c names =
    let parts = values_of_overrides c.args.image.now names c.args.row c.requires.there in
    (λ yes. parts.0 (c.overrides_in_class.ensures.0 yes), λ v. c.overrides_in_class.ensures.1 (parts.1 v))
