use Rattle.std.proofs.Common.{IsTrue, true, false}
use Rattle.member_demands.proofs.ValueParts.{values_of_properties}
use Rattle.member_demands.proofs.values.property_has_values.Goals as goal

pub returns-then-not-property_has_constants : goal.returns-then-not-property_has_constants
returns-then-not-property_has_constants c names = (
  λ never. cc,
  λ v.
      let yes = c.property_has_constants.ensures.1 ((values_of_properties c.args.image.now names c.args.row c.requires.there).1 v).0 in
      let no = c.if-not-property_has_constants.true in cc,
)

pub returns : goal.returns
returns c names =
    let parts = values_of_properties c.args.image.now names c.args.row c.requires.there in
    (λ yes. parts.0 (c.property_has_constants.ensures.0 c.if-not-property_has_constants.false, c.property_has_kinds.ensures.0 yes), λ v. c.property_has_kinds.ensures.1 (parts.1 v).1)
