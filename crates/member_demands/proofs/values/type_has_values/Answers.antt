use Rattle.std.proofs.Common.{IsTrue, true, false}
use Rattle.member_demands.proofs.ValueParts.{values_of_types}
use Rattle.member_demands.proofs.values.type_has_values.Goals as goal

pub returns-then-not-type_has_generics : goal.returns-then-not-type_has_generics
returns-then-not-type_has_generics c names = (
  λ never. cc,
  λ v.
      let yes = c.type_has_generics.ensures.1 ((values_of_types c.args.image.now names c.args.row c.requires.there).1 v).0 in
      let no = c.if-not-type_has_generics.true in cc,
)

pub returns : goal.returns
returns c names =
    let parts = values_of_types c.args.image.now names c.args.row c.requires.there in
    (λ yes. parts.0 (c.type_has_generics.ensures.0 c.if-not-type_has_generics.false, c.has_layout.ensures.0 yes), λ v. c.has_layout.ensures.1 (parts.1 v).1)
