use Rattle.std.proofs.Common.{refl}
use Rattle.attribute_demands.proofs.Attributed.{by_definition, member_there, by_member}
use Rattle.attribute_demands.proofs.constructors.has_constructor.Goals as goal

pub is_method-requires : goal.is_method-requires
is_method-requires g c =
    member_there c.args.image.now (g.O.Owners.facts c.args.facts.now) c.requires.can c.args.row c.constructor_of-table.result.0 c.constructor_of-table.result.1 c.requires.there c.constructor_of-table.ensures c.if-table-eq6.false

pub returns-then-table-eq6 : goal.returns-then-table-eq6
returns-then-table-eq6 g c = (
  λ t. by_definition c.args.image.now (g.O.Owners.facts c.args.facts.now) c.requires.can c.args.row c.constructor_of-table.result.0 c.constructor_of-table.result.1 c.requires.there c.constructor_of-table.ensures c.if-table-eq6.true,
  λ h. refl,
)

pub returns : goal.returns
returns g c =
    let m = by_member c.args.image.now (g.O.Owners.facts c.args.facts.now) c.requires.can c.args.row c.constructor_of-table.result.0 c.constructor_of-table.result.1 c.requires.there c.constructor_of-table.ensures c.if-table-eq6.false in
    (λ t. m.0 (c.is_method.ensures.0 t), λ h. c.is_method.ensures.1 (m.1 h))
