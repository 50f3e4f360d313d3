use Rattle.std.proofs.Common.{◌≡◌}
use Rattle.signature_equality.specs.Walking.{same_property}
use Rattle.signature_equality.proofs.EachKind.{answered, property_is}
use Rattle.signature_equality.proofs.same.same_property.Goals as goal

pub returns : goal.returns
returns g c = λ owners s t is e f.
    answered c.same_property.result (same_property (g.N.Numbering.canon c.args.numbers.now) (c.args.a.now, c.args.b.now)) c.is_some.result (s ≡ t) c.same_property.ensures c.is_some.ensures
    (property_is owners (g.N.Numbering.canon c.args.numbers.now) is c.args.a.now c.args.b.now s t e f)
