use Rattle.std.proofs.Common.{◌≡◌}
use Rattle.signature_equality.specs.Walking.{same_field}
use Rattle.signature_equality.proofs.EachKind.{answered, field_is}
use Rattle.signature_equality.proofs.same.same_field.Goals as goal

pub returns : goal.returns
returns g c = λ owners s t is e f.
    answered c.same_field.result (same_field (g.N.Numbering.canon c.args.numbers.now) (c.args.a.now, c.args.b.now)) c.is_some.result (s ≡ t) c.same_field.ensures c.is_some.ensures
    (field_is owners (g.N.Numbering.canon c.args.numbers.now) is c.args.a.now c.args.b.now s t e f)
