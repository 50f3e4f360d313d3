use Rattle.std.proofs.Common.{◌≡◌}
use Rattle.signature_equality.specs.Walking.{same_type}
use Rattle.signature_equality.proofs.EachKind.{answered, type_is}
use Rattle.signature_equality.proofs.same.same_type.Goals as goal

pub returns : goal.returns
returns g c = λ owners s t is e f.
    answered c.same_type.result (same_type (g.N.Numbering.canon c.args.numbers.now) 100 (c.args.a.now, c.args.b.now)) c.is_some.result (s ≡ t) c.same_type.ensures c.is_some.ensures
    (type_is owners (g.N.Numbering.canon c.args.numbers.now) is c.args.a.now c.args.b.now s t e f)
