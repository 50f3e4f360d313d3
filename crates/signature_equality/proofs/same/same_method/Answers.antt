use Rattle.std.proofs.Common.{◌≡◌}
use Rattle.signature_equality.specs.Walking.{same_method}
use Rattle.signature_equality.proofs.EachKind.{answered, method_is}
use Rattle.signature_equality.proofs.same.same_method.Goals as goal

pub returns : goal.returns
returns g c = λ owners s t is e f.
    answered c.same_method.result (same_method (g.N.Numbering.canon c.args.numbers.now) (c.args.a.now, c.args.b.now)) c.is_some.result (s ≡ t) c.same_method.ensures c.is_some.ensures
    (method_is owners (g.N.Numbering.canon c.args.numbers.now) is c.args.a.now c.args.b.now s t e f)
