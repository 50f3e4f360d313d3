use Rattle.std.proofs.Common.{◌<◌, arith}
use Rattle.data_demands.proofs.sizes.size_of_type.Goals as goal

pub returns-then-row-eq0 : goal.returns-then-row-eq0
returns-then-row-eq0 c size =
    let none = c.if-row-eq0.true in
    (λ h. let some = h.0 in absurd (omega arith), λ s. let zero = s.0 in let some = s.1 in absurd (omega arith))

pub class_size-requires-clause-meets : goal.class_size-requires-clause-meets
class_size-requires-clause-meets c = c.requires.can.meets

pub class_size-requires-clause-one : goal.class_size-requires-clause-one
class_size-requires-clause-one c = c.requires.layouts c.args.row (c.requires.there (let other = c.if-row-eq0.false in omega arith))

pub returns : goal.returns
returns c size =
    let some : 0 < c.args.row = let other = c.if-row-eq0.false in omega arith in
    (λ h. (c.class_size.ensures size).0 h.1, λ s. (some, (c.class_size.ensures size).1 s))
