use Rattle.std.proofs.Common.{arith}
use Rattle.std.proofs.lemmas.Bool.{ltb-true, lt-ltb, leb-true}
use Rattle.row_groups.proofs.Owning.{in_run}
use Rattle.row_groups.proofs.owners.has_member.Goals as goal

pub returns-then-begin-member : goal.returns-then-begin-member
returns-then-begin-member c =
    let r = in_run c.args.image.now c.args.owners.table c.args.owners.column c.args.owners.members c.args.row c.args.member in
    let b = c.begin.ensures in
    let e = c.end.ensures in
    let f = c.from.ensures in
    let t = c.if-begin-member.true in (
      λ yes. let l = ltb-true c.from.result c.end.result yes in r.0 (omega arith, omega arith),
      λ has. lt-ltb c.from.result c.end.result (let l = (r.1 has).1 in omega arith),
    )

pub returns-else-begin-member : goal.returns-else-begin-member
returns-else-begin-member c =
    let r = in_run c.args.image.now c.args.owners.table c.args.owners.column c.args.owners.members c.args.row c.args.member in
    let b = c.begin.ensures in
    let t = c.if-begin-member.false in (
      λ yes. let l = leb-true c.begin.result c.args.member yes in absurd (omega arith),
      λ has. let l = (r.1 has).0 in absurd (omega arith),
    )
