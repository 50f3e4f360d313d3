use Rattle.std.proofs.Common.{◌≡◌, arith}
use Rattle.row_parts.proofs.Zips.{given_row, given_none}
use Rattle.row_parts.proofs.part.read_one.Goals as goal

pub returns-then-rows-eq0 : goal.returns-then-rows-eq0
returns-then-rows-eq0 g c = given_none (g.P.Part.gives c.args.part.now) c.args.rows.first c.args.rows.count c.if-rows-eq0.true

pub returns : goal.returns
returns g c =
    let one : c.args.rows.count ≡ 1 = (let some = c.if-rows-eq0.false in let most = c.requires.one in omega arith) in
    given_row (g.P.Part.gives c.args.part.now) c.args.rows.first c.args.rows.count c.in_ok-read.read one c.in_ok-read.ensures

pub read-requires : goal.read-requires
read-requires g c = c.requires.there (let some = c.if-rows-eq0.false in let most = c.requires.one in omega arith)
