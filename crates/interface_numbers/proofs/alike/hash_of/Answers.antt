use Rattle.interface_numbers.proofs.Likening.{spec_hashed_is, name_hashed_is}
use Rattle.interface_numbers.proofs.alike.hash_of.Goals as goal

pub returns-then-table-eq27 : goal.returns-then-table-eq27
returns-then-table-eq27 g c =
    spec_hashed_is c.args.image.now (g.O.Owners.facts c.args.facts.now) c.args.row c.type_of-table.result.0 c.type_of-table.result.1 c.signature_of.result c.spec_hash.result c.type_of-table.ensures c.if-table-eq27.true c.signature_of.ensures c.spec_hash.ensures

pub returns : goal.returns
returns g c =
    name_hashed_is c.args.image.now (g.O.Owners.facts c.args.facts.now) c.args.row c.type_of-table.result.0 c.type_of-table.result.1 c.token_of.result c.name_hash.result c.type_of-table.ensures c.if-table-eq27.false c.token_of.ensures c.name_hash.ensures
