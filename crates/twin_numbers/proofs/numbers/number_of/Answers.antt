use Rattle.twin_numbers.proofs.Numbering.{more_firsts, firsts_stay, is_own}
use Rattle.twin_numbers.proofs.numbers.number_of.Goals as goal

pub returns-in-Some-clause-number : goal.returns-in-Some-clause-number
returns-in-Some-clause-number g c = (c.hash_of-hash.result, c.in-Some.ensures.found.0, c.in-Some.ensures.found.1)

pub add-requires : goal.add-requires
add-requires g c = c.requires.firsts.linked

pub returns-clause-firsts : goal.returns-clause-firsts
returns-clause-firsts g c =
    let rows = c.args.rows.now in
    more_firsts (g.L.Likeness.rows rows) (g.L.Likeness.alike rows) (g.L.Likeness.hashed rows) c.requires.same c.alike_are_hashed_alike.ensures c.args.firsts.now c.add.new.self c.hash_of-hash.result c.args.row c.requires.firsts
    c.in_ok-add.ensures.linked c.in_ok-add.ensures.added c.requires.within c.hash_of-hash.ensures c.in_default.ensures.none

pub returns-clause-stay : goal.returns-clause-stay
returns-clause-stay g c =
    let rows = c.args.rows.now in
    firsts_stay (g.L.Likeness.rows rows) (g.L.Likeness.alike rows) (g.L.Likeness.hashed rows) c.requires.same c.alike_are_hashed_alike.ensures c.args.firsts.now c.add.new.self c.hash_of-hash.result c.args.row c.requires.firsts
    c.in_ok-add.ensures.linked c.in_ok-add.ensures.added c.requires.within c.hash_of-hash.ensures c.in_default.ensures.none

pub returns-clause-number : goal.returns-clause-number
returns-clause-number g c =
    let rows = c.args.rows.now in
    is_own (g.L.Likeness.rows rows) (g.L.Likeness.alike rows) (g.L.Likeness.hashed rows) c.requires.same c.alike_are_hashed_alike.ensures c.args.firsts.now c.add.new.self c.hash_of-hash.result c.args.row c.requires.firsts
    c.in_ok-add.ensures.linked c.in_ok-add.ensures.added c.requires.within c.hash_of-hash.ensures c.in_default.ensures.none
