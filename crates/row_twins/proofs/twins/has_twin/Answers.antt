use Rattle.std.proofs.Common.{refl}
use Rattle.row_twins.proofs.Seeing.{twin_found, no_twin}
use Rattle.row_twins.proofs.twins.has_twin.Goals as goal

pub find-requires-clause-may : goal.find-requires-clause-may
find-requires-clause-may g c = λ other has. let o = c.requires.seen.only c.args.hash other has in (c.requires.ready, (o.0, o.2), c.requires.within)

pub returns-in-Some : goal.returns-in-Some
returns-in-Some g c =
    let rows = c.args.rows.now in
    let found = c.in-Some.ensures.found in
    (λ t. twin_found (g.L.Likeness.rows rows) (g.L.Likeness.alike rows) (g.L.Likeness.hashed rows) c.args.seen.now c.args.row c.args.hash c.requires.seen c.in-Some.field-0 found.0 found.1, λ _. refl)

pub returns-in-None : goal.returns-in-None
returns-in-None g c =
    let rows = c.args.rows.now in (
      λ t. absurd cc,
      λ has. absurd (no_twin (g.L.Likeness.rows rows) (g.L.Likeness.alike rows) (g.L.Likeness.hashed rows) c.args.seen.now c.args.row c.args.hash c.requires.seen c.requires.within
          c.alike_are_hashed_alike.ensures c.requires.hashed c.in-None.ensures.none has),
    )
