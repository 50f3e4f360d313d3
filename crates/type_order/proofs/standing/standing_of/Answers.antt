use Rattle.type_order.proofs.standing.standing_of.Goals as goal

pub returns-in-Some-clause-ok : goal.returns-in-Some-clause-ok
returns-in-Some-clause-ok c = c.requires.known.standings c.args.id c.in-Some.standing c.in-Some.ensures
