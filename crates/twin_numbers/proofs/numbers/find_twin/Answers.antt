use Rattle.twin_numbers.proofs.numbers.find_twin.Goals as goal

pub find-requires-clause-linked : goal.find-requires-clause-linked
find-requires-clause-linked g c = c.requires.firsts.linked

pub find-requires-clause-may : goal.find-requires-clause-may
find-requires-clause-may g c = λ other has. let o = c.requires.firsts.only c.args.hash other has in (c.requires.ready, o.0, c.requires.within)
