use Rattle.std.proofs.Common.{drop}
use Rattle.image_members.proofs.GenericLemmas.{GenericsTo}
use Rattle.image_members.proofs.generic_rows.push_generics.Given as goal

abbrev pub invariant-loop-generic : goal.invariant-loop-generic
invariant-loop-generic l = GenericsTo l.owner l.number l.initial.refs l.refs l.initial.rows l.rows l.generics (drop l.generic-index l.generics)
