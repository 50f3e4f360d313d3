use Rattle.std.proofs.Common.{ℕ, List, sym, subst}
use Rattle.owner_numbers.specs.Canon.{MayCompare}
use Rattle.owner_numbers.proofs.Steps.{may_compare}
use Rattle.owner_numbers.proofs.classes.find_equal.Goals as goal

pub find-requires-clause-linked : goal.find-requires-clause-linked
find-requires-clause-linked g c = c.requires.sorted.linked

pub find-requires-clause-may : goal.find-requires-clause-may
find-requires-clause-may g c = λ class has.
    subst (λ (cs : List ℕ). MayCompare (record { image = c.args.given.now.image.now; named = c.args.given.now.names.now.named; classes = cs }) c.args.row class) (sym c.as_slice.ensures.value)
    (may_compare c.args.given.now.image.now c.args.given.now.names.now (g.F.Owners.facts c.args.given.now.facts.now) c.requires.meets c.tell_names.ensures c.args.level c.args.row c.requires.within c.requires.level
    c.args.sorted.now c.requires.sorted c.requires.done c.args.hash class has)
