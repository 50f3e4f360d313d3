use Rattle.std.proofs.Common.{◌≡◌, ◌≤◌, ◌<◌, ◌^◌, Some, sym, ◌∙◌, refl, arith, rules}
use Rattle.owner_numbers.specs.declared.classes.Sorted.{Sorted}
use Rattle.owner_numbers.proofs.Steps.{class_by_index, class_found, kept, own_class}
use Rattle.owner_numbers.proofs.classes.class_of.Goals as goal

pub returns-in-Some-clause-class : goal.returns-in-Some-clause-class
returns-in-Some-clause-class g c =
    class_by_index c.args.given.now.image.now c.args.given.now.names.now (g.F.Owners.facts c.args.given.now.facts.now) c.requires.meets c.args.level c.args.row c.args.index c.in-Some.class c.args.sorted.now c.requires.sorted
    c.requires.index (search rules)

pub returns-in-Some-find_equal-clause-class : goal.returns-in-Some-find_equal-clause-class
returns-in-Some-find_equal-clause-class g c =
    class_found c.args.given.now.image.now (g.F.Owners.facts c.args.given.now.facts.now) c.args.level c.args.row c.hash_at-hash.result c.in-Some-find_equal.class c.args.sorted.now c.requires.sorted c.in-Some-find_equal.ensures.found.0 c.in-Some-find_equal.ensures.found.1

pub returns-clause-sorted : goal.returns-clause-sorted
returns-clause-sorted g c =
    kept c.args.given.now.image.now c.args.given.now.names.now (g.F.Owners.facts c.args.given.now.facts.now) c.requires.meets c.tokens_name_one_type.ensures c.args.level c.hash_at-hash.result c.args.row c.requires.within c.requires.level
    c.hash_at-hash.ensures c.args.sorted.now c.add.new.self c.requires.sorted c.in_ok-add.ensures.linked c.in_ok-add.ensures.added c.in_default-find_equal.ensures.none

pub returns-clause-class : goal.returns-clause-class
returns-clause-class g c =
    own_class c.args.given.now.image.now c.args.given.now.names.now (g.F.Owners.facts c.args.given.now.facts.now) c.requires.meets c.tokens_name_one_type.ensures c.args.level c.hash_at-hash.result c.args.row c.requires.within c.requires.level
    c.hash_at-hash.ensures c.args.sorted.now c.add.new.self c.requires.sorted c.in_ok-add.ensures.linked c.in_ok-add.ensures.added c.in_default-find_equal.ensures.none

pub overflow_cast-result : goal.overflow_cast-result
overflow_cast-result g c =
    let h = class_by_index c.args.given.now.image.now c.args.given.now.names.now (g.F.Owners.facts c.args.given.now.facts.now) c.requires.meets c.args.level c.args.row c.args.index c.in-Some.class c.args.sorted.now c.requires.sorted
    c.requires.index (search rules) in
    let b = h.0.1 in
    omega arith
