use Rattle.std.proofs.Common.{◌≡◌, ℕ, ◌+◌, ◌<◌, ◌≤◌, length, refl, sym, ap, ◌∙◌, arith}
use Rattle.std.specs.Prelude.{slice_index}
use Rattle.std.specs.Vec.{with_item}
use Rattle.std.proofs.lemmas.Bool.{false≢true}
use Rattle.owner_numbers.specs.Terms.{spec_count}
use Rattle.owner_numbers.specs.declared.classes.Sorted.{Sorted}
use Rattle.owner_numbers.proofs.Steps.{noted, done_more, done_past, done_moved, set_long, set_same, set_other}
use Rattle.owner_numbers.proofs.classes.sort_row.Goals as goal

pub returns-then-not-has_level-clause-done : goal.returns-then-not-has_level-clause-done
returns-then-not-has_level-clause-done g c =
    done_past c.args.given.now.image.now (g.F.Owners.facts c.args.given.now.facts.now) c.args.sorted.now c.args.level c.args.row (λ e. false≢true (sym c.if-not-has_level.true ∙ c.has_level.ensures.1 e)) c.requires.done

pub returns-clause-sorted : goal.returns-clause-sorted
returns-clause-sorted g c =
    let old = c.class_of.new.sorted in
    let new : Sorted = record { classes = with_item old.classes c.args.row c.in_ok-class.class; by_index = c.insert.new.self; firsts = old.firsts } in
    let long = c.in_ok-class.ensures.sorted.long in
    let b = c.requires.within.1 in
    let lt : c.args.row < length old.classes.items = omega arith in
    noted c.args.given.now.image.now (g.F.Owners.facts c.args.given.now.facts.now) c.args.level c.args.row c.in_ok-class.class c.index_of-index.result old new c.in_ok-class.ensures.sorted c.requires.within c.index_of-index.ensures
    c.in_ok-class.ensures.class refl (set_long old.classes.items c.args.row c.in_ok-class.class) (set_same old.classes.items c.args.row c.in_ok-class.class lt) (λ q other. set_other old.classes.items q c.args.row c.in_ok-class.class other) (λ q. rw (sym c.from.ensures) (c.in_ok-insert.ensures.ok q))

pub returns-clause-done : goal.returns-clause-done
returns-clause-done g c =
    let old = c.class_of.new.sorted in
    let new : Sorted = record { classes = with_item old.classes c.args.row c.in_ok-class.class; by_index = c.insert.new.self; firsts = old.firsts } in
    let long = c.in_ok-class.ensures.sorted.long in
    let b = c.requires.within.1 in
    let lt : c.args.row < length old.classes.items = omega arith in
    let e : old.classes.items ≡ c.args.sorted.now.classes.items = cc in
    done_more c.args.given.now.image.now (g.F.Owners.facts c.args.given.now.facts.now) c.args.level c.args.row c.in_ok-class.class c.index_of-index.result old new c.in_ok-class.ensures.sorted c.requires.within c.index_of-index.ensures
    c.in_ok-class.ensures.class refl (set_long old.classes.items c.args.row c.in_ok-class.class) (set_same old.classes.items c.args.row c.in_ok-class.class lt) (λ q other. set_other old.classes.items q c.args.row c.in_ok-class.class other) (λ q. rw (sym c.from.ensures) (c.in_ok-insert.ensures.ok q))
    (done_moved c.args.given.now.image.now (g.F.Owners.facts c.args.given.now.facts.now) c.args.sorted.now old c.args.level c.args.row e c.requires.done)
