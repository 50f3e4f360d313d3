use Rattle.std.proofs.Common.{refl, inl, inr, ◌∙◌, ap, sym}
use Rattle.type_hierarchy.specs.Hierarchy.{parent}
use Rattle.type_hierarchy.specs.Tables.{hierarchy_in}
use Rattle.type_order.proofs.StandingLemmas.{sides_parents, sides_no_top}
use Rattle.type_order.proofs.common.parents_of.Goals as goal

pub returns-in-Some-right-clause-ok : goal.returns-in-Some-right-clause-ok
returns-in-Some-right-clause-ok c = λ s t h.
    sides_parents (hierarchy_in c.args.tables.now) c.args.pool.now c.found_parent.new.pool c.found_parent-2.new.pool s t c.args.sides.now _ c.in-Some.left c.in-Some-right.right h c.requires.differ
    c.found_parent.ensures.extends c.found_parent-2.ensures.extends (rw c.in-Some.is at c.in_ok-left.ensures.ok) (rw c.in-Some-right.is at c.in_ok-right.ensures.ok) refl refl c.saturating_sub.ensures

pub returns-in-None-right-clause-ok : goal.returns-in-None-right-clause-ok
returns-in-None-right-clause-ok c = λ s t h.
    let w = hierarchy_in c.args.tables.now in
    absurd (sides_no_top w c.args.pool.now s t c.args.sides.now h c.requires.differ
    (inr (ap (parent w) (sym (c.found_parent.ensures.extends.terms c.args.sides.now.right c.requires.right)) ∙ (rw c.in-None-right.is at c.in_ok-right.ensures.ok))))

pub returns-in-None-clause-ok : goal.returns-in-None-clause-ok
returns-in-None-clause-ok c = λ s t h.
    absurd (sides_no_top (hierarchy_in c.args.tables.now) c.args.pool.now s t c.args.sides.now h c.requires.differ (inl (rw c.in-None.is at c.in_ok-left.ensures.ok)))
