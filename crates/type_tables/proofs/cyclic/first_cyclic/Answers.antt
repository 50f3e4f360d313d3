use Rattle.std.proofs.Common.{ℕ, List, refl, sym, ◌∙◌, subst}
use Rattle.type_tables.specs.Walks.{NeverRises}
use Rattle.type_tables.proofs.ReachLemmas.{found}
use Rattle.type_tables.proofs.CycleLemmas.{none_by_numbers, first_by_numbers}
use Rattle.type_tables.proofs.cyclic.first_cyclic.Goals as goal

pub returns-in_default : goal.returns-in_default
returns-in_default c = none_by_numbers c.args.steps.now c.as_slice.result.now c.in_default.ensures

pub returns-then-contains : goal.returns-then-contains
returns-then-contains c =
    first_by_numbers c.args.steps.now c.as_slice.result.now c.in-Some.k c.in-Some.ensures.0 c.in-Some.ensures.1 (subst (λ (l : List ℕ). NeverRises c.args.steps.now l) (c.as_slice-2.ensures ∙ sym c.as_slice.ensures) (c.if-never_rises.ensures refl))
    (c.in_ok-seen.ensures.only c.in-Some.k (found c.in_ok-seen.seen.keys c.in-Some.k (sym c.contains.ensures ∙ c.if-contains.true)))
