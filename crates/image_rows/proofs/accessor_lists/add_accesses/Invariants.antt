use Rattle.std.proofs.Common.{drop, map}
use Rattle.image_members.specs.Lists.{access_of}
use Rattle.image_rows.specs.SemanticsRows.{methods_of}
use Rattle.image_members.proofs.PlaceLemmas.{FilledTo}
use Rattle.image_rows.proofs.accessor_lists.add_accesses.Given as goal

abbrev pub invariant-loop-carrier : goal.invariant-loop-carrier
invariant-loop-carrier g l =
    FilledTo (map methods_of l.initial.all) (map methods_of l.all) (map (λ x. access_of l.first (g.T.Carries.value_of x)) l.carriers)
    (map (λ x. access_of l.first (g.T.Carries.value_of x)) (drop l.carrier-index l.carriers))
