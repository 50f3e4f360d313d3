use Rattle.std.proofs.Common.{◌≡◌, take, fold}
use Rattle.listing_model.specs.Types.{owner}
use Rattle.print_terms.specs.Rows.{behind}
use Rattle.print_members.proofs.generics.write_owners.Given as goal

abbrev pub invariant-loop-of : goal.invariant-loop-of
invariant-loop-of l = l.paper ≡ fold (λ q o. behind q (owner l.externs o)) l.initial.paper (take l.of-index l.more)
