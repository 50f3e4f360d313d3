use Rattle.std.proofs.Common.{◌≡◌, take, fold}
use Rattle.listing_model.specs.Members.{typar}
use Rattle.print_terms.specs.Rows.{behind}
use Rattle.print_members.proofs.generics.write_between.Given as goal

abbrev pub invariant-loop-generic : goal.invariant-loop-generic
invariant-loop-generic l = l.paper ≡ fold (λ q g. behind q (typar l.externs g)) l.initial.paper (take l.generic-index l.more)
