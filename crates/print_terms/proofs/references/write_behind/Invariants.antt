use Rattle.std.proofs.Common.{◌≡◌, take, fold}
use Rattle.listing_model.specs.Types.{type_of}
use Rattle.print_terms.specs.Rows.{behind}
use Rattle.print_terms.proofs.references.write_behind.Given as goal

abbrev pub invariant-loop-of : goal.invariant-loop-of
invariant-loop-of l = l.paper ≡ fold (λ q t. behind q (type_of l.externs t)) l.initial.paper (take l.of-index l.types)
