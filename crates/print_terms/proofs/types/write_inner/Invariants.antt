use Rattle.std.proofs.Common.{◌≡◌, take, fold}
use Rattle.listing_model.specs.Types.{slash_name}
use Rattle.print_terms.specs.Rows.{under}
use Rattle.print_terms.proofs.types.write_inner.Given as goal

abbrev pub invariant-loop-id : goal.invariant-loop-id
invariant-loop-id l = l.paper ≡ fold (λ q id. under q (slash_name id)) l.initial.paper (take l.id-index l.path)
