use Rattle.std.proofs.Common.{◌≡◌, take, map}
use Rattle.listing_model.specs.Types.{has_alias}
use Rattle.print_terms.proofs.keys.aliased_of.Given as goal

abbrev pub invariant-loop-k : goal.invariant-loop-k
invariant-loop-k l = l.aliased ≡ map (has_alias l.externs) (take l.k l.externs)
