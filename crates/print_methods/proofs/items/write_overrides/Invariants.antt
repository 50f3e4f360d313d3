use Rattle.std.proofs.Common.{◌≡◌, take, fold}
use Rattle.listing_model.specs.Methods.{override}
use Rattle.print_terms.specs.Rows.{under}
use Rattle.print_methods.proofs.items.write_overrides.Given as goal

abbrev pub invariant-loop-r : goal.invariant-loop-r
invariant-loop-r l = l.paper ≡ fold (λ q r. under q (override l.externs r)) l.initial.paper (take l.r-index l.overrides)
