use Rattle.std.proofs.Common.{◌≡◌, take, fold}
use Rattle.listing_model.specs.Methods.{method}
use Rattle.print_terms.specs.Rows.{under}
use Rattle.print_methods.proofs.methods.write_methods.Given as goal

abbrev pub invariant-loop-method : goal.invariant-loop-method
invariant-loop-method l = l.paper ≡ fold (λ q m. under q (method l.externs m)) l.initial.paper (take l.method-index l.methods)
