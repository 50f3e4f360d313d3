use Rattle.std.proofs.Common.{◌≡◌, suc, drop, fold}
use Rattle.listing_model.specs.Methods.{parameters}
use Rattle.print_terms.specs.Rows.{behind}
use Rattle.print_methods.proofs.params.write_between.Given as goal

abbrev pub invariant-loop-place : goal.invariant-loop-place
invariant-loop-place l =
    fold behind l.paper (parameters l.externs l.rows (suc (suc l.place)) (drop l.place l.more)) ≡ fold behind l.initial.paper (parameters l.externs l.rows 2 l.more)
