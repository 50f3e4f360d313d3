use Rattle.std.proofs.Common.{◌≡◌, drop}
use Rattle.listing_model.specs.Manifests.{extern_lines}
use Rattle.print_terms.specs.Rows.{in_row}
use Rattle.print_manifests.proofs.externs.write_externs.Given as goal

abbrev pub invariant-loop-place : goal.invariant-loop-place
invariant-loop-place l =
    in_row l.paper (extern_lines l.externs l.place (drop l.place l.externs)) ≡ in_row l.initial.paper (extern_lines l.externs 0 l.externs)
