use Rattle.std.proofs.Common.{◌≡◌, drop}
use Rattle.listing_model.specs.Bodies.{instructions}
use Rattle.print_terms.specs.Rows.{in_row}
use Rattle.print_bodies.proofs.instructions.write_instructions.Given as goal

abbrev pub invariant-loop-ins : goal.invariant-loop-ins
invariant-loop-ins l =
    in_row l.paper (instructions l.externs l.code l.offset (drop l.ins-index l.all)) ≡ in_row l.initial.paper (instructions l.externs l.code 0 l.all)
