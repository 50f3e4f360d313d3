use Rattle.std.proofs.Common.{◌≡◌, take, fold}
use Rattle.listing_model.specs.Bodies.{comma_name}
use Rattle.print_terms.specs.Rows.{under}
use Rattle.print_bodies.proofs.operands.write_other_targets.Given as goal

abbrev pub invariant-loop-target : goal.invariant-loop-target
invariant-loop-target l = l.paper ≡ fold (λ q k. under q (comma_name l.code k)) l.initial.paper (take l.target-index l.places)
