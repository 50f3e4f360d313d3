use Rattle.std.proofs.Common.{◌≡◌, suc, drop, fold}
use Rattle.listing_model.specs.Bodies.{locals_from}
use Rattle.print_terms.specs.Rows.{behind}
use Rattle.print_bodies.proofs.locals.write_between.Given as goal

abbrev pub invariant-loop-place : goal.invariant-loop-place
invariant-loop-place l =
    fold behind l.paper (locals_from l.externs (suc l.place) (drop l.place l.more)) ≡ fold behind l.initial.paper (locals_from l.externs 1 l.more)
