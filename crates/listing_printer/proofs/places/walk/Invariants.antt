use Rattle.std.proofs.Common.{◌≡◌, drop}
use Rattle.listing_printer.specs.Ways.{onward}
use Rattle.listing_printer.proofs.places.walk.Given as goal

abbrev pub invariant-loop-place : goal.invariant-loop-place
invariant-loop-place l = onward l.inner l.found l.path (drop l.place-index l.places) ≡ onward l.fn.types l.fn.methods l.initial.path l.places
