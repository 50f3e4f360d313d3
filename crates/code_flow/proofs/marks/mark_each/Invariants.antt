use Rattle.std.proofs.Common.{◌≡◌, drop}
use Rattle.code_flow.specs.Marks.{marked}
use Rattle.code_flow.proofs.marks.mark_each.Given as goal

abbrev pub invariant-loop-place : goal.invariant-loop-place
invariant-loop-place l = marked l.marks.items (drop l.place-index l.places) ≡ marked l.initial.marks.items l.places
