use Rattle.std.proofs.Common.{◌≡◌, take}
use Rattle.std.specs.List.{sum_by}
use Rattle.assembly_tree.specs.WellFormedBodies.{size_of}
use Rattle.body_verifier.proofs.sizes.code_size.Given as goal

abbrev pub invariant-loop-ins : goal.invariant-loop-ins
invariant-loop-ins l = l.size ≡ sum_by size_of (take l.ins-index l.code)
