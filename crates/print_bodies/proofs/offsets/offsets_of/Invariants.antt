use Rattle.std.proofs.Common.{◌≡◌, ◌++◌, drop}
use Rattle.print_bodies.specs.Offsets.{offsets_from}
use Rattle.print_bodies.proofs.offsets.offsets_of.Given as goal

abbrev pub invariant-loop-ins : goal.invariant-loop-ins
invariant-loop-ins l = l.offsets ++ offsets_from l.offset (drop l.ins-index l.code) ≡ offsets_from 0 l.code
