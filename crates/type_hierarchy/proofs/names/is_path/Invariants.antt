use Rattle.std.proofs.Common.{◌≡◌, take}
use Rattle.type_hierarchy.proofs.names.is_path.Given as goal

abbrev pub invariant-loop-k : goal.invariant-loop-k
invariant-loop-k l = take l.k l.a ≡ take l.k l.b
