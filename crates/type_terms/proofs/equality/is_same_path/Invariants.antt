use Rattle.std.proofs.Common.{◌≡◌, take}
use Rattle.type_terms.proofs.equality.is_same_path.Given as goal

abbrev pub invariant-loop-k : goal.invariant-loop-k
invariant-loop-k l = take l.k l.a ≡ take l.k l.b
