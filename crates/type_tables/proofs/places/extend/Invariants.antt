use Rattle.std.proofs.Common.{◌≡◌, ◌++◌, take}
use Rattle.type_tables.proofs.places.extend.Given as goal

abbrev pub invariant-loop-id : goal.invariant-loop-id
invariant-loop-id l = l.path ≡ l.initial.path ++ take l.id-index l.more
