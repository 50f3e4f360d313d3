use Rattle.std.proofs.Common.{◌≡◌, ◌++◌, take}
use Rattle.sig_pool.proofs.shape.write_ids.Given as goal

abbrev pub invariant-loop-id : goal.invariant-loop-id
invariant-loop-id l = l.key ≡ l.initial.key ++ take l.id-index l.ids
